-- What holds while bytes are written piece by piece.
use Rattle.std.proofs.Common.{◌≡◌, ◌+◌, ◌<◌, ◌++◌, ℕ, List, take, drop, Option, Some, None, Ok, Err, sym, ap, ◌∙◌, arith, length, length-drop}
use Rattle.std.proofs.lemmas.Grind.{common_steps}
use Rattle.std.proofs.Math.Seq.{take-add}
use Rattle.sdc_base.specs.declared.outside.Channel.{Channel}
use Rattle.sdc_base.specs.declared.outside.Channel.TheVariants.{Report, Faults, Merged}
use Rattle.sdc_base.specs.declared.outside.Refusal.{Refusal}
use Rattle.sdc_base.specs.Channels.{Written, appended, Writes, WritesAll}

-- the bytes stand at the end of the channel
abbrev pub WrittenSoFar : Channel → List ℕ → Option Written → Option Written → Type 0
WrittenSoFar channel bytes None None = Unit {0}
WrittenSoFar channel bytes None (Some now) = ⊥
WrittenSoFar channel bytes (Some before) None = ⊥
WrittenSoFar channel bytes (Some before) (Some now) = now ≡ appended channel bytes before

pub appended_twice : (channel : Channel) (xs ys : List ℕ) (start : Written) → appended channel ys (appended channel xs start) ≡ appended channel (xs ++ ys) start
appended_twice Report xs ys start = grind (arith, common_steps)
appended_twice Faults xs ys start = grind (arith, common_steps)
appended_twice Merged xs ys start = grind (arith, common_steps)

pub front_more : (bytes : List ℕ) (done count : ℕ) → take done bytes ++ take count (drop done bytes) ≡ take (done + count) bytes
front_more bytes done count = sym (take-add done count bytes)

pub more_written : (channel : Channel) (bytes piece : List ℕ) (done count : ℕ) (before now after : Option Written) → piece ≡ drop done bytes → WrittenSoFar channel (take done bytes) before now → Writes channel piece (Ok count) now after → WrittenSoFar channel (take (done + count) bytes) before after
more_written channel bytes piece done count None None None p so_far next = tt
more_written channel bytes piece done count None None (Some after) p so_far next = next
more_written channel bytes piece done count None (Some now) after p so_far next = absurd so_far
more_written channel bytes piece done count (Some before) None after p so_far next = absurd so_far
more_written channel bytes piece done count (Some before) (Some now) None p so_far next = absurd next
more_written channel bytes piece done count (Some before) (Some now) (Some after) p so_far next =
    next ∙ (ap (λ (xs : List ℕ). appended channel (take count xs) now) p ∙ (ap (λ (w : Written). appended channel (take count (drop done bytes)) w) so_far ∙ (appended_twice channel (take done bytes) (take count (drop done bytes)) before ∙ ap (λ (xs : List ℕ). appended channel xs before) (front_more bytes done count))))

left : (bytes : List ℕ) (done : ℕ) → done < length bytes → 0 < length (drop done bytes)
left bytes done less = rw (length-drop done bytes) (omega (arith, less))

pub refused_write : (channel : Channel) (bytes piece : List ℕ) (done : ℕ) (refusal : Refusal) (before now after : Option Written) → done < length bytes → WrittenSoFar channel (take done bytes) before now → Writes channel piece (Err refusal) now after → WritesAll channel bytes (Err refusal) before after
refused_write channel bytes piece done refusal None None None less so_far next = tt
refused_write channel bytes piece done refusal None None (Some after) less so_far next = next
refused_write channel bytes piece done refusal None (Some now) after less so_far next = absurd so_far
refused_write channel bytes piece done refusal (Some before) None after less so_far next = absurd so_far
refused_write channel bytes piece done refusal (Some before) (Some now) None less so_far next = absurd next
refused_write channel bytes piece done refusal (Some before) (Some now) (Some after) less so_far next =
    (take done bytes, drop done bytes, grind (arith, common_steps), left bytes done less, next ∙ so_far)
