-- Bytes that are added to a sink one after the other, and none; counts past 64 bits.
use Rattle.std.proofs.Common.{◌≡◌, ℕ, List, [], ◌++◌, Result, Ok, Err, OnErr, ap, ◌∙◌, arith, append_assoc, length-append, add-zero, subst, sym}
use Rattle.std.proofs.lemmas.List.{append-nil}
use Rattle.sdc_print.specs.declared.sinks.Sink.{Sink}
use Rattle.sdc_print.specs.declared.sinks.Sink.TheVariants.{Bytes, Count}
use Rattle.sdc_print.specs.Added.{added, Overflows}

pub added_added : (s : Sink) (a b : List ℕ) → added (added s a) b ≡ added s (a ++ b)
unfolding added
added_added (Bytes bytes) a b = ap Bytes (append_assoc bytes a b)
added_added (Count count) a b = ap Count (omega (arith, length-append a b))

pub added_none : (s : Sink) → added s [] ≡ s
unfolding added
added_none (Bytes bytes) = ap Bytes (append-nil bytes)
added_none (Count count) = ap Count (add-zero count)

-- several one after the other
pub added_five : (s : Sink) (a b c d e : List ℕ) → added (added (added (added (added s a) b) c) d) e ≡ added s (a ++ (b ++ (c ++ (d ++ e))))
added_five s a b c d e = simp (added_added, append_assoc)

pub added_nine : (s : Sink) (a b c d e f g h i : List ℕ) → added (added (added (added (added (added (added (added (added s a) b) c) d) e) f) g) h) i ≡ added s (a ++ (b ++ (c ++ (d ++ (e ++ (f ++ (g ++ (h ++ i))))))))
added_nine s a b c d e f g h i = simp (added_added, append_assoc)

-- a loop that adds piece by piece: what it adds in all is what was added and what is left
pub goes_on : (start before after : Sink) (all left piece rest : List ℕ) → added start all ≡ added before left → after ≡ added before piece → left ≡ piece ++ rest → added start all ≡ added after rest
goes_on start before after all left piece rest i e p =
    i ∙ ap (added before) p ∙ sym (added_added before piece rest) ∙ ap (λ s. added s rest) (sym e)

pub ends : (start now : Sink) (all left : List ℕ) → added start all ≡ added now left → left ≡ [] → now ≡ added start all
ends start now all left i e = sym (added_none now) ∙ ap (added now) (sym e) ∙ sym i

pub added_three : (s : Sink) (a b c : List ℕ) → added (added (added s a) b) c ≡ added s (a ++ (b ++ c))
added_three s a b c = simp (added_added, append_assoc)

-- what a sink that began with no bytes keeps
pub kept_bytes : (out : Sink) (start bytes text : List ℕ) → start ≡ [] → out ≡ added (Bytes start) text → out ≡ Bytes bytes → bytes ≡ text
unfolding added
kept_bytes out start bytes text s e f =
    let g : bytes ≡ start ++ text = cc in
    g ∙ ap (λ l. l ++ text) s

-- ---- counts past 64 bits

-- what passes them does so with more bytes
pub longer : (s : Sink) (more : List ℕ) → Overflows s → Overflows (added s more)
unfolding added Overflows
longer (Bytes bytes) more h = tt
longer (Count count) more h = omega arith

-- what holds in any case, or of a sink that is the same, is so where a call errs
pub refused : {T E : Type 0} {P : Type 0} (r : Result T E) → P → OnErr r P
refused (Ok x) p = tt
refused (Err e) p = p

pub stops : {T E : Type 0} (r : Result T E) {s t : Sink} → s ≡ t → Overflows s → OnErr r (Overflows t)
stops (Ok x) e o = tt
stops (Err x) e o = subst Overflows e o

-- where a piece of a loop that adds piece by piece passes them, all that it adds does
pub within : (start before : Sink) (all left piece rest : List ℕ) → added start all ≡ added before left → left ≡ piece ++ rest → Overflows (added before piece) → Overflows (added start all)
within start before all left piece rest i p o =
    subst Overflows (added_added before piece rest ∙ ap (added before) (sym p) ∙ sym i) (longer (added before piece) rest o)
