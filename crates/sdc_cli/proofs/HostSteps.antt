-- What the run of a mode file's text tells is what its bytes say.
use Rattle.std.proofs.Common.{◌≡◌, ◌≤◌, ◌+◌, ◌-◌, ℕ, zero, suc, Bool, true, false, cond, List, [], ◌∷◌, ◌++◌, length, Option, Some, None, Result, Ok, Err, refl, sym, ◌∙◌, ap, subst, inl, inr, arith}
use Rattle.std.proofs.lemmas.Bool.Decides.{nat_tests}
use Rattle.std.specs.Option.{option_map}
use Rattle.std.specs.Prelude.{nat_lt, slice_get}
use Rattle.std.specs.Str.{IsUtf8}
use Rattle.sdc_base.specs.Gives.{Gives, Meets}
use Rattle.sdc_base.specs.declared.memory.At.{At}
use Rattle.sdc_base.specs.declared.memory.Stop.{Stop}
use Rattle.sdc_base.specs.declared.memory.Stop.TheVariants as stop
use Rattle.timing_types.specs.declared.clocks.Clock.{Clock}
use Rattle.source_types.specs.declared.kinds.Kind.{Kind}
use Rattle.source_types.specs.declared.kinds.Kind.TheVariants.{NotText, Sdc}
use Rattle.source_types.specs.declared.kinds.SdcKind.{SdcKind}
use Rattle.tcl_model.specs.BuiltIns.{no_text as empty_text}
use Rattle.timing_types.specs.declared.modes.Mode.{Mode}
use Rattle.timing_types.specs.declared.objects.Value.{Value}
use Rattle.mode_model.specs.ClockCommands.{ClockOptions, clock_by, clock_of, clock_options, no_options, value_texts}
use Rattle.mode_model.specs.ClockFile.{SoFar, clock_mode, nothing}
use Rattle.text_model.specs.LastLine.{broken_text_line}
use Rattle.tcl_model.specs.HostCalls.{Answered}
use Rattle.mode_model.specs.ModeHost.{Answer, IsAnswered, adds_clock, answer, mode_host}
use Rattle.mode_model.specs.ModeMeaning.{Said, SaysMode, SaysText}
use Rattle.sdc_model.specs.ModeFiles.{or_too_many, within_limit}
use Rattle.constraint_model.specs.RunLimits.{line_beyond}
use Rattle.tcl_model.specs.ScriptRun.{Runs}
use Rattle.sdc_cli.specs.ModeBytes.{SaysAtMost, made_mode}

-- ---- an answer

-- where the host refuses it is as it was
left : (contents : Answer) (kind : Kind) (before after : SoFar) → IsAnswered contents before (Err kind) after → after ≡ before
left (Ok done) kind before after t = let e : Err kind ≡ Ok done.0 = t.0 in absurd (cc)
left (Err refusal) kind before after t = t.1

pub answered : (line : ℕ) (name : List ℕ) (words : List Value) (before after : SoFar) (result : Result Value (Stop Kind))
    → Meets result (λ given. IsAnswered (answer before line name words) before given after)
    → Meets result (λ given. Answered (mode_host.Answers line name words) before given after)
answered line name words before after (Ok v) t = t
answered line name words before after (Err (stop.Refused kind)) t = (t, left (answer before line name words) kind before after t)
answered line name words before after (Err stop.NoMemory) t = tt

-- a clock that was read, and one that was not
pub added : (so_far next : SoFar) (made : Result Clock SdcKind) (clock : Clock) (given : Value) → made ≡ Ok clock → given ≡ empty_text
    → next ≡ record so_far { clocks = so_far.clocks ++ clock ∷ [] } → IsAnswered (adds_clock so_far made) so_far (Ok given) next
added so_far next made clock given e g n =
    subst (λ (m : Result Clock SdcKind). IsAnswered (adds_clock so_far m) so_far (Ok given) next) (sym e) (ap (λ v. Ok v) g, n)

pub not_added : (so_far : SoFar) (made : Result Clock SdcKind) (kind : SdcKind) → made ≡ Err kind → IsAnswered (adds_clock so_far made) so_far (Err (Sdc kind)) so_far
not_added so_far made kind e =
    subst (λ (m : Result Clock SdcKind). IsAnswered (adds_clock so_far m) so_far (Err (Sdc kind)) so_far) (sym e) (refl, refl)

-- the clock of the options that were read
pub options_found : (clocks : List Clock) (line : ℕ) (words : List Value) (given : Option ClockOptions) (result : Result Clock (Stop SdcKind))
    → given ≡ clock_options no_options (value_texts clocks words) → Gives result (clock_by clocks line given) → Gives result (clock_of clocks line words)
options_found clocks line words given result e gives = subst (λ (o : Option ClockOptions). Gives result (clock_by clocks line o)) e gives

-- ---- a text

pub ran : (text : List ℕ) (so_far : SoFar) → Runs mode_host text nothing (Ok tt) so_far → SaysText text (Ok (clock_mode so_far))
ran text so_far runs = (Ok tt, so_far, runs, refl)

pub refused : (text : List ℕ) (so_far : SoFar) (stopped : Stop (At Kind))
    → Meets {T = Unit} (Err stopped) (λ given. Runs mode_host text nothing given so_far) → Meets (made_mode (Err stopped)) (SaysText text)
refused text so_far (stop.Refused fault) runs = (Err fault, so_far, runs, refl)
refused text so_far stop.NoMemory runs = tt

-- ---- bytes

pub text_says : (bytes text : List ℕ) (answer : Result SoFar (Stop (At Kind))) → text ≡ bytes → IsUtf8 bytes
    → Meets (made_mode answer) (SaysText text) → Meets (made_mode answer) (SaysMode bytes)
text_says bytes text (Ok made) same utf8 says = inl (utf8, subst (λ t. SaysText t (Ok (clock_mode made))) same says)
text_says bytes text (Err (stop.Refused fault)) same utf8 says = inl (utf8, subst (λ t. SaysText t (Err fault)) same says)
text_says bytes text (Err stop.NoMemory) same utf8 says = tt

abbrev not_text : ℕ → Said
not_text line = Err (record { line = line; kind = NotText })

pub no_text : (bytes : List ℕ) (line : ℕ) → (IsUtf8 bytes → ⊥) → line ≡ broken_text_line bytes → SaysMode bytes (not_text line)
no_text bytes line not_utf8 line_is = inr (not_utf8, ap not_text line_is)

-- ---- the number of clocks

abbrev beyond : ℕ → ℕ → List Clock → Option ℕ
beyond most count clocks = line_beyond (λ (clock : Clock). clock.line) (λ clock. 1) most count clocks

first_step : (most count : ℕ) (clock : Clock) (others : Option ℕ) → count ≡ most → cond (nat_lt most (count + 1)) (Some clock.line) others ≡ Some clock.line
first_step most count clock others e =
    let here : nat_lt most (count + 1) ≡ true = grind (arith, nat_tests) in
    rw here refl

next_step : (most count : ℕ) (line : ℕ) (others : Option ℕ) → count + 1 ≤ most → cond (nat_lt most (count + 1)) (Some line) others ≡ others
next_step most count line others e =
    let here : nat_lt most (count + 1) ≡ false = grind (arith, nat_tests) in
    rw here refl

beyond_at : (most count at : ℕ) (clocks : List Clock) → count + at ≡ most → beyond most count clocks ≡ option_map (λ (clock : Clock). clock.line) (slice_get clocks at)
beyond_at most count zero [] e = refl
beyond_at most count (suc at) [] e = refl
beyond_at most count zero (clock ∷ clocks) e = first_step most count clock (beyond most (count + 1) clocks) (omega (arith, e))
beyond_at most count (suc at) (clock ∷ clocks) e =
    next_step most count clock.line (beyond most (count + 1) clocks) (omega (arith, e)) ∙ beyond_at most (count + 1) at clocks (omega (arith, e))

pub line_beyond_is : (most : ℕ) (clocks : List Clock) → beyond most 0 clocks ≡ option_map (λ (clock : Clock). clock.line) (slice_get clocks most)
line_beyond_is most clocks = beyond_at most 0 most clocks (omega arith)

pub limited : (most : ℕ) (bytes : List ℕ) (made : SoFar) (result : Result Mode (Stop (At Kind))) → SaysMode bytes (Ok (clock_mode made))
    → Gives result (within_limit most 0 (Ok (clock_mode made))) → Meets result (SaysAtMost most bytes)
limited most bytes made (Ok mode) says gives = (Ok (clock_mode made), says, sym gives)
limited most bytes made (Err (stop.Refused fault)) says gives = (Ok (clock_mode made), says, sym gives)
limited most bytes made (Err stop.NoMemory) says gives = tt

pub says_refused : (most : ℕ) (bytes : List ℕ) (stopped : Stop (At Kind)) → Meets (made_mode (Err stopped)) (SaysMode bytes)
    → Meets {T = Mode} (Err stopped) (SaysAtMost most bytes)
says_refused most bytes (stop.Refused fault) says = (Err fault, says, refl)
says_refused most bytes stop.NoMemory says = tt

-- the number of the clocks before counts as if their clocks stood in front
beyond_after : (most count k : ℕ) (clocks : List Clock) → count ≤ most → beyond (most - count) k clocks ≡ beyond most (count + k) clocks
beyond_after most count k [] within = refl
beyond_after most count k (clock ∷ clocks) within =
    let here : nat_lt (most - count) (k + 1) ≡ nat_lt most ((count + k) + 1) = grind (arith, nat_tests) in
    let next : count + (k + 1) ≡ (count + k) + 1 = omega arith in
    rw (here, beyond_after most count (k + 1) clocks within, next) refl

pub limit_after : (most count : ℕ) (said : Said) → count ≤ most → within_limit (most - count) 0 said ≡ within_limit most count said
limit_after most count (Err fault) within = refl
limit_after most count (Ok mode) within =
    let none : count + 0 ≡ count = omega arith in
    ap (or_too_many mode) (beyond_after most count 0 mode.clocks within ∙ ap (λ n. beyond most n mode.clocks) none)

-- a mode within the limit has no more clocks than it
beyond_step : (test : Bool) (line : ℕ) (others : Option ℕ) → cond test (Some line) others ≡ None → (test ≡ false) × (others ≡ None)
beyond_step true line others e = absurd (cc)
beyond_step false line others e = (refl, e)

none_beyond : (most count : ℕ) (clocks : List Clock) → count ≤ most → beyond most count clocks ≡ None → count + length clocks ≤ most
none_beyond most count [] within e = omega (arith, within)
none_beyond most count (clock ∷ clocks) within e =
    let here = beyond_step (nat_lt most (count + 1)) clock.line (beyond most (count + 1) clocks) e in
    let test : nat_lt most (count + 1) ≡ false = here.0 in
    let less : count + 1 ≤ most = grind (arith, nat_tests) in
    let rest = none_beyond most (count + 1) clocks less here.1 in
    omega (arith, rest)

same_mode : (said mode : Mode) (line : Option ℕ) → Ok mode ≡ or_too_many said line → (line ≡ None) × (mode ≡ said)
same_mode said mode None e = (refl, cc)
same_mode said mode (Some line) e = absurd (cc)

limit_keeps : (most : ℕ) (said : Said) (mode : Mode) → Ok mode ≡ within_limit most 0 said → length mode.clocks ≤ most
limit_keeps most (Err fault) mode e = absurd (cc)
limit_keeps most (Ok said) mode e =
    let same = same_mode said mode (beyond most 0 said.clocks) e in
    let few : 0 + length said.clocks ≤ most = none_beyond most 0 said.clocks (omega arith) same.0 in
    let count : length mode.clocks ≡ length said.clocks = ap (λ (m : Mode). length m.clocks) same.1 in
    omega (arith, few, count)

pub most_within : (most : ℕ) (bytes : List ℕ) (mode : Mode) → SaysAtMost most bytes (Ok mode) → length mode.clocks ≤ most
most_within most bytes mode says = limit_keeps most says.0 mode says.2
