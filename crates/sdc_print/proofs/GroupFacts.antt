-- The names of the second clocks of pairs, and the lines of groups, one by one.
use Rattle.std.proofs.Common.{◌≡◌, ◌+◌, ◌<◌, ◌≤◌, ℕ, List, [], ◌∷◌, ◌++◌, zero, suc, length, drop, take, get_or, refl, sym, ap, ◌∙◌, slice_get, arith, length-append, min}
use Rattle.std.proofs.lemmas.List.{append-nil}
use Rattle.std.proofs.Math.Seq.{drop-cons}
use Rattle.timing_types.specs.declared.clocks.Clock.{Clock}
use Rattle.timing_types.specs.declared.clocks.Pair.{Pair}
use Rattle.mode_model.specs.PrintedLine.{spaced, line_text, lines_text}
use Rattle.mode_model.specs.PrintedFile.{names_at, name_of, exclusive_to, group_line, group_lines, lines_of_group}
use Rattle.sdc_print.specs.Runs.{run_length, seconds, group_text}
use Rattle.sdc_print.proofs.LineFacts.{lines_text-append}
use Rattle.sdc_print.proofs.RunFacts.{TakesRun, later_without_run}

-- a blank, where names were written before
abbrev pub gap_text : ℕ → List ℕ
gap_text zero = []
gap_text (suc k) = 32 ∷ []

pub gap_above : (k : ℕ) → 0 < k → 32 ∷ [] ≡ gap_text k
gap_above zero h = absurd (omega arith)
gap_above (suc k) h = refl

pub gap_none : (k : ℕ) → k ≤ 0 → [] ≡ gap_text k
gap_none zero h = refl
gap_none (suc k) h = absurd (omega arith)

gap_length : (k : ℕ) → length (gap_text k) ≡ min k 1
gap_length zero = refl
gap_length (suc k) = omega arith

-- what is left of the names after so many
abbrev pub tail_text : ℕ → List (List ℕ) → List ℕ
tail_text k [] = []
tail_text k (name ∷ names) = gap_text k ++ spaced (name ∷ names)

pub tail_text_all : (names : List (List ℕ)) → tail_text zero names ≡ spaced names
tail_text_all [] = refl
tail_text_all (name ∷ names) = refl

spaced_more : (k : ℕ) (name : List ℕ) (names : List (List ℕ)) → spaced (name ∷ names) ≡ name ++ tail_text (suc k) names
spaced_more k name [] = sym (append-nil name)
spaced_more k name (next ∷ names) = refl

pub tail_step : (clocks : List Clock) (pairs : List Pair) (i : ℕ) (d : Pair) → i < length pairs → tail_text i (names_at clocks (seconds (drop i pairs))) ≡ gap_text i ++ (name_of (slice_get clocks (get_or pairs i d).second) ++ tail_text (suc i) (names_at clocks (seconds (drop (suc i) pairs))))
tail_step clocks pairs i d h =
    ap (λ ps. tail_text i (names_at clocks (seconds ps))) (drop-cons pairs i d h)
    ∙ ap (λ l. gap_text i ++ l) (spaced_more i (name_of (slice_get clocks (get_or pairs i d).second)) (names_at clocks (seconds (drop (suc i) pairs))))

pub tail_length : (clocks : List Clock) (pairs : List Pair) (i : ℕ) (d : Pair) → i < length pairs → length (tail_text i (names_at clocks (seconds (drop i pairs)))) ≡ min i 1 + (length (name_of (slice_get clocks (get_or pairs i d).second)) + length (tail_text (suc i) (names_at clocks (seconds (drop (suc i) pairs)))))
tail_length clocks pairs i d h =
    let name = name_of (slice_get clocks (get_or pairs i d).second) in
    let rest = tail_text (suc i) (names_at clocks (seconds (drop (suc i) pairs))) in
    ap length (tail_step clocks pairs i d h)
    ∙ length-append (gap_text i) (name ++ rest)
    ∙ ap (λ n. length (gap_text i) + n) (length-append name rest)
    ∙ ap (λ n. n + (length name + length rest)) (gap_length i)

-- the bytes of the line of a group that is not empty, and of one that is
pub group_has_line : (name : List ℕ) (clocks : List Clock) (group : List Pair) → 0 < length group → line_text (group_line name (names_at clocks (seconds group))) ≡ group_text name clocks group
group_has_line name clocks [] h = absurd (omega arith)
group_has_line name clocks (pair ∷ group) h = sym (append-nil (line_text (group_line name (names_at clocks (seconds (pair ∷ group))))))

pub no_group : (name : List ℕ) (clocks : List Clock) (group : List Pair) → length group ≡ 0 → [] ≡ group_text name clocks group
no_group name clocks [] h = refl
no_group name clocks (pair ∷ group) h = absurd (omega arith)

-- the lines of the clocks from a place on do not speak of the runs of earlier places
later_lines : (all : List Clock) (pairs : List Pair) (place later : ℕ) (clocks : List Clock) → place < later → group_lines all pairs later clocks ≡ group_lines all (drop (run_length place pairs) pairs) later clocks
later_lines all pairs place later [] h = refl
later_lines all pairs place later (clock ∷ clocks) h =
    ap (λ others. lines_of_group clock.name (names_at all others) ++ group_lines all pairs (suc later) clocks) (later_without_run place later pairs h)
    ∙ ap (λ lines. lines_of_group clock.name (names_at all (exclusive_to later (drop (run_length place pairs) pairs))) ++ lines)
    (later_lines all pairs place (suc later) clocks (omega arith))

-- the lines of groups from a place on: that of its clock, and the others
pub group_lines_step : (count : ℕ) (all : List Clock) (pairs : List Pair) (i : ℕ) (clock : Clock) → i < length all → clock ≡ get_or all i clock → TakesRun count i (run_length i pairs) pairs → lines_text (group_lines all pairs i (drop i all)) ≡ group_text clock.name all (take (run_length i pairs) pairs) ++ lines_text (group_lines all (drop (run_length i pairs) pairs) (suc i) (drop (suc i) all))
group_lines_step count all pairs i clock h e t =
    ap (λ cs. lines_text (group_lines all pairs i cs)) (drop-cons all i clock h ∙ ap (λ c. c ∷ drop (suc i) all) (sym e))
    ∙ lines_text-append (lines_of_group clock.name (names_at all (exclusive_to i pairs))) (group_lines all pairs (suc i) (drop (suc i) all))
    ∙ ap (λ others. lines_text (lines_of_group clock.name (names_at all others)) ++ lines_text (group_lines all pairs (suc i) (drop (suc i) all))) t.group
    ∙ ap (λ lines. lines_text (lines_of_group clock.name (names_at all (seconds (take (run_length i pairs) pairs)))) ++ lines_text lines)
    (later_lines all pairs i (suc i) (drop (suc i) all) (omega arith))
