-- The length of a printed file: that of its clocks alone, and those of the lines of groups, one first clock at a time.
use Rattle.std.proofs.Common.{◌≡◌, ℕ, ◌+◌, List, [], ◌∷◌, ◌++◌, length, drop, get_or, suc, refl, sym, ap, ◌∙◌, ◌<◌, add-one, arith, length-append, append_assoc}
use Rattle.std.specs.Prelude.{◌==◌}
use Rattle.std.specs.List.{filter}
use Rattle.std.proofs.lemmas.List.{append-nil}
use Rattle.std.proofs.Math.Seq.{drop-cons}
use Rattle.timing_types.specs.declared.clocks.Clock.{Clock}
use Rattle.timing_types.specs.declared.clocks.Pair.{Pair}
use Rattle.timing_types.specs.declared.designs.Design.{Design}
use Rattle.timing_types.specs.declared.modes.Mode.{Mode}
use Rattle.mode_model.specs.PrintedLine.{lines_text}
use Rattle.mode_model.specs.PrintedFile.{clock_lines, exclusive_to, group_lines, header_lines, lines_of_group, names_at, printed_file}
use Rattle.sdc_print.specs.Runs.{group_text, groups_text}
use Rattle.sdc_print.proofs.LineFacts.{lines_text-append, printed_file_is}

-- without pairs there is no line of a group
no_lines : (all : List Clock) (place : ℕ) (clocks : List Clock) → group_lines all [] place clocks ≡ []
no_lines all place [] = refl
no_lines all place (clock ∷ clocks) = no_lines all (suc place) clocks

-- the file of a mode is longer than that of its clocks alone by the lines of groups
pub groups_added : (design : Design) (alone mode : Mode) → alone.clocks ≡ mode.clocks → alone.exclusive ≡ []
    → length (printed_file design mode) ≡ length (printed_file design alone) + length (groups_text mode.clocks mode.exclusive)
groups_added design alone mode same none =
    let header = lines_text (header_lines design.unit) in
    let clocks = lines_text (clock_lines design.unit mode.clocks) in
    let groups = groups_text mode.clocks mode.exclusive in
    let empty : lines_text (group_lines alone.clocks alone.exclusive 0 alone.clocks) ≡ lines_text [] =
    ap (λ pairs. lines_text (group_lines alone.clocks pairs 0 alone.clocks)) none ∙ ap lines_text (no_lines alone.clocks 0 alone.clocks) in
    let alone_is : printed_file design alone ≡ header ++ clocks =
    printed_file_is design alone
    ∙ ap (λ groups. header ++ (lines_text (clock_lines design.unit alone.clocks) ++ groups)) empty
    ∙ ap (λ cs. header ++ (lines_text (clock_lines design.unit cs) ++ [])) same
    ∙ ap (λ l. header ++ l) (append-nil clocks) in
    let split : printed_file design mode ≡ printed_file design alone ++ groups =
    printed_file_is design mode ∙ sym (append_assoc header clocks groups) ∙ ap (λ l. l ++ groups) (sym alone_is) in
    ap length split ∙ length-append (printed_file design alone) groups

-- the length of the lines of groups from a place on is that of its clock and of the others
groups_step : (all : List Clock) (pairs : List Pair) (i : ℕ) (clock : Clock) → i < length all → clock ≡ get_or all i clock
    → length (lines_text (group_lines all pairs i (drop i all)))
    ≡ length (lines_text (lines_of_group clock.name (names_at all (exclusive_to i pairs)))) + length (lines_text (group_lines all pairs (suc i) (drop (suc i) all)))
groups_step all pairs i clock within is =
    let this = lines_of_group clock.name (names_at all (exclusive_to i pairs)) in
    let rest = group_lines all pairs (suc i) (drop (suc i) all) in
    ap (λ cs. length (lines_text (group_lines all pairs i cs))) (drop-cons all i clock within ∙ ap (λ c. c ∷ drop (suc i) all) (sym is))
    ∙ ap length (lines_text-append this rest) ∙ length-append (lines_text this) (lines_text rest)

-- the lines of one clock more, by the pairs of which it is the first
pub groups_more : (all : List Clock) (pairs row : List Pair) (i : ℕ) (clock : Clock) (before here after total : ℕ) → i < length all → clock ≡ get_or all i clock
    → row ≡ filter (λ pair. pair.first == i) pairs → here ≡ length (group_text clock.name all row) → after ≡ before + here
    → before + length (lines_text (group_lines all pairs i (drop i all))) ≡ total
    → after + length (lines_text (group_lines all pairs (i + 1) (drop (i + 1) all))) ≡ total
groups_more all pairs row i clock before here after total within is row_is here_is after_is known =
    let step = groups_step all pairs i clock within is in
    let this : here ≡ length (lines_text (lines_of_group clock.name (names_at all (exclusive_to i pairs)))) =
    here_is ∙ ap (λ ps. length (group_text clock.name all ps)) row_is in
    rw add-one (omega (arith, step, this, known, after_is))
