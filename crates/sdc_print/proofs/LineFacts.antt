-- How lines are spelled, as their parts one after the other.
use Rattle.std.proofs.Common.{◌≡◌, ◌<◌, ℕ, ℤ, List, ◌∷◌, ◌++◌, append_assoc, codes, ap, ◌∙◌, length, drop, get_or, suc, map, sym}
use Rattle.std.proofs.lemmas.List.{append-nil, map-append}
use Rattle.std.proofs.lemmas.List.Folds.{concat-append}
use Rattle.std.proofs.Math.Seq.{drop-cons}
use Rattle.std.specs.List.{concat}
use Rattle.sdc_base.specs.Time.{time_text_of}
use Rattle.timing_types.specs.declared.clocks.Clock.{Clock}
use Rattle.timing_types.specs.declared.clocks.Wave.{Wave}
use Rattle.timing_types.specs.declared.designs.Design.{Design}
use Rattle.timing_types.specs.declared.modes.Mode.{Mode}
use Rattle.mode_model.specs.PrintedLine.{PrintedWord, spelled, spaced, line_text, lines_text, name_word}
use Rattle.mode_model.specs.PrintedFile.{clock_line, clock_lines, lines_of_form, group_line, group_lines, header_lines, unit_text, printed_file}

regroup_clock : (a n b p c r d f e g : List ℕ) → (a ++ (n ++ (b ++ (p ++ (c ++ ((r ++ (d ++ f)) ++ e)))))) ++ g ≡ a ++ (n ++ (b ++ (p ++ (c ++ (r ++ (d ++ (f ++ (e ++ g))))))))
regroup_clock a n b p c r d f e g = simp append_assoc

pub clock_line_is : (unit : ℤ) (name : List ℕ) (wave : Wave) → line_text (clock_line unit name wave) ≡ codes "create_clock -name " ++ (spelled (name_word name) ++ (codes " -period " ++ (time_text_of wave.period unit ++ (codes " -waveform {" ++ (time_text_of wave.rise unit ++ (codes " " ++ (time_text_of wave.fall unit ++ codes "}\n")))))))
unfolding clock_line
clock_line_is unit name wave =
    regroup_clock (codes "create_clock -name ") (spelled (name_word name)) (codes " -period ") (time_text_of wave.period unit)
    (codes " -waveform {") (time_text_of wave.rise unit) (codes " ") (time_text_of wave.fall unit) (codes "}") (codes "\n")

regroup_group : (a n x y b m d e f : List ℕ) → (a ++ (((n ++ x) ++ y) ++ (b ++ ((m ++ d) ++ e)))) ++ f ≡ a ++ (n ++ ((x ++ (y ++ b)) ++ (m ++ (d ++ (e ++ f)))))
regroup_group a n x y b m d e f = simp append_assoc

pub group_line_is : (name : List ℕ) (others : List (List ℕ)) → line_text (group_line name others) ≡ codes "set_clock_groups -asynchronous -group [get_clocks {" ++ (name ++ (codes "}] -group [get_clocks {" ++ (spaced others ++ codes "}]\n")))
unfolding group_line
group_line_is name others =
    regroup_group (codes "set_clock_groups -asynchronous -group [get_clocks {") name (codes "}") (codes "]")
    (codes " -group [get_clocks {") (spaced others) (codes "}") (codes "]") (codes "\n")

pub header_lines_are : (unit : ℤ) → lines_text (header_lines unit) ≡ codes "set sdc_version 2.1\nset_units -time " ++ (unit_text unit ++ codes "\n")
unfolding header_lines
header_lines_are unit = ap (λ l. codes "set sdc_version 2.1\nset_units -time " ++ l) (append-nil (unit_text unit ++ codes "\n"))

-- ---- lines in a row

pub lines_text-append : (first second : List (List PrintedWord)) → lines_text (first ++ second) ≡ lines_text first ++ lines_text second
lines_text-append first second =
    ap concat (map-append line_text first second) ∙ concat-append (map line_text first) (map line_text second)

pub clock_lines_step : (unit : ℤ) (clocks : List Clock) (i : ℕ) (clock : Clock) → i < length clocks → clock ≡ get_or clocks i clock → lines_text (clock_lines unit (drop i clocks)) ≡ lines_text (lines_of_form unit clock.name clock.form) ++ lines_text (clock_lines unit (drop (suc i) clocks))
clock_lines_step unit clocks i clock h e =
    ap (λ cs. lines_text (clock_lines unit cs)) (drop-cons clocks i clock h ∙ ap (λ c. c ∷ drop (suc i) clocks) (sym e))
    ∙ lines_text-append (lines_of_form unit clock.name clock.form) (clock_lines unit (drop (suc i) clocks))

pub printed_file_is : (design : Design) (mode : Mode) → printed_file design mode ≡ lines_text (header_lines design.unit) ++ (lines_text (clock_lines design.unit mode.clocks) ++ lines_text (group_lines mode.clocks mode.exclusive 0 mode.clocks))
unfolding printed_file
printed_file_is design mode =
    let header = header_lines design.unit in
    let clocks = clock_lines design.unit mode.clocks in
    let groups = group_lines mode.clocks mode.exclusive 0 mode.clocks in
    lines_text-append header (clocks ++ groups) ∙ ap (λ l. lines_text header ++ l) (lines_text-append clocks groups)
