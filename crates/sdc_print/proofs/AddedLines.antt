-- The lines of clocks, of groups and of the header, added piece by piece.
use Rattle.std.proofs.Common.{◌≡◌, ◌<◌, ℤ, List, ℕ, codes, length, sym, ap, ◌∙◌}
use Rattle.sdc_base.specs.Time.{time_text_of}
use Rattle.timing_types.specs.declared.clocks.Clock.{Clock}
use Rattle.timing_types.specs.declared.clocks.Pair.{Pair}
use Rattle.timing_types.specs.declared.clocks.Wave.{Wave}
use Rattle.timing_types.specs.declared.designs.Design.{Design}
use Rattle.timing_types.specs.declared.modes.Mode.{Mode}
use Rattle.mode_model.specs.PrintedLine.{line_text, lines_text, name_word, spaced, spelled}
use Rattle.mode_model.specs.PrintedFile.{clock_line, clock_lines, group_lines, header_lines, names_at, printed_file, unit_text}
use Rattle.sdc_print.specs.declared.sinks.Sink.{Sink}
use Rattle.sdc_print.specs.Added.{added}
use Rattle.sdc_print.specs.Runs.{group_text, seconds}
use Rattle.sdc_print.proofs.AddedFacts.{added_three, added_five, added_nine}
use Rattle.sdc_print.proofs.GroupFacts.{group_has_line}
use Rattle.sdc_print.proofs.LineFacts.{clock_line_is, group_line_is, header_lines_are, printed_file_is}

pub clock_added : (s : Sink) (unit : ℤ) (name : List ℕ) (wave : Wave)
    → added (added (added (added (added (added (added (added (added s (codes "create_clock -name ")) (spelled (name_word name))) (codes " -period ")) (time_text_of wave.period unit)) (codes " -waveform {")) (time_text_of wave.rise unit)) (codes " ")) (time_text_of wave.fall unit)) (codes "}\n")
    ≡ added s (line_text (clock_line unit name wave))
clock_added s unit name wave =
    added_nine s (codes "create_clock -name ") (spelled (name_word name)) (codes " -period ") (time_text_of wave.period unit) (codes " -waveform {") (time_text_of wave.rise unit) (codes " ") (time_text_of wave.fall unit) (codes "}\n")
    ∙ ap (added s) (sym (clock_line_is unit name wave))

pub group_added : (s : Sink) (name : List ℕ) (clocks : List Clock) (pairs : List Pair) → 0 < length pairs
    → added (added (added (added (added s (codes "set_clock_groups -asynchronous -group [get_clocks {")) name) (codes "}] -group [get_clocks {")) (spaced (names_at clocks (seconds pairs)))) (codes "}]\n")
    ≡ added s (group_text name clocks pairs)
group_added s name clocks pairs some =
    let others = names_at clocks (seconds pairs) in
    added_five s (codes "set_clock_groups -asynchronous -group [get_clocks {") name (codes "}] -group [get_clocks {") (spaced others) (codes "}]\n")
    ∙ ap (added s) (sym (group_line_is name others) ∙ group_has_line name clocks pairs some)

pub header_added : (s : Sink) (unit : ℤ)
    → added (added (added s (codes "set sdc_version 2.1\nset_units -time ")) (unit_text unit)) (codes "\n") ≡ added s (lines_text (header_lines unit))
header_added s unit =
    added_three s (codes "set sdc_version 2.1\nset_units -time ") (unit_text unit) (codes "\n")
    ∙ ap (added s) (sym (header_lines_are unit))

pub file_added : (s : Sink) (design : Design) (mode : Mode)
    → added (added (added s (lines_text (header_lines design.unit))) (lines_text (clock_lines design.unit mode.clocks))) (lines_text (group_lines mode.clocks mode.exclusive 0 mode.clocks))
    ≡ added s (printed_file design mode)
file_added s design mode =
    added_three s (lines_text (header_lines design.unit)) (lines_text (clock_lines design.unit mode.clocks)) (lines_text (group_lines mode.clocks mode.exclusive 0 mode.clocks))
    ∙ ap (added s) (sym (printed_file_is design mode))
