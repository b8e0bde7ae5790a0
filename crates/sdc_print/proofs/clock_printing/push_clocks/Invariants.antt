use Rattle.std.proofs.Common.{◌≡◌, drop}
use Rattle.mode_model.specs.PrintedLine.{lines_text}
use Rattle.mode_model.specs.PrintedFile.{clock_lines}
use Rattle.sdc_print.specs.Added.{added}
use Rattle.sdc_print.proofs.clock_printing.push_clocks.Given as goal

abbrev pub invariant-loop-clock : goal.invariant-loop-clock
invariant-loop-clock l =
    added l.fn.out (lines_text (clock_lines l.unit l.clocks)) ≡ added l.out (lines_text (clock_lines l.unit (drop l.clock-index l.clocks)))
