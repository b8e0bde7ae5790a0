use Rattle.std.proofs.Common.{◌≡◌, drop}
use Rattle.mode_model.specs.PrintedFile.{names_at}
use Rattle.sdc_print.specs.Added.{added}
use Rattle.sdc_print.specs.Runs.{seconds}
use Rattle.sdc_print.proofs.GroupFacts.{tail_text}
use Rattle.sdc_print.proofs.group_printing.write_second_names.Given as goal

abbrev pub invariant-loop-place : goal.invariant-loop-place
invariant-loop-place l =
    added l.fn.out (tail_text 0 (names_at l.clocks (seconds l.pairs)))
    ≡ added l.out (tail_text l.place (names_at l.clocks (seconds (drop l.place l.pairs))))
