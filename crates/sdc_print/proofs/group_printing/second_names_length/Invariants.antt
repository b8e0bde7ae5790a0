-- The bytes so far, and those of the names that are left, are those of all names.
use Rattle.std.proofs.Common.{◌≡◌, ◌+◌, length, drop}
use Rattle.mode_model.specs.PrintedFile.{names_at}
use Rattle.sdc_print.specs.Runs.{seconds}
use Rattle.sdc_print.proofs.GroupFacts.{tail_text}
use Rattle.sdc_print.proofs.group_printing.second_names_length.Given as goal

abbrev pub invariant-loop-place : goal.invariant-loop-place
invariant-loop-place l =
    l.bytes + length (tail_text l.place (names_at l.clocks (seconds (drop l.place l.pairs))))
    ≡ length (tail_text 0 (names_at l.clocks (seconds l.pairs)))
