-- The bytes so far, and those of the lines of the clocks that are left, are those of the front and of all lines.
use Rattle.std.proofs.Common.{◌≡◌, ◌+◌, length, drop}
use Rattle.mode_model.specs.PrintedLine.{lines_text}
use Rattle.mode_model.specs.PrintedFile.{group_lines}
use Rattle.sdc_print.specs.Runs.{groups_text}
use Rattle.sdc_cli.proofs.merges.length_with_groups.Given as goal

abbrev pub invariant-loop-first : goal.invariant-loop-first
invariant-loop-first l =
    l.bytes + length (lines_text (group_lines l.clocks l.rows l.first (drop l.first l.clocks))) ≡ l.front + length (groups_text l.clocks l.rows)
