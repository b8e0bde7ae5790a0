use Rattle.std.proofs.Common.{◌≡◌, length, drop}
use Rattle.mode_model.specs.PrintedLine.{lines_text}
use Rattle.mode_model.specs.PrintedFile.{group_lines}
use Rattle.constraint_model.specs.ExclusivePairs.{ArePairs}
use Rattle.sdc_print.specs.Added.{added}
use Rattle.sdc_print.proofs.RunFacts.{AreFrom}
use Rattle.sdc_print.proofs.group_printing.push_groups.Given as goal

abbrev pub invariant-loop-place : goal.invariant-loop-place
invariant-loop-place l = record {
  text : added l.fn.out (lines_text (group_lines l.clocks l.pairs 0 l.clocks)) ≡ added l.out (lines_text (group_lines l.clocks l.rest l.place (drop l.place l.clocks)));
  order : ArePairs (length l.clocks) l.rest;
  above : AreFrom l.place l.rest;
}
