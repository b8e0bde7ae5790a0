-- None of the rows so far.
use Rattle.std.proofs.Common.{◌≡◌, take, false}
use Rattle.std.specs.List.{list_any}
use Rattle.flat_design.specs.Cycles.{falls}
use Rattle.flat_design.proofs.drivers.cycles.any_falls.Given as goal

abbrev pub invariant-loop-row : goal.invariant-loop-row
invariant-loop-row l = list_any (falls l.numbers) (take l.row-index l.rows) ≡ false
