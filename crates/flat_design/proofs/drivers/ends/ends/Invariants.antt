-- The ends so far.
use Rattle.std.proofs.Common.{◌≡◌, map, take}
use Rattle.flat_design.specs.Ends.{end_of}
use Rattle.flat_design.proofs.drivers.ends.ends.Given as goal

abbrev pub invariant-loop-mark : goal.invariant-loop-mark
invariant-loop-mark l = l.all ≡ map end_of (take l.mark-index l.marks)
