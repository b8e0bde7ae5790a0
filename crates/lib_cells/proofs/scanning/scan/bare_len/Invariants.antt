use Rattle.std.proofs.Common.{length, ◌-◌}
use Rattle.lib_cells.proofs.ScanFacts.{BareSoFar}
use Rattle.lib_cells.proofs.scanning.scan.bare_len.Given as goal

abbrev pub invariant-loop-len : goal.invariant-loop-len
invariant-loop-len l = BareSoFar l.text l.len l.brackets

abbrev pub decreases-loop-len : goal.decreases-loop-len
decreases-loop-len l = length l.text - l.len
