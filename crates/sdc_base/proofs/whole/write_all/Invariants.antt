use Rattle.std.proofs.Common.{◌≡◌, ◌-◌, ◌≤◌, length, take}
use Rattle.sdc_base.proofs.WholeWrites.{WrittenSoFar}
use Rattle.sdc_base.proofs.whole.write_all.Given as goal

abbrev pub invariant-loop-done : goal.invariant-loop-done
invariant-loop-done g l =
    (l.done ≤ length l.bytes) × WrittenSoFar l.channel (take l.done l.bytes) (g.O.Outputs.contents l.initial.outputs) (g.O.Outputs.contents l.outputs) × (g.O.Outputs.faults l.outputs ≡ g.O.Outputs.faults l.initial.outputs)

abbrev pub decreases-loop-done : goal.decreases-loop-done
decreases-loop-done g l = length l.bytes - l.done
