use Rattle.std.proofs.Common.{◌≡◌, ◌-◌, ◌<◌, ◌≤◌, length, vec_len}
use Rattle.sdc_base.specs.declared.whole.TheConstants.{MOST_BYTES}
use Rattle.sdc_base.proofs.WholeReads.{ReadSoFar}
use Rattle.sdc_base.proofs.whole.read_rest.Given as goal

abbrev pub invariant-loop-bytes : goal.invariant-loop-bytes
invariant-loop-bytes g l =
    (0 < vec_len l.buffer) × (length l.bytes ≤ MOST_BYTES) × ReadSoFar l.bytes (g.I.Inputs.contents l.initial.inputs) (g.I.Inputs.contents l.inputs) × (g.I.Inputs.faults l.inputs ≡ g.I.Inputs.faults l.initial.inputs)

abbrev pub decreases-loop-bytes : goal.decreases-loop-bytes
decreases-loop-bytes g l = MOST_BYTES - length l.bytes
