-- The names of the bits so far are added.
use Rattle.std.proofs.Common.{◌≡◌, ◌++◌, take}
use Rattle.flat_design.specs.Hierarchy.{bit_names}
use Rattle.flat_design.proofs.names.object_names.add_bit_names.Given as goal

abbrev pub invariant-loop-place : goal.invariant-loop-place
invariant-loop-place l = l.names ≡ l.initial.names ++ take l.place (bit_names l.prefix l.name l.range)
