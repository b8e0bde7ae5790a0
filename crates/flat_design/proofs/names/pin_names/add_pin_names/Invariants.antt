-- The names of the pins so far are added.
use Rattle.std.proofs.Common.{◌≡◌, ◌++◌, take}
use Rattle.flat_design.specs.Hierarchy.{pin_names_in}
use Rattle.flat_design.proofs.names.pin_names.add_pin_names.Given as goal

abbrev pub invariant-loop-pin : goal.invariant-loop-pin
invariant-loop-pin l = l.names ≡ l.initial.names ++ pin_names_in l.cell (take l.pin-index l.pins)
