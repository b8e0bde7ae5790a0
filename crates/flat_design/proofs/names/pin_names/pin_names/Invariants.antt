-- The names of the ports, and of the pins of the cells so far.
use Rattle.std.proofs.Common.{◌≡◌, ◌++◌, take}
use Rattle.std.specs.List.{flat_map}
use Rattle.flat_design.specs.Hierarchy.{cells_in, port_names}
use Rattle.flat_design.proofs.PinFacts.{names_of_pins}
use Rattle.flat_design.proofs.names.pin_names.pin_names.Given as goal

abbrev pub invariant-loop-place : goal.invariant-loop-place
invariant-loop-place l = l.names ≡ port_names l.design.top.now.ports ++ flat_map names_of_pins (take l.place (cells_in l.design))
