-- The pins of the ports so far are added.
use Rattle.std.proofs.Common.{take}
use Rattle.std.specs.List.{flat_map}
use Rattle.flat_design.specs.PinRows.{AddsPins}
use Rattle.flat_design.proofs.TopFacts.{pins_of_port}
use Rattle.flat_design.proofs.assemble.port_pins.add_ports.Given as goal

abbrev pub invariant-loop-place : goal.invariant-loop-place
invariant-loop-place l = AddsPins l.design (flat_map pins_of_port (take l.place l.design.top.now.ports)) l.initial.rows l.rows
