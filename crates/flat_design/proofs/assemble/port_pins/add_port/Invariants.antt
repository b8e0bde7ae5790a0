-- The pins of the bits so far are added.
use Rattle.std.proofs.Common.{map, take}
use Rattle.flat_model.specs.FlatDesign.{port_pin}
use Rattle.netlist_model.specs.Ranges.{indices}
use Rattle.flat_design.specs.PinRows.{AddsPins}
use Rattle.flat_design.proofs.assemble.port_pins.add_port.Given as goal

abbrev pub invariant-loop-place : goal.invariant-loop-place
invariant-loop-place l = AddsPins l.design (map (port_pin l.port) (take l.place (indices l.port.range))) l.initial.rows l.rows
