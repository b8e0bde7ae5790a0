-- The bits so far are added.
use Rattle.std.proofs.Common.{map, take}
use Rattle.netlist_model.specs.Ranges.{indices}
use Rattle.flat_design.specs.Drivers.{Adds, input_drive}
use Rattle.flat_design.proofs.drivers.port_drivers.add_input_bits.Given as goal

abbrev pub invariant-loop-place : goal.invariant-loop-place
invariant-loop-place l = Adds l.design (map (input_drive l.port) (take l.place (indices l.port.range))) l.initial.rows l.rows
