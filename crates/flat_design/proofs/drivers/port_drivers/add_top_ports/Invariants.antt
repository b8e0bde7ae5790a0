-- The ports so far are added, and their pins counted.
use Rattle.std.proofs.Common.{◌≡◌, length, take}
use Rattle.std.specs.List.{flat_map}
use Rattle.flat_model.specs.FlatNets.{top_port_drivers}
use Rattle.flat_design.specs.Drivers.{Adds}
use Rattle.flat_design.proofs.TopFacts.{pins_of_port}
use Rattle.flat_design.proofs.drivers.port_drivers.add_top_ports.Given as goal

abbrev pub invariant-loop-place : goal.invariant-loop-place
invariant-loop-place l = record {
  added : Adds l.design (flat_map top_port_drivers (take l.place l.design.top.now.ports)) l.initial.rows l.rows;
  passed : l.first ≡ length (flat_map pins_of_port (take l.place l.design.top.now.ports));
}
