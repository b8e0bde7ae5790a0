-- The widths so far.
use Rattle.std.proofs.Common.{◌≡◌, map, take}
use Rattle.netlist_model.specs.Ranges.{width}
use Rattle.flat_design.proofs.elaborate.terminals.port_widths.Given as goal

abbrev pub invariant-loop-port : goal.invariant-loop-port
invariant-loop-port l = l.widths ≡ map (λ port. width port.range) (take l.port-index l.ports)
