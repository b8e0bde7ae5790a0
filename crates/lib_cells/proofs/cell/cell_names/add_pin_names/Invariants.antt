use Rattle.std.proofs.Common.{◌≡◌, ◌++◌, drop, map}
use Rattle.library_model.specs.LibertyCells.{NamedPin}
use Rattle.lib_cells.proofs.cell.cell_names.add_pin_names.Given as goal

abbrev pub invariant-loop-pin : goal.invariant-loop-pin
invariant-loop-pin l = l.names ++ map (λ (pin : NamedPin). pin.name) (drop l.pin-index l.pins) ≡ l.fn.names ++ map (λ (pin : NamedPin). pin.name) l.pins
