use Rattle.std.proofs.Common.{◌≡◌, ◌++◌, drop, filter, map}
use Rattle.library_model.specs.LibertyCells.{NamedPin, is_named_input}
use Rattle.lib_cells.proofs.cell.functions.add_inputs.Given as goal

abbrev pub invariant-loop-pin : goal.invariant-loop-pin
invariant-loop-pin l =
    l.names ++ map (λ (pin : NamedPin). pin.name) (filter is_named_input (drop l.pin-index l.pins)) ≡ l.fn.names ++ map (λ (pin : NamedPin). pin.name) (filter is_named_input l.pins)
