use Rattle.std.proofs.Common.{◌≡◌, ◌++◌, drop, map}
use Rattle.lib_cells.specs.CellValues.{pin_value}
use Rattle.lib_cells.proofs.cell.cells.lib_pins.Given as goal

abbrev pub invariant-loop-pin : goal.invariant-loop-pin
invariant-loop-pin l =
    l.pins ++ map (pin_value l.known.function_names l.known.input_places.items) (drop l.pin-index l.known.pins.items)
    ≡ map (pin_value l.known.function_names l.known.input_places.items) l.known.pins.items
