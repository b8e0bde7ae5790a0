use Rattle.std.proofs.Common.{◌≡◌, ◌++◌, drop}
use Rattle.library_model.specs.LibertyCells.{input_places}
use Rattle.lib_cells.proofs.cell.functions.input_places.Given as goal

abbrev pub invariant-loop-place : goal.invariant-loop-place
invariant-loop-place l = l.places.items ++ input_places l.place (drop l.place l.pins) ≡ input_places 0 l.pins
