use Rattle.std.proofs.Common.{◌≡◌, ◌++◌, drop, filter}
use Rattle.library_model.specs.LibertyCells.{is_named, other_names}
use Rattle.lib_cells.proofs.cell.functions.add_others.Given as goal

abbrev pub invariant-loop-pin : goal.invariant-loop-pin
invariant-loop-pin l = l.names ++ filter is_named (other_names (drop l.pin-index l.pins)) ≡ l.fn.names ++ filter is_named (other_names l.pins)
