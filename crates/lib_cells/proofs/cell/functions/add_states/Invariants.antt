use Rattle.std.proofs.Common.{◌≡◌, ◌++◌, drop, filter}
use Rattle.library_model.specs.LibertyCells.{is_named}
use Rattle.lib_cells.proofs.cell.functions.add_states.Given as goal

abbrev pub invariant-loop-name : goal.invariant-loop-name
invariant-loop-name l = l.names ++ filter is_named (drop l.name-index l.states) ≡ l.fn.names ++ filter is_named l.states
