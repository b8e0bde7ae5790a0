use Rattle.std.proofs.Common.{◌≡◌, ◌++◌, drop, map}
use Rattle.library_model.specs.LibertyArcs.{lib_cell}
use Rattle.lib_cells.specs.Members.{members_seen}
use Rattle.lib_cells.proofs.library.libraries.lib_cells.Given as goal

abbrev pub invariant-loop-cell : goal.invariant-loop-cell
invariant-loop-cell l = l.found ++ map lib_cell (members_seen (drop l.cell-index l.cells)) ≡ map lib_cell (members_seen l.cells)
