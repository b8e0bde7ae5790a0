use Rattle.std.proofs.Common.{drop}
use Rattle.lib_cells.proofs.CellNumberFacts.{CellsSoFar}
use Rattle.lib_cells.specs.Members.{members_seen}
use Rattle.lib_cells.proofs.library.libraries.numbers_of.Given as goal

abbrev pub invariant-loop-cell : goal.invariant-loop-cell
invariant-loop-cell l = CellsSoFar l.numbers (members_seen (drop l.cell-index l.cells)) (members_seen l.cells)
