use Rattle.std.proofs.Common.{◌≡◌, ◌++◌, drop}
use Rattle.lib_cells.specs.FirstFaults.{cells_in}
use Rattle.lib_cells.specs.Members.{members_seen}
use Rattle.lib_cells.proofs.library.libraries.cells_of.Given as goal

abbrev pub invariant-loop-library : goal.invariant-loop-library
invariant-loop-library l = members_seen l.found.items ++ cells_in (members_seen (drop l.library-index l.libraries)) ≡ cells_in (members_seen l.libraries)
