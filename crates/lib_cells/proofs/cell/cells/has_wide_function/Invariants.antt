use Rattle.std.proofs.Common.{◌≡◌, drop}
use Rattle.lib_cells.specs.CellValues.{has_wide}
use Rattle.lib_cells.specs.Members.{members_seen}
use Rattle.lib_cells.proofs.cell.cells.has_wide_function.Given as goal

abbrev pub invariant-loop-group : goal.invariant-loop-group
invariant-loop-group l = has_wide l.names (members_seen (drop l.group-index l.groups)) ≡ has_wide l.names (members_seen l.groups)
