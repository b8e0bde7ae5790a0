use Rattle.std.proofs.Common.{◌≡◌, ◌++◌, drop}
use Rattle.library_model.specs.LibertyStatements as liberty
use Rattle.lib_cells.specs.Members.{members_seen}
use Rattle.lib_cells.specs.Seen.{statements_seen}
use Rattle.lib_cells.proofs.syntax.members.members.Given as goal

abbrev pub invariant-loop-at : goal.invariant-loop-at
invariant-loop-at l =
    members_seen l.found.items ++ liberty.members l.level (statements_seen (drop l.at l.statements)) ≡ liberty.members l.level (statements_seen l.statements)
