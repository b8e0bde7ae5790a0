use Rattle.std.proofs.Common.{◌≡◌, ◌++◌, drop}
use Rattle.library_model.specs.LibertyStatements as liberty
use Rattle.lib_cells.specs.Members.{members_seen}
use Rattle.lib_cells.proofs.syntax.members.groups.Given as goal

abbrev pub invariant-loop-member : goal.invariant-loop-member
invariant-loop-member l =
    members_seen l.found.items ++ liberty.groups l.name (members_seen (drop l.member-index l.members)) ≡ liberty.groups l.name (members_seen l.members)
