use Rattle.std.proofs.Common.{◌≡◌, drop}
use Rattle.std.specs.List.{last_or}
use Rattle.library_model.specs.LibertyStatements as liberty
use Rattle.lib_cells.specs.Members.{members_seen}
use Rattle.lib_cells.proofs.syntax.members.last_value.Given as goal

abbrev pub invariant-loop-member : goal.invariant-loop-member
invariant-loop-member l =
    last_or l.last (liberty.values l.name (members_seen (drop l.member-index l.members))) ≡ liberty.last_value l.name (members_seen l.members)
