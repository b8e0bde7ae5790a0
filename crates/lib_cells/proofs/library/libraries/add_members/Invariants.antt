use Rattle.std.proofs.Common.{◌≡◌, ◌++◌, drop}
use Rattle.lib_cells.specs.Members.{members_seen}
use Rattle.lib_cells.proofs.library.libraries.add_members.Given as goal

abbrev pub invariant-loop-member : goal.invariant-loop-member
invariant-loop-member l = members_seen l.found.items ++ members_seen (drop l.member-index l.more) ≡ members_seen l.fn.found.items ++ members_seen l.more
