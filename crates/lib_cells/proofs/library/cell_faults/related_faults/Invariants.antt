use Rattle.std.proofs.Common.{◌≡◌, drop}
use Rattle.lib_cells.specs.FirstFaults as faults
use Rattle.lib_cells.specs.Members.{members_seen}
use Rattle.lib_cells.proofs.library.cell_faults.related_faults.Given as goal

abbrev pub invariant-loop-part : goal.invariant-loop-part
invariant-loop-part l =
    faults.first_among (faults.related_member_fault l.places) (members_seen (drop l.part-index l.parts)) ≡ faults.first_among (faults.related_member_fault l.places) (members_seen l.parts)
