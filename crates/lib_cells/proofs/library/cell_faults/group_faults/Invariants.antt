use Rattle.std.proofs.Common.{◌≡◌, drop}
use Rattle.lib_cells.specs.FirstFaults as faults
use Rattle.lib_cells.specs.Members.{members_seen}
use Rattle.lib_cells.proofs.library.cell_faults.group_faults.Given as goal

abbrev pub invariant-loop-group : goal.invariant-loop-group
invariant-loop-group l =
    faults.first_among (faults.group_fault l.names l.places) (members_seen (drop l.group-index l.groups)) ≡ faults.first_among (faults.group_fault l.names l.places) (members_seen l.groups)
