use Rattle.std.proofs.Common.{◌≡◌, drop}
use Rattle.lib_cells.specs.FirstFaults as faults
use Rattle.lib_cells.specs.Members.{members_seen}
use Rattle.lib_cells.proofs.library.library_faults.part_faults.Given as goal

abbrev pub invariant-loop-part : goal.invariant-loop-part
invariant-loop-part l =
    faults.first_among (faults.part_fault l.numbers) (members_seen (drop l.part-index l.parts)) ≡ faults.first_among (faults.part_fault l.numbers) (members_seen l.parts)
