use Rattle.std.proofs.Common.{◌≡◌, drop}
use Rattle.lib_cells.specs.FirstFaults as faults
use Rattle.lib_cells.specs.Members.{members_seen}
use Rattle.lib_cells.proofs.library.library_faults.first_fault.Given as goal

abbrev pub invariant-loop-library : goal.invariant-loop-library
invariant-loop-library l =
    faults.first_among (faults.library_fault l.numbers l.unit) (members_seen (drop l.library-index l.libraries)) ≡ faults.first_among (faults.library_fault l.numbers l.unit) (members_seen l.libraries)
