use Rattle.std.proofs.Common.{◌∙◌, ap}
use Rattle.lib_cells.specs.Members.{member_seen, members_seen}
use Rattle.lib_cells.proofs.CellLemmas.{known_few}
use Rattle.lib_cells.proofs.FaultFacts.{known_fault}
use Rattle.lib_cells.proofs.library.cell_faults.known_fault.Goals as goal

pub group_faults-requires : goal.group_faults-requires
group_faults-requires c = known_few c.args.known.now (member_seen c.args.cell.now) c.requires.describes

pub returns : goal.returns
returns c =
    known_fault c.args.known.now (member_seen c.args.cell.now) (members_seen c.as_slice.result.now) c.group_faults.result c.requires.taken c.requires.describes
    (ap members_seen c.as_slice.ensures.value ∙ c.in_ok-groups.ensures) c.group_faults.ensures
