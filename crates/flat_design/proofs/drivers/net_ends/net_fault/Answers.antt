use Rattle.std.proofs.Common.{subst}
use Rattle.sdc_base.specs.Gives.{Meets}
use Rattle.flat_model.specs.Flattening.{NoneOfNets}
use Rattle.flat_design.specs.NamedFaults.{AreSoundNets, flat_of}
use Rattle.flat_design.proofs.NetEndFacts.{never_sound, sources_known}
use Rattle.flat_design.proofs.drivers.net_ends.net_fault.Goals as goal

pub check_nets-requires-clause-rows : goal.check_nets-requires-clause-rows
check_nets-requires-clause-rows c = sources_known c.args.design.now c.args.table.now.rows.now c.requires.is c.requires.table.rows

pub unreachable-requires : goal.unreachable-requires
unreachable-requires c =
    let none : NoneOfNets (flat_of c.args.design.now) =
    subst (λ r. Meets r (AreSoundNets (flat_of c.args.design.now))) c.in-Ok.is c.check_nets.ensures in
    never_sound c.args.design.now c.args.table.now c.requires.is c.requires.table c.requires.faulty none
