use Rattle.std.proofs.Common.{length, subst}
use Rattle.sdc_base.specs.Gives.{Meets}
use Rattle.flat_model.specs.Flattening.{NoneOfNets}
use Rattle.flat_design.specs.NamedFaults.{AreSoundNets, flat_of}
use Rattle.flat_design.proofs.NetEndFacts.{ends_known, sources_known}
use Rattle.flat_design.proofs.drivers.net_ends.sound_ends.Goals as goal

pub check_nets-requires-clause-rows : goal.check_nets-requires-clause-rows
check_nets-requires-clause-rows c = sources_known c.args.design.now c.args.table.now.rows.now c.requires.is c.requires.table.rows

pub check_nets-requires-clause-returning : goal.check_nets-requires-clause-returning
check_nets-requires-clause-returning c = λ net low unmarked. c.requires.ends.none net

pub returns-in-Ok : goal.returns-in-Ok
returns-in-Ok c =
    let none : NoneOfNets (flat_of c.args.design.now) =
    subst (λ r. Meets r (AreSoundNets (flat_of c.args.design.now))) c.in-Ok.is c.check_nets.ensures in (
      none,
      ends_known c.args.design.now c.args.table.now.rows.now c.args.ends (length c.args.table.now.last) c.requires.is c.requires.table.rows c.requires.table.nets
          c.requires.ends,
    )
