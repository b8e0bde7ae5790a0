use Rattle.std.proofs.Common.{Some, None, sym, subst}
use Rattle.source_types.specs.declared.netlists.Bit.{Bit}
use Rattle.flat_model.specs.FlatNets.{net_at}
use Rattle.flat_design.specs.Drivers.{IsNetOf}
use Rattle.flat_design.proofs.DriverFacts.{net_here, net_there_at}
use Rattle.flat_design.proofs.drivers.driver_edges.driven_net.Goals as goal

pub net_number-requires-clause-there : goal.net_number-requires-clause-there
net_number-requires-clause-there c =
    net_there_at c.args.design.now c.args.scope c.args.bit.now c.in-Net.name c.in-Net.index c.in-Net.is c.requires.there

pub returns-in-Net : goal.returns-in-Net
returns-in-Net c = λ found at.
    subst (λ (bit : Bit). IsNetOf c.args.design.now (net_at found.path bit) (Some c.net_number.result)) (sym c.in-Net.is)
    (c.net_number.ensures found at (net_here c.args.design.now c.args.scope c.args.bit.now c.in-Net.name c.in-Net.index found c.in-Net.is c.requires.there at))

pub returns-in-Constant : goal.returns-in-Constant
returns-in-Constant c = λ found at. subst (λ (bit : Bit). IsNetOf c.args.design.now (net_at found.path bit) None) (sym c.in-Constant.is) tt
