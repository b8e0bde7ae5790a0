use Rattle.std.proofs.Common.{Option, Some, sym, subst}
use Rattle.source_types.specs.declared.netlists.Bit.{Bit}
use Rattle.source_types.specs.declared.netlists.Bit.TheVariants as bits
use Rattle.flat_model.specs.FlatNets.{origin_at}
use Rattle.flat_design.specs.declared.drivers.driver_edges.Driver.{Driver}
use Rattle.flat_design.specs.declared.drivers.driver_edges.Driver.TheVariants as driver
use Rattle.flat_design.specs.Drivers.{IsDriverByNumberOf}
use Rattle.flat_design.proofs.DriverFacts.{net_here, net_there_at, value_of}
use Rattle.flat_design.proofs.drivers.driver_edges.bit_as_driver.Goals as goal

pub net_number-net-requires-clause-there : goal.net_number-net-requires-clause-there
net_number-net-requires-clause-there c =
    net_there_at c.args.design.now c.args.scope c.args.bit.now c.in-Net.name c.in-Net.index c.in-Net.is c.requires.there

pub returns-in-Net : goal.returns-in-Net
returns-in-Net c = λ found at.
    subst (λ (bit : Bit). IsDriverByNumberOf c.args.design.now (origin_at found.path bit) (Some (driver.Net c.net_number-net.result))) (sym c.in-Net.is)
    (c.net_number-net.ensures found at (net_here c.args.design.now c.args.scope c.args.bit.now c.in-Net.name c.in-Net.index found c.in-Net.is c.requires.there at))

pub returns-in-Constant : goal.returns-in-Constant
returns-in-Constant c = λ found at.
    subst (λ (bit : Bit). IsDriverByNumberOf c.args.design.now (origin_at found.path bit) c.value_driver.result) (sym c.in-Constant.is)
    (subst (λ (own : Option Driver). IsDriverByNumberOf c.args.design.now (origin_at found.path (bits.Constant c.in-Constant.value)) own) (sym c.value_driver.ensures)
    (value_of c.args.design.now found.path c.in-Constant.value))
