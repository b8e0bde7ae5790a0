use Rattle.std.proofs.Common.{Option, sym, subst}
use Rattle.flat_model.specs.FlatNets.{drive, net_at, origin_at}
use Rattle.flat_design.specs.declared.drivers.driver_edges.DriverEdge.{DriverEdge}
use Rattle.flat_design.specs.Drivers.{IsDriverEdgeOf}
use Rattle.flat_design.proofs.DriverFacts.{both_of}
use Rattle.flat_design.proofs.drivers.driver_edges.driver_edge.Goals as goal

pub returns : goal.returns
returns c = λ inside outside at from_at.
    let net = net_at inside.path c.args.to.now in
    let origin = origin_at outside.path c.args.from.now in
    subst (λ (row : Option DriverEdge). IsDriverEdgeOf c.args.design.now (drive net origin) row) (sym c.row_of.ensures)
    (both_of c.args.design.now net origin c.driven_net.result c.bit_as_driver.result (c.driven_net.ensures inside at) (c.bit_as_driver.ensures outside from_at))
