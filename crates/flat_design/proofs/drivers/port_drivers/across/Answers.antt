use Rattle.std.proofs.Common.{Option, Some, None, sym, subst}
use Rattle.pin_types.specs.declared.library_cells.Direction.{Direction}
use Rattle.pin_types.specs.declared.library_cells.Direction.TheVariants as direction
use Rattle.source_types.specs.declared.netlists.Bit.TheVariants as bits
use Rattle.flat_model.specs.FlatNets.{across, from_net, net_at, net_bit, origin_at}
use Rattle.netlist_model.specs.WellFormedNetlist.{IsNetBit}
use Rattle.flat_design.specs.declared.drivers.driver_edges.DriverEdge.{DriverEdge}
use Rattle.flat_design.specs.declared.drivers.driver_edges.Driver.TheVariants as driver
use Rattle.flat_design.specs.Drivers.{IsDriverEdgeOf}
use Rattle.flat_design.specs.Hierarchy.{scopes_in}
use Rattle.flat_model.specs.Instances.{ModuleInstance}
use Rattle.flat_design.proofs.DriverFacts.{both_of}
use Rattle.flat_design.proofs.HierarchyFacts.{one_at}
use Rattle.flat_design.proofs.drivers.port_drivers.across.Goals as goal

pub returns-in-Input : goal.returns-in-Input
returns-in-Input c = λ inner outer at out.
    let design = c.args.design.now in
    let port = c.args.port.now in
    let bit : IsNetBit inner.body.nets port.name c.args.index =
    subst (λ (s : ModuleInstance). IsNetBit s.body.nets port.name c.args.index) (one_at (scopes_in design) c.args.inside c.requires.port.0 inner c.requires.port.1 at) c.requires.port.2 in
    subst (λ (d : Direction). IsDriverEdgeOf design (across d inner.path outer.path (bits.Net port.name c.args.index) c.args.bit.now) c.row_of.result) (sym c.in-Input.is)
    (subst (λ (row : Option DriverEdge). IsDriverEdgeOf design (across direction.Input inner.path outer.path (bits.Net port.name c.args.index) c.args.bit.now) row) (sym c.row_of.ensures)
    (both_of design (Some (net_bit inner.path port.name c.args.index)) (origin_at outer.path c.args.bit.now) (Some c.net_number-net.result) c.bit_as_driver.result
    (c.net_number-net.ensures inner at bit) (c.bit_as_driver.ensures outer out)))

pub returns-in-Output : goal.returns-in-Output
returns-in-Output c = λ inner outer at out.
    let design = c.args.design.now in
    let port = c.args.port.now in
    let bit : IsNetBit inner.body.nets port.name c.args.index =
    subst (λ (s : ModuleInstance). IsNetBit s.body.nets port.name c.args.index) (one_at (scopes_in design) c.args.inside c.requires.port.0 inner c.requires.port.1 at) c.requires.port.2 in
    subst (λ (d : Direction). IsDriverEdgeOf design (across d inner.path outer.path (bits.Net port.name c.args.index) c.args.bit.now) c.row_of-in-Output.result) (sym c.in-Output.is)
    (subst (λ (row : Option DriverEdge). IsDriverEdgeOf design (across direction.Output inner.path outer.path (bits.Net port.name c.args.index) c.args.bit.now) row) (sym c.row_of-in-Output.ensures)
    (both_of design (net_at outer.path c.args.bit.now) (Some (from_net (net_bit inner.path port.name c.args.index))) c.driven_net.result (Some (driver.Net c.net_number-net.result))
    (c.driven_net.ensures outer out) (c.net_number-net.ensures inner at bit)))

pub returns-in-Other : goal.returns-in-Other
returns-in-Other c = λ inner outer at out.
    subst (λ (d : Direction). IsDriverEdgeOf c.args.design.now (across d inner.path outer.path (bits.Net c.args.port.now.name c.args.index) c.args.bit.now) None) (sym c.in-Other.is) tt
