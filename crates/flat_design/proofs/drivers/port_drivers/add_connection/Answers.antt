use Rattle.std.proofs.Common.{List, Option, sym, subst}
use Rattle.std.specs.List.{All}
use Rattle.source_types.specs.declared.netlists.Bit.{Bit}
use Rattle.flat_model.specs.FlatNets.{port_drivers}
use Rattle.flat_design.specs.Connected.{shown}
use Rattle.flat_design.specs.Drivers.{Adds, HasBit}
use Rattle.flat_design.proofs.BoundaryFacts.{no_drivers}
use Rattle.flat_design.proofs.drivers.port_drivers.add_connection.Goals as goal
use denote.Ref.{Bor}

pub returns-in-None : goal.returns-in-None
returns-in-None c = λ inner outer at out.
    subst (λ (o : Option (Bor (List Bit))). Adds c.args.design.now (port_drivers inner.path outer.path (c.args.port.now, shown o)) c.args.rows.now c.args.rows.now)
    (sym c.in-None.is) (no_drivers c.args.design.now inner.path outer.path c.args.port.now c.args.rows.now)

pub add_port-requires-clause-bits : goal.add_port-requires-clause-bits
add_port-requires-clause-bits c =
    subst (λ (xs : List Bit). All (HasBit c.args.design.now c.args.outside) xs) (sym c.as_slice.ensures)
    (subst (λ (o : Option (Bor (List Bit))). All (HasBit c.args.design.now c.args.outside) (shown o)) c.in-Some.is c.requires.bits)
