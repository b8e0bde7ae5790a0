use Rattle.std.proofs.Common.{List, Option, None, sym, subst}
use Rattle.std.specs.List.{All}
use Rattle.source_types.specs.declared.netlists.Bit.{Bit}
use Rattle.flat_model.specs.FlatNets.{NetDriver, output_drivers}
use Rattle.flat_design.specs.Connected.{shown}
use Rattle.flat_design.specs.Drivers.{Adds, HasBit, IsDriverEdge}
use Rattle.flat_design.proofs.CellFacts.{driven_by_input, driven_by_other, driven_by_output}
use Rattle.flat_design.proofs.RowFacts.{rows_none}
use Rattle.flat_design.proofs.drivers.cell_drivers.add_pin.Goals as goal
use denote.Ref.{Bor}

pub returns-in-Input : goal.returns-in-Input
returns-in-Input c = λ found at.
    subst (λ (drivers : List NetDriver). Adds c.args.design.now drivers c.args.rows.now c.args.rows.now)
    (sym (driven_by_input found c.args.at c.args.pin.now (shown c.args.connection) c.in-Input.is)) (rows_none (IsDriverEdge c.args.design.now) c.args.rows.now)

pub returns-in-Other : goal.returns-in-Other
returns-in-Other c = λ found at.
    subst (λ (drivers : List NetDriver). Adds c.args.design.now drivers c.args.rows.now c.args.rows.now)
    (sym (driven_by_other found c.args.at c.args.pin.now (shown c.args.connection) c.in-Other.is)) (rows_none (IsDriverEdge c.args.design.now) c.args.rows.now)

pub returns-in-None : goal.returns-in-None
returns-in-None c = λ found at.
    subst (λ (o : Option (Bor (List Bit))). Adds c.args.design.now (output_drivers found ((c.args.at, c.args.pin.now), shown o)) c.args.rows.now c.args.rows.now) (sym c.in-None.is)
    (subst (λ (drivers : List NetDriver). Adds c.args.design.now drivers c.args.rows.now c.args.rows.now)
    (sym (driven_by_output found c.args.at c.args.pin.now (shown None) c.in-Output.is)) (rows_none (IsDriverEdge c.args.design.now) c.args.rows.now))

pub add_output-requires-clause-bits : goal.add_output-requires-clause-bits
add_output-requires-clause-bits c = λ row at.
    subst (λ (xs : List Bit). All (HasBit c.args.design.now row.at.scope) xs) (sym c.as_slice.ensures)
    (subst (λ (o : Option (Bor (List Bit))). All (HasBit c.args.design.now row.at.scope) (shown o)) c.in-Some.is (c.requires.bits row at))
