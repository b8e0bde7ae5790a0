use Rattle.flat_design.specs.Steps.{cell_names}
use Rattle.flat_design.proofs.TableFacts.{table_gives}
use Rattle.flat_design.proofs.elaborate.steps.cell_place.Goals as goal

pub returns : goal.returns
returns c =
    table_gives c.args.tables.now.cell_places (cell_names c.args.tables.now.library.now) c.place.result c.as_str.result.now c.args.name.now
    c.requires.cells c.place.ensures c.as_str.ensures
