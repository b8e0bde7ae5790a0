use Rattle.flat_design.specs.Steps.{module_names}
use Rattle.flat_design.proofs.TableFacts.{table_gives}
use Rattle.flat_design.proofs.elaborate.steps.module_place.Goals as goal

pub returns : goal.returns
returns c =
    table_gives c.args.tables.now.module_places (module_names c.args.tables.now.modules.now) c.place.result c.as_str.result.now c.args.name.now
    c.requires.modules c.place.ensures c.as_str.ensures
