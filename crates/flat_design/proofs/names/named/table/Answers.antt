use Rattle.flat_design.proofs.TableFacts.{table_step}
use Rattle.flat_design.proofs.names.named.table.Goals as goal

pub loop-place-preserved : goal.loop-place-preserved
loop-place-preserved g c =
    table_step g.T.Named.name c.args.things.now c.loop-place.place c.index-things-place.result c.name.result.now c.loop-place.table c.in_ok-table.table
    c.loop-place.invariant c.in_ok-table.ensures c.loop-place-test.true c.index-things-place.is c.name.ensures
