use Rattle.clock_map.proofs.NameLists.{held_first, held_second}
use Rattle.clock_map.proofs.names.is_taken.Goals as goal

pub returns-then-contains : goal.returns-then-contains
returns-then-contains c = held_first c.args.own.now c.args.earlier.now c.args.name.now c.contains.result c.contains.ensures c.if-contains.true

pub returns-else-contains : goal.returns-else-contains
returns-else-contains c =
    held_second c.args.own.now c.args.earlier.now c.args.name.now c.contains.result c.contains-else-contains.result
    c.contains.ensures c.if-contains.false c.contains-else-contains.ensures
