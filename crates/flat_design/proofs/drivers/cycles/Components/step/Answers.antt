use Rattle.std.proofs.Common.{length, arith}
use Rattle.flat_design.proofs.CycleFacts.{path_within}
use Rattle.flat_design.proofs.drivers.cycles.Components.step.Goals as goal

pub pass_back-requires-clause-net : goal.pass_back-requires-clause-net
pass_back-requires-clause-net c =
    omega (arith, c.requires.net, (c.close.ensures.keeps (length c.args.table.now.last) (length c.args.table.now.rows.now) c.requires.components).numbers)

pub pass_back-requires-clause-path : goal.pass_back-requires-clause-path
pass_back-requires-clause-path c =
    path_within (length c.args.table.now.last) (length c.args.table.now.rows.now) c.close.new.self
    (c.close.ensures.keeps (length c.args.table.now.last) (length c.args.table.now.rows.now) c.requires.components)

pub returns-else-last-gt0-clause-components : goal.returns-else-last-gt0-clause-components
returns-else-last-gt0-clause-components c =
    c.pass_back.ensures.keeps (length c.args.table.now.last) (length c.args.table.now.rows.now)
    (c.close.ensures.keeps (length c.args.table.now.last) (length c.args.table.now.rows.now) c.requires.components)
