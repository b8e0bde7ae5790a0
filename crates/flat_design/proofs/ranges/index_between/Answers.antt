use Rattle.flat_design.proofs.RangeFacts.{down_at, up_at}
use Rattle.flat_design.proofs.ranges.index_between.Goals as goal

pub returns-then-left-right : goal.returns-then-left-right
returns-then-left-right c = up_at c.args.left c.args.right c.args.place c.if-left-right.true c.requires

pub returns-else-left-right : goal.returns-else-left-right
returns-else-left-right c = down_at c.args.left c.args.right c.args.place c.if-left-right.false c.requires
