use Rattle.flat_design.proofs.LeftOver.{has_room}
use Rattle.flat_design.proofs.elaborate.expansion.next_step_at.Goals as goal

pub returns-in-Some-clause-room : goal.returns-in-Some-clause-room
returns-in-Some-clause-room c = has_room c.next_step_of.result c.args.frame.next c.if-prove-2.false
