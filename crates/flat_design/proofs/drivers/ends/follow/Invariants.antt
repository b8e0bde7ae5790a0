-- The nets on the path are being followed, and what is done has its end.
use Rattle.std.proofs.Common.{length}
use Rattle.flat_design.proofs.EndMarks.{to_follow}
use Rattle.flat_design.proofs.EndSteps.{Following}
use Rattle.flat_design.proofs.drivers.ends.follow.Given as goal

abbrev pub invariant-loop-at : goal.invariant-loop-at
invariant-loop-at l = Following l.table.rows.now (length l.table.last) l.net l.initial.marks.items l.marks.items l.path.items

abbrev pub decreases-loop-at : goal.decreases-loop-at
decreases-loop-at l = to_follow l.marks.items
