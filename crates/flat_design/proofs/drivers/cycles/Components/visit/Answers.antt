use Rattle.std.proofs.Common.{length}
use Rattle.flat_design.proofs.drivers.cycles.Components.visit.Goals as goal

pub loop-at-init : goal.loop-at-init
loop-at-init c = c.in_ok-enter.ensures.keeps (length c.args.table.now.last) (length c.args.table.now.rows.now) c.requires.components
