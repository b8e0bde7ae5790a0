use Rattle.std.proofs.Common.{arith}
use Rattle.sdc_base.proofs.NearestFacts.{grow_more}
use Rattle.sdc_base.proofs.rounding.grown.Goals as goal

pub loop-step-preserved : goal.loop-step-preserved
loop-step-preserved c =
    let e = grow_more c.args.value c.loop-step._step in
    omega (arith, e, c.loop-step.invariant, c.min-grown-in-loop-step.ensures)
