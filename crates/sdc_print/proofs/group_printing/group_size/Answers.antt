use Rattle.std.proofs.Common.{add-one, arith}
use Rattle.sdc_print.proofs.RunFacts.{run_more, run_stops, run_ends}
use Rattle.sdc_print.proofs.group_printing.group_size.Goals as goal

pub returns-then-pair-place-clause-size : goal.returns-then-pair-place-clause-size
returns-then-pair-place-clause-size c =
    let s = run_stops c.args.place c.args.pairs.now c.loop-size.size _ c.loop-size-test.true c.if-pair-place.true in
    omega (arith, c.loop-size.invariant)

pub loop-size-preserved : goal.loop-size-preserved
loop-size-preserved c =
    let s = run_more c.args.place c.args.pairs.now c.loop-size.size _ c.loop-size-test.true c.if-pair-place.false in
    rw add-one (omega (arith, c.loop-size.invariant))

pub returns-clause-size : goal.returns-clause-size
returns-clause-size c =
    let s = run_ends c.args.place c.args.pairs.now c.loop-size.size c.loop-size-test.false in
    omega (arith, c.loop-size.invariant)
