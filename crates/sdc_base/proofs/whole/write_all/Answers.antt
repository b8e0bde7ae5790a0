use Rattle.std.proofs.Common.{[], ◌∙◌, arith, length-take, length-drop}
use Rattle.std.proofs.lemmas.List.{take_rest}
use Rattle.std.proofs.lemmas.Result.{err_from_is_err_and}
use Rattle.sdc_base.proofs.WholeWrites.{more_written, refused_write}
use Rattle.sdc_base.proofs.whole.write_all.Goals as goal

pub returns-in_err-count-clause-writes : goal.returns-in_err-count-clause-writes
returns-in_err-count-clause-writes g c =
    let p = err_from_is_err_and c.from_residual.result c.from_residual.ensures.1 in
    rw (p.1, p.2) (refused_write c.args.channel c.args.bytes.now [] c.loop-done.done c.in_err-count.field-0.0 _ _ _ c.loop-done-test.true c.loop-done.invariant.1 c.in_err-count.ensures.writes)

pub loop-done-preserved : goal.loop-done-preserved
loop-done-preserved g c =
    (let w = simp (length-take, length-drop) at c.in_ok-count.ensures.within in omega arith, more_written c.args.channel c.args.bytes.now _ c.loop-done.done c.in_ok-count.count _ _ _ (take_rest c.args.bytes.now c.loop-done.done) c.loop-done.invariant.1 c.in_ok-count.ensures.writes, c.in_ok-count.ensures.quiet ∙ c.loop-done.invariant.2)
