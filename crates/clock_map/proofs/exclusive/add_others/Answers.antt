use Rattle.std.proofs.Common.{◌≡◌, ◌∙◌, ◌++◌, sym, ap, get_or, false, refl}
use Rattle.std.proofs.lemmas.List.{append-nil}
use Rattle.clock_map.specs.Timings.{pair_unless}
use Rattle.clock_map.proofs.PairRows.{others_step}
use Rattle.clock_map.proofs.exclusive.add_others.Goals as goal
use Rattle.clock_map.proofs.exclusive.add_others.Goals.{then-not-timed-second+in_ok-push, else-not-timed-second}

pub loop-second-preserved : goal.loop-second-preserved
loop-second-preserved c =
    let a = c.args.first in
    let b = c.loop-second.second in
    let before = c.loop-second.pairs in
    let flag = get_or c.args.timed.now b false in
    let added : c.if-not-timed-second.pairs ≡ before ++ pair_unless flag a b =
    elim c.if-not-timed-second.branch [
      | then-not-timed-second+in_ok-push w ↦ w.pairs-is ∙ w.in_ok-push.ensures.ok ∙ ap (λ t. before ++ pair_unless t a b) (sym w.if-not-timed-second.true)
      | else-not-timed-second w ↦ w.pairs-is ∙ sym (append-nil before) ∙ ap (λ t. before ++ pair_unless t a b) (sym w.if-not-timed-second.false)
    ] in
    others_step c.args.timed.now a b c.args.count before c.if-not-timed-second.pairs _ flag c.loop-second-test.true refl added c.loop-second.invariant
