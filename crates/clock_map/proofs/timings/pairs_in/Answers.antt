use Rattle.std.proofs.Common.{◌≤◌, length, get_or, List, ap, subst}
use Rattle.std.proofs.lemmas.List.{take_all}
use Rattle.timing_types.specs.declared.clocks.Pair.{Pair}
use Rattle.clock_map.specs.Timings.{HoldsPairs}
use Rattle.clock_map.proofs.PairSets.{pairs_step}
use Rattle.clock_map.proofs.timings.pairs_in.Goals as goal

pub loop-pair-preserved : goal.loop-pair-preserved
loop-pair-preserved c =
    let items = c.as_slice-pair-items.ensures in
    let none : Pair = record { first = 0; second = 0 } in
    let pair = get_or c.as_slice-pair-items.result.now c.loop-pair.pair-index none in
    pairs_step c.args.pairs.now c.loop-pair.pair-index pair none c.loop-pair.set.keys c.insert.new.self.keys
    (rw items at c.loop-pair-test.true) (ap (λ ps. get_or ps c.loop-pair.pair-index none) items)
    (λ a b. c.in_ok-insert.ensures.updates.0 (a, b)) c.loop-pair.invariant

pub returns : goal.returns
returns c =
    let done : length c.args.pairs.now ≤ c.loop-pair.pair-index = rw c.as_slice-pair-items.ensures at c.loop-pair-test.false in
    subst (λ (ps : List Pair). HoldsPairs ps c.loop-pair.set.keys) (take_all c.loop-pair.pair-index c.args.pairs.now done) c.loop-pair.invariant
