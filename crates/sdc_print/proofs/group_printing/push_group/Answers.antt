use Rattle.std.proofs.Common.{◌≡◌, ◌<◌, length, sym, ap, ◌∙◌, arith}
use Rattle.std.proofs.lemmas.Bool.Decides.{nat_tests}
use Rattle.sdc_print.specs.Added.{added}
use Rattle.sdc_print.proofs.AddedFacts.{added_none, longer, stops}
use Rattle.sdc_print.proofs.AddedLines.{group_added}
use Rattle.sdc_print.proofs.GroupFacts.{no_group}
use Rattle.sdc_print.proofs.group_printing.push_group.Goals as goal

pub returns-then-is_empty-clause-adds : goal.returns-then-is_empty-clause-adds
returns-then-is_empty-clause-adds c =
    let none : length c.args.pairs.now ≡ 0 = grind (arith, nat_tests) in
    sym (added_none c.args.out.now) ∙ ap (added c.args.out.now) (no_group c.args.name.now c.args.clocks.now c.args.pairs.now none)

pub returns-clause-adds : goal.returns-clause-adds
returns-clause-adds c =
    let some : 0 < length c.args.pairs.now = grind (arith, nat_tests) in
    rw (
      c.in_ok-push-4.ensures.adds,
      c.in_ok-push_second_names.ensures.adds,
      c.in_ok-push-3.ensures.adds,
      c.in_ok-push-2.ensures.adds,
      c.in_ok-push.ensures.adds,
    ) (group_added c.args.out.now c.args.name.now c.args.clocks.now c.args.pairs.now some)

pub returns-in_err-push-clause-limit : goal.returns-in_err-push-clause-limit
returns-in_err-push-clause-limit c =
    let some : 0 < length c.args.pairs.now = grind (arith, nat_tests) in
    let past = c.in_err-push.ensures.limit in
    stops _ (group_added c.args.out.now c.args.name.now c.args.clocks.now c.args.pairs.now some) (search (longer, past))

pub returns-in_err-push-2-clause-limit : goal.returns-in_err-push-2-clause-limit
returns-in_err-push-2-clause-limit c =
    let some : 0 < length c.args.pairs.now = grind (arith, nat_tests) in
    let past = rw (c.in_ok-push.ensures.adds) at c.in_err-push-2.ensures.limit in
    stops _ (group_added c.args.out.now c.args.name.now c.args.clocks.now c.args.pairs.now some) (search (longer, past))

pub returns-in_err-push-3-clause-limit : goal.returns-in_err-push-3-clause-limit
returns-in_err-push-3-clause-limit c =
    let some : 0 < length c.args.pairs.now = grind (arith, nat_tests) in
    let past = rw (c.in_ok-push-2.ensures.adds, c.in_ok-push.ensures.adds) at c.in_err-push-3.ensures.limit in
    stops _ (group_added c.args.out.now c.args.name.now c.args.clocks.now c.args.pairs.now some) (search (longer, past))

pub returns-in_err-push_second_names-clause-limit : goal.returns-in_err-push_second_names-clause-limit
returns-in_err-push_second_names-clause-limit c =
    let some : 0 < length c.args.pairs.now = grind (arith, nat_tests) in
    let past = rw (c.in_ok-push-3.ensures.adds, c.in_ok-push-2.ensures.adds, c.in_ok-push.ensures.adds) at c.in_err-push_second_names.ensures.limit in
    stops _ (group_added c.args.out.now c.args.name.now c.args.clocks.now c.args.pairs.now some) (search (longer, past))

pub returns-in_err-push-4-clause-limit : goal.returns-in_err-push-4-clause-limit
returns-in_err-push-4-clause-limit c =
    let some : 0 < length c.args.pairs.now = grind (arith, nat_tests) in
    let past = rw (c.in_ok-push_second_names.ensures.adds, c.in_ok-push-3.ensures.adds, c.in_ok-push-2.ensures.adds, c.in_ok-push.ensures.adds) at c.in_err-push-4.ensures.limit in
    stops _ (group_added c.args.out.now c.args.name.now c.args.clocks.now c.args.pairs.now some) (search past)
