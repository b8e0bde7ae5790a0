use Rattle.std.proofs.Common.{◌≡◌, ◌<◌, ◌≤◌, length, drop, take, get_or, suc, add-one, ap, ◌∙◌, refl}
use Rattle.std.proofs.lemmas.List.{drop_all}
use Rattle.mode_model.specs.PrintedLine.{lines_text}
use Rattle.mode_model.specs.PrintedFile.{group_lines}
use Rattle.sdc_print.specs.Added.{added, Overflows}
use Rattle.sdc_print.specs.Runs.{run_length, group_text}
use Rattle.sdc_print.proofs.AddedFacts.{goes_on, ends, refused, within}
use Rattle.sdc_print.proofs.GroupFacts.{group_lines_step}
use Rattle.sdc_print.proofs.RunFacts.{all_from_zero, takes_run}
use Rattle.sdc_print.proofs.group_printing.push_groups.Goals as goal

pub loop-place-init : goal.loop-place-init
loop-place-init c = rw c.as_slice-rest.ensures (record { text = refl; order = c.requires; above = all_from_zero c.args.pairs.now })

pub loop-place-preserved : goal.loop-place-preserved
loop-place-preserved c =
    let i = c.loop-place.place in
    let clock = c.clock-item.result in
    let clocks = c.args.clocks.now in
    let left = c.loop-place.rest.now in
    let inside : i < length clocks = rw c.as_slice-clock-items.ensures at c.loop-place-test.true in
    let is : clock ≡ get_or clocks i clock = rw c.as_slice-clock-items.ensures at c.clock-item.is in
    let run = takes_run (length clocks) i left c.loop-place.invariant.order c.loop-place.invariant.above in
    let group : c.split_at.result.0.now ≡ take (run_length i left) left =
    c.split_at.ensures.front ∙ ap (λ k. take k left) c.group_size.ensures.size in
    let others : c.split_at.result.1.now ≡ drop (run_length i left) left =
    c.split_at.ensures.back ∙ ap (λ k. drop k left) c.group_size.ensures.size in
    let next : c.push_group.new.out ≡ added c.loop-place.out (group_text clock.name clocks (take (run_length i left) left)) =
    c.in_ok-push_group.ensures.adds
    ∙ ap (λ name. added c.loop-place.out (group_text name clocks c.split_at.result.0.now)) c.as_bytes.ensures
    ∙ ap (λ ps. added c.loop-place.out (group_text clock.name clocks ps)) group in
    rw (others, add-one)
    (record {
      text = goes_on c.args.out.now c.loop-place.out c.push_group.new.out (lines_text (group_lines clocks c.args.pairs.now 0 clocks))
          (lines_text (group_lines clocks left i (drop i clocks))) (group_text clock.name clocks (take (run_length i left) left))
          (lines_text (group_lines clocks (drop (run_length i left) left) (suc i) (drop (suc i) clocks))) c.loop-place.invariant.text
          next (group_lines_step (length clocks) clocks left i clock inside is run);
      order = run.order;
      above = run.above;
    })

pub returns-clause-adds : goal.returns-clause-adds
returns-clause-adds c =
    let i = c.loop-place.place in
    let clocks = c.args.clocks.now in
    let past : length clocks ≤ i = rw c.as_slice-clock-items.ensures at c.loop-place-test.false in
    ends c.args.out.now c.loop-place.out (lines_text (group_lines clocks c.args.pairs.now 0 clocks))
    (lines_text (group_lines clocks c.loop-place.rest.now i (drop i clocks))) c.loop-place.invariant.text
    (ap (λ cs. lines_text (group_lines clocks c.loop-place.rest.now i cs)) (drop_all i clocks past))

pub returns-in_err-push_group-clause-limit : goal.returns-in_err-push_group-clause-limit
returns-in_err-push_group-clause-limit c =
    let i = c.loop-place.place in
    let clock = c.clock-item.result in
    let clocks = c.args.clocks.now in
    let left = c.loop-place.rest.now in
    let inside : i < length clocks = rw c.as_slice-clock-items.ensures at c.loop-place-test.true in
    let is : clock ≡ get_or clocks i clock = rw c.as_slice-clock-items.ensures at c.clock-item.is in
    let run = takes_run (length clocks) i left c.loop-place.invariant.order c.loop-place.invariant.above in
    let group : c.split_at.result.0.now ≡ take (run_length i left) left =
    c.split_at.ensures.front ∙ ap (λ k. take k left) c.group_size.ensures.size in
    let past : Overflows (added c.loop-place.out (group_text clock.name clocks (take (run_length i left) left))) =
    rw (c.as_bytes.ensures, group) at c.in_err-push_group.ensures.limit in
    refused _ (within c.args.out.now c.loop-place.out (lines_text (group_lines clocks c.args.pairs.now 0 clocks))
    (lines_text (group_lines clocks left i (drop i clocks))) (group_text clock.name clocks (take (run_length i left) left))
    (lines_text (group_lines clocks (drop (run_length i left) left) (suc i) (drop (suc i) clocks))) c.loop-place.invariant.text
    (group_lines_step (length clocks) clocks left i clock inside is run) past)
