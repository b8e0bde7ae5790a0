use Rattle.std.proofs.Common.{◌≡◌, ◌<◌, ◌≤◌, length, drop, get_or, suc, add-one, rules, ap}
use Rattle.std.proofs.lemmas.Int.{to_z-of_z}
use Rattle.std.proofs.lemmas.List.{drop_all}
use Rattle.std.specs.Int.{w64}
use mir.Val.{SFits}
use Rattle.mode_model.specs.PrintedLine.{lines_text}
use Rattle.mode_model.specs.PrintedFile.{clock_lines, lines_of_form}
use Rattle.sdc_print.proofs.AddedFacts.{goes_on, ends, refused, within}
use Rattle.sdc_print.proofs.LineFacts.{clock_lines_step}
use Rattle.sdc_print.proofs.clock_printing.push_clocks.Goals as goal

pub loop-clock-preserved : goal.loop-clock-preserved
loop-clock-preserved c =
    let unit : SFits w64 c.args.unit = search rules in
    let i = c.loop-clock.clock-index in
    let clock = c.clock-item.result in
    let clocks = c.args.clocks.now in
    let inside : i < length clocks = rw c.as_slice-clock-items.ensures at c.loop-clock-test.true in
    let is : clock ≡ get_or clocks i clock = rw c.as_slice-clock-items.ensures at c.clock-item.is in
    let so_far = simp to_z-of_z at c.loop-clock.invariant in
    let next = simp (to_z-of_z, c.as_bytes.ensures) at c.in_ok-push_form.ensures.adds in
    rw (to_z-of_z, add-one)
    (goes_on c.args.out.now c.loop-clock.out c.push_form.new.out (lines_text (clock_lines c.args.unit clocks))
    (lines_text (clock_lines c.args.unit (drop i clocks))) (lines_text (lines_of_form c.args.unit clock.name clock.form))
    (lines_text (clock_lines c.args.unit (drop (suc i) clocks))) so_far next
    (clock_lines_step c.args.unit clocks i clock inside is))

pub returns-clause-adds : goal.returns-clause-adds
returns-clause-adds c =
    let unit : SFits w64 c.args.unit = search rules in
    let i = c.loop-clock.clock-index in
    let clocks = c.args.clocks.now in
    let past : length clocks ≤ i = rw c.as_slice-clock-items.ensures at c.loop-clock-test.false in
    ends c.args.out.now c.loop-clock.out (lines_text (clock_lines c.args.unit clocks))
    (lines_text (clock_lines c.args.unit (drop i clocks))) (simp to_z-of_z at c.loop-clock.invariant)
    (ap (λ cs. lines_text (clock_lines c.args.unit cs)) (drop_all i clocks past))

pub returns-in_err-push_form-clause-limit : goal.returns-in_err-push_form-clause-limit
returns-in_err-push_form-clause-limit c =
    let unit : SFits w64 c.args.unit = search rules in
    let i = c.loop-clock.clock-index in
    let clock = c.clock-item.result in
    let clocks = c.args.clocks.now in
    let inside : i < length clocks = rw c.as_slice-clock-items.ensures at c.loop-clock-test.true in
    let is : clock ≡ get_or clocks i clock = rw c.as_slice-clock-items.ensures at c.clock-item.is in
    refused _ (within c.args.out.now c.loop-clock.out (lines_text (clock_lines c.args.unit clocks))
    (lines_text (clock_lines c.args.unit (drop i clocks))) (lines_text (lines_of_form c.args.unit clock.name clock.form))
    (lines_text (clock_lines c.args.unit (drop (suc i) clocks))) (simp to_z-of_z at c.loop-clock.invariant)
    (clock_lines_step c.args.unit clocks i clock inside is) (simp (to_z-of_z, c.as_bytes.ensures) at c.in_err-push_form.ensures.limit))
