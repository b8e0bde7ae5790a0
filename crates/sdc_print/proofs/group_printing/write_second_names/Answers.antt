use Rattle.std.proofs.Common.{◌≡◌, ◌++◌, drop, get_or, slice_get, suc, add-one, sym, ap, subst, ◌∙◌, append_assoc}
use Rattle.std.proofs.lemmas.List.{drop_all}
use Rattle.mode_model.specs.PrintedFile.{names_at, name_of}
use Rattle.sdc_print.specs.Added.{added, Overflows}
use Rattle.sdc_print.specs.Runs.{seconds}
use Rattle.sdc_print.proofs.AddedFacts.{added_added, added_none, goes_on, ends, refused, within}
use Rattle.sdc_print.proofs.GroupFacts.{gap_text, tail_text, tail_text_all, tail_step, gap_above, gap_none}
use Rattle.sdc_print.proofs.group_printing.write_second_names.Goals as goal
use Rattle.sdc_print.proofs.group_printing.write_second_names.Goals.{then-place-gt0+in_ok-push, else-place-gt0}

pub loop-place-preserved : goal.loop-place-preserved
loop-place-preserved c =
    let i = c.loop-place.place in
    let clocks = c.args.clocks.now in
    let pairs = c.args.pairs.now in
    let gap : c.if-place-gt0.out ≡ added c.loop-place.out (gap_text i) =
    elim c.if-place-gt0.branch [
      | then-place-gt0+in_ok-push w ↦ w.out-is ∙ w.in_ok-push.ensures.adds ∙ ap (added c.loop-place.out) (gap_above i w.if-place-gt0.true)
      | else-place-gt0 w ↦ w.out-is ∙ sym (added_none c.loop-place.out) ∙ ap (added c.loop-place.out) (gap_none i w.if-place-gt0.false)
    ] in
    let name = name_of (slice_get clocks (get_or pairs i (record { first = 0; second = 0 })).second) in
    let rest = tail_text (suc i) (names_at clocks (seconds (drop (suc i) pairs))) in
    rw add-one
    (goes_on c.args.out.now c.loop-place.out c.push_clock_name.new.out (tail_text 0 (names_at clocks (seconds pairs)))
    (tail_text i (names_at clocks (seconds (drop i pairs)))) (gap_text i ++ name) rest c.loop-place.invariant
    (c.in_ok-push_clock_name.ensures.adds ∙ ap (λ s. added s name) gap ∙ added_added c.loop-place.out (gap_text i) name)
    (tail_step clocks pairs i _ c.loop-place-test.true ∙ sym (append_assoc (gap_text i) name rest)))

pub returns-clause-adds : goal.returns-clause-adds
returns-clause-adds c =
    let i = c.loop-place.place in
    let clocks = c.args.clocks.now in
    let pairs = c.args.pairs.now in
    ends c.args.out.now c.loop-place.out (tail_text 0 (names_at clocks (seconds pairs)))
    (tail_text i (names_at clocks (seconds (drop i pairs)))) c.loop-place.invariant
    (ap (λ ps. tail_text i (names_at clocks (seconds ps))) (drop_all i pairs c.loop-place-test.false))
    ∙ ap (added c.args.out.now) (tail_text_all (names_at clocks (seconds pairs)))

pub returns-in_err-push-clause-limit : goal.returns-in_err-push-clause-limit
returns-in_err-push-clause-limit c =
    let i = c.loop-place.place in
    let clocks = c.args.clocks.now in
    let pairs = c.args.pairs.now in
    let name = name_of (slice_get clocks (get_or pairs i (record { first = 0; second = 0 })).second) in
    let rest = tail_text (suc i) (names_at clocks (seconds (drop (suc i) pairs))) in
    let past : Overflows (added c.loop-place.out (gap_text i)) =
    subst (λ gap. Overflows (added c.loop-place.out gap)) (gap_above i c.if-place-gt0.true) c.in_err-push.ensures.limit in
    refused _ (subst (λ text. Overflows (added c.args.out.now text)) (tail_text_all (names_at clocks (seconds pairs)))
    (within c.args.out.now c.loop-place.out (tail_text 0 (names_at clocks (seconds pairs)))
    (tail_text i (names_at clocks (seconds (drop i pairs)))) (gap_text i) (name ++ rest) c.loop-place.invariant
    (tail_step clocks pairs i _ c.loop-place-test.true) past))

pub returns-in_err-push_clock_name-clause-limit : goal.returns-in_err-push_clock_name-clause-limit
returns-in_err-push_clock_name-clause-limit c =
    let i = c.loop-place.place in
    let clocks = c.args.clocks.now in
    let pairs = c.args.pairs.now in
    let gap : c.if-place-gt0.out ≡ added c.loop-place.out (gap_text i) =
    elim c.if-place-gt0.branch [
      | then-place-gt0+in_ok-push w ↦ w.out-is ∙ w.in_ok-push.ensures.adds ∙ ap (added c.loop-place.out) (gap_above i w.if-place-gt0.true)
      | else-place-gt0 w ↦ w.out-is ∙ sym (added_none c.loop-place.out) ∙ ap (added c.loop-place.out) (gap_none i w.if-place-gt0.false)
    ] in
    let name = name_of (slice_get clocks (get_or pairs i (record { first = 0; second = 0 })).second) in
    let rest = tail_text (suc i) (names_at clocks (seconds (drop (suc i) pairs))) in
    let past : Overflows (added c.loop-place.out (gap_text i ++ name)) =
    subst Overflows (ap (λ s. added s name) gap ∙ added_added c.loop-place.out (gap_text i) name) c.in_err-push_clock_name.ensures.limit in
    refused _ (subst (λ text. Overflows (added c.args.out.now text)) (tail_text_all (names_at clocks (seconds pairs)))
    (within c.args.out.now c.loop-place.out (tail_text 0 (names_at clocks (seconds pairs)))
    (tail_text i (names_at clocks (seconds (drop i pairs)))) (gap_text i ++ name) rest c.loop-place.invariant
    (tail_step clocks pairs i _ c.loop-place-test.true ∙ sym (append_assoc (gap_text i) name rest)) past))
