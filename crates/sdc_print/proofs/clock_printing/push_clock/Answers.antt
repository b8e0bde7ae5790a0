use Rattle.std.proofs.Common.{rules}
use Rattle.std.proofs.lemmas.Int.{to_z-of_z}
use Rattle.std.specs.Int.{w64}
use mir.Val.{SFits}
use Rattle.sdc_print.proofs.AddedFacts.{longer, stops}
use Rattle.sdc_print.proofs.AddedLines.{clock_added}
use Rattle.sdc_print.proofs.clock_printing.push_clock.Goals as goal

pub returns-clause-adds : goal.returns-clause-adds
returns-clause-adds c =
    let unit : SFits w64 c.args.unit = search rules in
    let period : SFits w64 c.args.wave.now.period = search rules in
    let rise : SFits w64 c.args.wave.now.rise = search rules in
    let fall : SFits w64 c.args.wave.now.fall = search rules in
    rw (
      c.in_ok-push-5.ensures.adds,
      simp to_z-of_z at c.in_ok-push_time-3.ensures.adds,
      c.in_ok-push-4.ensures.adds,
      simp to_z-of_z at c.in_ok-push_time-2.ensures.adds,
      c.in_ok-push-3.ensures.adds,
      simp to_z-of_z at c.in_ok-push_time.ensures.adds,
      c.in_ok-push-2.ensures.adds,
      c.in_ok-push_name.ensures.adds,
      c.in_ok-push.ensures.adds,
    ) (clock_added c.args.out.now c.args.unit c.args.name.now c.args.wave.now)

pub returns-in_err-push-clause-limit : goal.returns-in_err-push-clause-limit
returns-in_err-push-clause-limit c =
    let past = c.in_err-push.ensures.limit in
    stops _ (clock_added c.args.out.now c.args.unit c.args.name.now c.args.wave.now) (search (longer, past) depth 9)

pub returns-in_err-push_name-clause-limit : goal.returns-in_err-push_name-clause-limit
returns-in_err-push_name-clause-limit c =
    let past = rw (c.in_ok-push.ensures.adds) at c.in_err-push_name.ensures.limit in
    stops _ (clock_added c.args.out.now c.args.unit c.args.name.now c.args.wave.now) (search (longer, past) depth 9)

pub returns-in_err-push-2-clause-limit : goal.returns-in_err-push-2-clause-limit
returns-in_err-push-2-clause-limit c =
    let past = rw (c.in_ok-push_name.ensures.adds, c.in_ok-push.ensures.adds) at c.in_err-push-2.ensures.limit in
    stops _ (clock_added c.args.out.now c.args.unit c.args.name.now c.args.wave.now) (search (longer, past) depth 9)

pub returns-in_err-push_time-clause-limit : goal.returns-in_err-push_time-clause-limit
returns-in_err-push_time-clause-limit c =
    let unit : SFits w64 c.args.unit = search rules in
    let period : SFits w64 c.args.wave.now.period = search rules in
    let past = rw (c.in_ok-push-2.ensures.adds, c.in_ok-push_name.ensures.adds, c.in_ok-push.ensures.adds) at (simp to_z-of_z at c.in_err-push_time.ensures.limit) in
    stops _ (clock_added c.args.out.now c.args.unit c.args.name.now c.args.wave.now) (search (longer, past))

pub returns-in_err-push-3-clause-limit : goal.returns-in_err-push-3-clause-limit
returns-in_err-push-3-clause-limit c =
    let unit : SFits w64 c.args.unit = search rules in
    let period : SFits w64 c.args.wave.now.period = search rules in
    let past = rw (simp to_z-of_z at c.in_ok-push_time.ensures.adds, c.in_ok-push-2.ensures.adds, c.in_ok-push_name.ensures.adds, c.in_ok-push.ensures.adds) at c.in_err-push-3.ensures.limit in
    stops _ (clock_added c.args.out.now c.args.unit c.args.name.now c.args.wave.now) (search (longer, past))

pub returns-in_err-push_time-2-clause-limit : goal.returns-in_err-push_time-2-clause-limit
returns-in_err-push_time-2-clause-limit c =
    let unit : SFits w64 c.args.unit = search rules in
    let period : SFits w64 c.args.wave.now.period = search rules in
    let rise : SFits w64 c.args.wave.now.rise = search rules in
    let past = rw (c.in_ok-push-3.ensures.adds, simp to_z-of_z at c.in_ok-push_time.ensures.adds, c.in_ok-push-2.ensures.adds, c.in_ok-push_name.ensures.adds, c.in_ok-push.ensures.adds) at (simp to_z-of_z at c.in_err-push_time-2.ensures.limit) in
    stops _ (clock_added c.args.out.now c.args.unit c.args.name.now c.args.wave.now) (search (longer, past))

pub returns-in_err-push-4-clause-limit : goal.returns-in_err-push-4-clause-limit
returns-in_err-push-4-clause-limit c =
    let unit : SFits w64 c.args.unit = search rules in
    let period : SFits w64 c.args.wave.now.period = search rules in
    let rise : SFits w64 c.args.wave.now.rise = search rules in
    let past = rw (simp to_z-of_z at c.in_ok-push_time-2.ensures.adds, c.in_ok-push-3.ensures.adds, simp to_z-of_z at c.in_ok-push_time.ensures.adds, c.in_ok-push-2.ensures.adds, c.in_ok-push_name.ensures.adds, c.in_ok-push.ensures.adds) at c.in_err-push-4.ensures.limit in
    stops _ (clock_added c.args.out.now c.args.unit c.args.name.now c.args.wave.now) (search (longer, past))

pub returns-in_err-push_time-3-clause-limit : goal.returns-in_err-push_time-3-clause-limit
returns-in_err-push_time-3-clause-limit c =
    let unit : SFits w64 c.args.unit = search rules in
    let period : SFits w64 c.args.wave.now.period = search rules in
    let rise : SFits w64 c.args.wave.now.rise = search rules in
    let fall : SFits w64 c.args.wave.now.fall = search rules in
    let past = rw (c.in_ok-push-4.ensures.adds, simp to_z-of_z at c.in_ok-push_time-2.ensures.adds, c.in_ok-push-3.ensures.adds, simp to_z-of_z at c.in_ok-push_time.ensures.adds, c.in_ok-push-2.ensures.adds, c.in_ok-push_name.ensures.adds, c.in_ok-push.ensures.adds) at (simp to_z-of_z at c.in_err-push_time-3.ensures.limit) in
    stops _ (clock_added c.args.out.now c.args.unit c.args.name.now c.args.wave.now) (search (longer, past))

pub returns-in_err-push-5-clause-limit : goal.returns-in_err-push-5-clause-limit
returns-in_err-push-5-clause-limit c =
    let unit : SFits w64 c.args.unit = search rules in
    let period : SFits w64 c.args.wave.now.period = search rules in
    let rise : SFits w64 c.args.wave.now.rise = search rules in
    let fall : SFits w64 c.args.wave.now.fall = search rules in
    let past = rw (simp to_z-of_z at c.in_ok-push_time-3.ensures.adds, c.in_ok-push-4.ensures.adds, simp to_z-of_z at c.in_ok-push_time-2.ensures.adds, c.in_ok-push-3.ensures.adds, simp to_z-of_z at c.in_ok-push_time.ensures.adds, c.in_ok-push-2.ensures.adds, c.in_ok-push_name.ensures.adds, c.in_ok-push.ensures.adds) at c.in_err-push-5.ensures.limit in
    stops _ (clock_added c.args.out.now c.args.unit c.args.name.now c.args.wave.now) (search past)
