use Rattle.std.proofs.Common.{rules}
use Rattle.std.proofs.lemmas.Int.{to_z-of_z}
use Rattle.std.specs.Int.{w64}
use mir.Val.{SFits}
use Rattle.sdc_print.proofs.AddedFacts.{longer, stops}
use Rattle.sdc_print.proofs.AddedLines.{header_added}
use Rattle.sdc_print.proofs.printing.push_header.Goals as goal

pub returns-clause-adds : goal.returns-clause-adds
returns-clause-adds c =
    let unit : SFits w64 c.args.unit = search rules in
    rw (c.in_ok-push-3.ensures.adds, c.in_ok-push-2.ensures.adds, c.in_ok-push.ensures.adds, c.as_bytes.ensures.value, simp to_z-of_z at c.unit_name.ensures)
    (header_added c.args.out.now c.args.unit)

pub returns-in_err-push-clause-limit : goal.returns-in_err-push-clause-limit
returns-in_err-push-clause-limit c =
    let past = c.in_err-push.ensures.limit in
    stops _ (header_added c.args.out.now c.args.unit) (search (longer, past))

pub returns-in_err-push-2-clause-limit : goal.returns-in_err-push-2-clause-limit
returns-in_err-push-2-clause-limit c =
    let unit : SFits w64 c.args.unit = search rules in
    let past = rw (c.as_bytes.ensures.value, simp to_z-of_z at c.unit_name.ensures, c.in_ok-push.ensures.adds) at c.in_err-push-2.ensures.limit in
    stops _ (header_added c.args.out.now c.args.unit) (search (longer, past))

pub returns-in_err-push-3-clause-limit : goal.returns-in_err-push-3-clause-limit
returns-in_err-push-3-clause-limit c =
    let unit : SFits w64 c.args.unit = search rules in
    let past = rw (c.in_ok-push-2.ensures.adds, c.in_ok-push.ensures.adds, c.as_bytes.ensures.value, simp to_z-of_z at c.unit_name.ensures) at c.in_err-push-3.ensures.limit in
    stops _ (header_added c.args.out.now c.args.unit) (search past)
