use Rattle.std.proofs.Common.{rules}
use Rattle.std.proofs.lemmas.Int.{to_z-of_z}
use Rattle.std.specs.Int.{w64}
use mir.Val.{SFits}
use Rattle.sdc_print.proofs.AddedFacts.{longer, stops}
use Rattle.sdc_print.proofs.AddedLines.{file_added}
use Rattle.sdc_print.proofs.printing.push_file.Goals as goal

pub returns-clause-adds : goal.returns-clause-adds
returns-clause-adds c =
    let unit : SFits w64 c.args.design.now.unit = search rules in
    rw (
      c.in_ok-push_groups.ensures.adds,
      simp to_z-of_z at c.in_ok-push_clocks.ensures.adds,
      simp to_z-of_z at c.in_ok-push_header.ensures.adds,
    ) (file_added c.args.out.now c.args.design.now c.args.mode.now)

pub returns-in_err-push_header-clause-limit : goal.returns-in_err-push_header-clause-limit
returns-in_err-push_header-clause-limit c =
    let unit : SFits w64 c.args.design.now.unit = search rules in
    let past = simp to_z-of_z at c.in_err-push_header.ensures.limit in
    stops _ (file_added c.args.out.now c.args.design.now c.args.mode.now) (search (longer, past))

pub returns-in_err-push_clocks-clause-limit : goal.returns-in_err-push_clocks-clause-limit
returns-in_err-push_clocks-clause-limit c =
    let unit : SFits w64 c.args.design.now.unit = search rules in
    let past = rw (simp to_z-of_z at c.in_ok-push_header.ensures.adds) at (simp to_z-of_z at c.in_err-push_clocks.ensures.limit) in
    stops _ (file_added c.args.out.now c.args.design.now c.args.mode.now) (search (longer, past))

pub returns-in_err-push_groups-clause-limit : goal.returns-in_err-push_groups-clause-limit
returns-in_err-push_groups-clause-limit c =
    let unit : SFits w64 c.args.design.now.unit = search rules in
    let past = rw (simp to_z-of_z at c.in_ok-push_clocks.ensures.adds, simp to_z-of_z at c.in_ok-push_header.ensures.adds) at c.in_err-push_groups.ensures.limit in
    stops _ (file_added c.args.out.now c.args.design.now c.args.mode.now) (search past)
