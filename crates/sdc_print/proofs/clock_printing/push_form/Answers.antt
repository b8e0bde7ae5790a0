use Rattle.std.proofs.Common.{sym, ap, ◌∙◌, rules}
use Rattle.std.proofs.lemmas.Int.{to_z-of_z}
use Rattle.std.proofs.lemmas.List.{append-nil}
use Rattle.std.specs.Int.{w64}
use mir.Val.{SFits}
use Rattle.mode_model.specs.PrintedLine.{line_text}
use Rattle.mode_model.specs.PrintedFile.{clock_line}
use Rattle.sdc_print.specs.Added.{added}
use Rattle.sdc_print.proofs.AddedFacts.{added_none}
use Rattle.sdc_print.proofs.clock_printing.push_form.Goals as goal

pub returns-in_ok-push_clock-in-Primary-clause-adds : goal.returns-in_ok-push_clock-in-Primary-clause-adds
returns-in_ok-push_clock-in-Primary-clause-adds c =
    let unit : SFits w64 c.args.unit = search rules in
    rw c.in-Primary.is
    ((simp to_z-of_z at c.in_ok-push_clock-in-Primary.ensures.adds)
    ∙ ap (added c.args.out.now) (sym (append-nil (line_text (clock_line c.args.unit c.args.name.now c.in-Primary.wave)))))

pub returns-in-Generated-clause-adds : goal.returns-in-Generated-clause-adds
returns-in-Generated-clause-adds c = rw c.in-Generated.is (sym (added_none c.args.out.now))
