use Rattle.std.proofs.Common.{sym, ap, ◌∙◌}
use Rattle.mode_model.specs.PrintedFile.{name_of}
use Rattle.sdc_print.specs.Added.{added}
use Rattle.sdc_print.proofs.AddedFacts.{added_none}
use Rattle.sdc_print.proofs.group_printing.push_clock_name.Goals as goal

pub returns-in-None-clause-adds : goal.returns-in-None-clause-adds
returns-in-None-clause-adds c =
    sym (added_none c.args.out.now) ∙ ap (λ o. added c.args.out.now (name_of o)) c.in-None.ensures.value
