use Rattle.std.proofs.Common.{ap, ◌∙◌}
use Rattle.tcl_model.specs.BuiltIns.{text_values}
use Rattle.tcl_eval.proofs.ListRuns.{text_has_items}
use Rattle.tcl_eval.proofs.commands.list_values.items_of_text.Goals as goal

pub returns : goal.returns
returns c =
    text_has_items c.args.text.now c.in_ok-texts.texts c.in_ok-values.values c.in_ok-texts.ensures
    (c.in_ok-values.ensures ∙ ap text_values c.as_slice.ensures)
