use Rattle.sdc_cli.proofs.ItemSteps.{no_items}
use Rattle.sdc_cli.proofs.items.items_of.Goals as goal

pub returns-in-Err-Refused : goal.returns-in-Err-Refused
returns-in-Err-Refused c =
    no_items c.args.text.now c.in-Err-Refused.field-0-0 (rw (c.in-Err-Refused.is, c.in-Err-Refused.field-0-is) at c.list_items.ensures)
