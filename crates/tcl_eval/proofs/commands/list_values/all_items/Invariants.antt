use Rattle.std.proofs.Common.{drop}
use Rattle.tcl_eval.proofs.ListRuns.{ItemsOn}
use Rattle.tcl_eval.proofs.commands.list_values.all_items.Given as goal

-- whatever the texts that are left give after the items so far, all texts give
abbrev pub invariant-loop-text : goal.invariant-loop-text
invariant-loop-text l = ItemsOn l.texts l.items (drop l.text-index l.texts)
