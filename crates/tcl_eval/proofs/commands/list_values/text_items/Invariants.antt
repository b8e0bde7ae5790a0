use Rattle.std.proofs.Common.{◌≡◌, ◌++◌, drop}
use Rattle.tcl_model.specs.BuiltIns.{text_values}
use Rattle.tcl_eval.proofs.commands.list_values.text_items.Given as goal

-- the values so far, and the texts that are left, are all
abbrev pub invariant-loop-text : goal.invariant-loop-text
invariant-loop-text l = l.values ++ text_values (drop l.text-index l.texts) ≡ text_values l.texts
