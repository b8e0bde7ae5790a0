use Rattle.std.proofs.Common.{◌≡◌, ◌++◌, drop}
use Rattle.tcl_eval.proofs.commands.list_values.add_texts.Given as goal

-- those so far, and the texts that are left, are all
abbrev pub invariant-loop-text : goal.invariant-loop-text
invariant-loop-text l = l.all ++ drop l.text-index l.texts ≡ l.initial.all ++ l.texts
