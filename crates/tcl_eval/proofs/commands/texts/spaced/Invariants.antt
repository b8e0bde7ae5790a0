use Rattle.std.proofs.Common.{◌≡◌, ◌++◌, drop}
use Rattle.tcl_model.specs.NamedCommands.{after_blanks}
use Rattle.tcl_eval.proofs.commands.texts.spaced.Given as goal

-- what is joined so far with the texts that are left is all of them joined
abbrev pub invariant-loop-text : goal.invariant-loop-text
invariant-loop-text l = l.joined ++ after_blanks (drop l.text-index l.others) ≡ l.initial.joined ++ after_blanks l.others
