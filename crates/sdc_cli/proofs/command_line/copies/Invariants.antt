use Rattle.std.proofs.Common.{◌≡◌, ◌++◌, drop}
use Rattle.sdc_cli.proofs.command_line.copies.Given as goal

abbrev pub invariant-loop-text : goal.invariant-loop-text
invariant-loop-text l = l.copies ++ drop l.text-index l.texts ≡ l.texts
