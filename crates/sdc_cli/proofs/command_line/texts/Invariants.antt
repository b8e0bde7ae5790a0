use Rattle.std.proofs.Common.{◌≡◌, ◌++◌, drop}
use Rattle.sdc_model.specs.CommandLine.{words_of}
use Rattle.sdc_cli.proofs.command_line.texts.Given as goal

abbrev pub invariant-loop-word : goal.invariant-loop-word
invariant-loop-word l = l.texts ++ words_of (drop l.word-index l.words) ≡ words_of l.words
