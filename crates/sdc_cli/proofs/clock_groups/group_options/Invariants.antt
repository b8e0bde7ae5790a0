use Rattle.std.proofs.Common.{◌≡◌, drop}
use Rattle.mode_model.specs.ClockCommands.{group_options, no_groups}
use Rattle.sdc_cli.proofs.clock_groups.group_options.Given as goal

-- the options so far with those of the words that are left are those of all words
abbrev pub invariant-loop-word : goal.invariant-loop-word
invariant-loop-word l = group_options l.clocks l.given (drop l.word-index l.words) ≡ group_options l.clocks no_groups l.words
