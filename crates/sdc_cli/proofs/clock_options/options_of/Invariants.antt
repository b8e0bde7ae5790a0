use Rattle.std.proofs.Common.{◌≡◌, drop}
use Rattle.mode_model.specs.ClockCommands.{clock_options, no_options, value_texts}
use Rattle.sdc_cli.proofs.clock_options.options_of.Given as goal

-- the options so far with those of the words that are left are those of all words
abbrev pub invariant-loop-word : goal.invariant-loop-word
invariant-loop-word l = clock_options l.given (value_texts l.clocks (drop l.word-index l.words)) ≡ clock_options no_options (value_texts l.clocks l.words)
