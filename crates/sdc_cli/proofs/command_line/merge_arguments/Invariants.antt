use Rattle.std.proofs.Common.{◌≡◌, ◌++◌, drop, Some}
use Rattle.std.specs.Option.{option_and_then}
use Rattle.sdc_model.specs.CommandLine.{merge_arguments, words_of}
use Rattle.sdc_cli.proofs.command_line.merge_arguments.Given as goal

-- the arguments so far and those of the rest are those of all words
abbrev pub invariant-loop-at : goal.invariant-loop-at
invariant-loop-at l =
    option_and_then (λ others. Some (l.found ++ others)) (merge_arguments (words_of (drop l.at l.words)))
    ≡ merge_arguments (words_of l.words)
