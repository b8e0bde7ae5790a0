use Rattle.std.proofs.Common.{◌≡◌, ◌++◌, drop, cond, Some}
use Rattle.std.specs.Option.{option_and_then}
use Rattle.sdc_model.specs.CommandLine.{arguments_of, words_of}
use Rattle.sdc_cli.proofs.command_line.arguments.Given as goal

-- the arguments so far and those of the rest are those of all words
abbrev pub invariant-loop-word : goal.invariant-loop-word
invariant-loop-word l =
    let rest = words_of (drop l.word-index l.words) in
    option_and_then (λ others. Some (l.found ++ others)) (cond l.ended (Some rest) (arguments_of rest))
    ≡ arguments_of (words_of l.words)
