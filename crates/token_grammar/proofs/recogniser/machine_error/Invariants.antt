use Rattle.std.proofs.Common.{◌≡◌, drop, reverse}
use Rattle.token_grammar.proofs.recogniser.machine_error.Given as goal
use Rattle.token_grammar.specs.Machine.{error_from, error_of}

-- what is to come of the rest has its first syntax error where the whole text has it
abbrev pub invariant-loop-place : goal.invariant-loop-place
invariant-loop-place g l = error_from g.G.Grammar.table (reverse l.stack.items) l.place (drop l.place l.kinds) ≡ error_of g.G.Grammar.table l.fn.start l.kinds
