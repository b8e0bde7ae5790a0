use Rattle.std.proofs.Common.{◌≡◌, reverse, vec_len}
use Rattle.token_grammar.proofs.stack.advance.Given as goal
use Rattle.token_grammar.specs.Machine.{advanced}

-- what is left of the stack leaves what the whole stack does
abbrev pub invariant-loop-symbol : goal.invariant-loop-symbol
invariant-loop-symbol g l = advanced g.G.Grammar.table (reverse l.stack.items) l.kind ≡ advanced g.G.Grammar.table (reverse l.initial.stack.items) l.kind

abbrev pub decreases-loop-symbol : goal.decreases-loop-symbol
decreases-loop-symbol g l = vec_len l.stack
