use Rattle.std.proofs.Common.{◌≡◌, ◌++◌, length, reverse}
use Rattle.token_grammar.proofs.stack.push_all.Given as goal

-- the symbols that are still to be put there, before those on the stack, are all symbols before those that were there
abbrev pub invariant-loop-rest : goal.invariant-loop-rest
invariant-loop-rest g l = l.rest ++ reverse l.stack.items ≡ l.symbols ++ reverse l.initial.stack.items

abbrev pub decreases-loop-rest : goal.decreases-loop-rest
decreases-loop-rest g l = length l.rest
