use Rattle.std.proofs.Common.{length}
use Rattle.lib_cells.proofs.TokenRows.{TokensSoFar}
use Rattle.lib_cells.proofs.scanning.lexing.lex.Given as goal

abbrev pub invariant-loop-token : goal.invariant-loop-token
invariant-loop-token l = TokensSoFar l.text l.lines l.tokens.items l.rest

abbrev pub decreases-loop-token : goal.decreases-loop-token
decreases-loop-token l = length l.rest.text.now
