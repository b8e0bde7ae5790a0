use Rattle.std.proofs.Common.{◌≡◌, ◌++◌, drop}
use Rattle.lib_cells.specs.Said.{plain_texts}
use Rattle.lib_cells.specs.Seen.{tokens_seen}
use Rattle.lib_cells.proofs.syntax.said.arguments_in.Given as goal

abbrev pub invariant-loop-token : goal.invariant-loop-token
invariant-loop-token l = l.texts ++ plain_texts (tokens_seen (drop l.token-index l.tokens)) ≡ plain_texts (tokens_seen l.tokens)
