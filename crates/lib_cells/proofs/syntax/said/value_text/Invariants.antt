use Rattle.std.proofs.Common.{◌≡◌, ◌++◌, drop}
use Rattle.std.specs.List.{flat_map}
use Rattle.library_model.specs.LibertyStatements as liberty
use Rattle.library_model.specs.LibertyTokens.{Token}
use Rattle.lib_cells.specs.Seen.{tokens_seen}
use Rattle.lib_cells.proofs.syntax.said.value_text.Given as goal

abbrev pub invariant-loop-token : goal.invariant-loop-token
invariant-loop-token l =
    l.text ++ flat_map (λ (u : Token). u.gap ++ u.text) (tokens_seen (drop l.token-index l.more)) ≡ liberty.value_text (tokens_seen l.tokens)
