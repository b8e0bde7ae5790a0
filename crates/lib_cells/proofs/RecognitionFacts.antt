-- The line of a syntax error is that of the kinds of the tokens.
use Rattle.std.proofs.Common.{◌≡◌, ◌<◌, ℕ, Bool, List, Option, length, get_or, sym, ap, subst, ◌∙◌, arith}
use Rattle.std.proofs.lemmas.List.{get_or-map, length-map}
use Rattle.token_grammar.specs.declared.grammar.SyntaxError.{SyntaxError}
use Rattle.token_grammar.specs.Texts.{ErrorIs}
use Rattle.source_types.specs.declared.liberty_tokens.LibertySymbol.TheVariants as part
use Rattle.source_types.specs.declared.liberty_tokens.LibertyToken.{LibertyToken}
use Rattle.library_model.specs.LibertyGrammar.{formed, kinds, liberty, line_at}
use Rattle.library_model.specs.LibertyTokens.{Token}
use Rattle.lib_cells.specs.declared.scanning.tokens.Token.{Token as Held}
use Rattle.lib_cells.specs.Recognition.{HasError, outcome_of}
use Rattle.lib_cells.specs.Seen.{token_seen, tokens_seen}

pub has_error : (text : List ℕ) (tokens : List Token) (unfinished : Bool) (line : Option ℕ) (found : List LibertyToken) (place : Option SyntaxError) → found ≡ kinds 0 tokens → ErrorIs liberty part.Libraries found place → outcome_of tokens line ≡ formed text tokens unfinished place → HasError text tokens unfinished line
has_error text tokens unfinished line found place found_is error_is gives = record {
  place = place;
  error_is = subst (λ (ks : List LibertyToken). ErrorIs liberty part.Libraries ks place) found_is error_is;
  gives = gives;
}

pub line_found : (tokens : List Held) (place : ℕ) (d : Held) → place < length tokens → (get_or tokens place d).line ≡ line_at (tokens_seen tokens) place
line_found tokens place d inside =
    let seen : place < length (tokens_seen tokens) = omega (arith, length-map tokens token_seen, inside) in
    sym (get_or-map (λ (t : Token). t.line) (tokens_seen tokens) place (token_seen d) 1 seen
    ∙ ap (λ (t : Token). t.line) (get_or-map token_seen tokens place d (token_seen d) inside))
