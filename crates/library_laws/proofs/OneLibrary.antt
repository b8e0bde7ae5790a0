-- Bytes have one meaning as a library: their tokens are one row, which has one first syntax error, and the rest is
-- computed.
use Rattle.std.proofs.Common.{◌≡◌, ℕ, Bool, List, ◌++◌, Result, sym, ap, subst, ◌∙◌, inl, inr}
use Rattle.std.specs.Prelude.{◌||◌}
use Rattle.token_grammar.proofs.SyntaxErrors.{error_is_one}
use Rattle.token_grammar.specs.Texts.{ErrorIs}
use Rattle.sdc_base.specs.declared.memory.At.{At}
use Rattle.text_model.proofs.RowFacts.{row_once}
use Rattle.source_types.specs.declared.kinds.LibKind.{LibKind}
use Rattle.source_types.specs.declared.libraries.Library.{Library}
use Rattle.source_types.specs.declared.liberty_tokens.LibertySymbol.TheVariants as part
use Rattle.library_model.specs.LibertyGrammar.{IsFormed, formed, kinds, liberty}
use Rattle.library_model.specs.LibertyText.{ReadsLibrary, read}
use Rattle.library_model.specs.LibertyTokens.{IsLexed, Token, characters, is_in_comment, is_unfinished, last_token, plain, token_front, within_at_end}

lexed_once : (text : List ℕ) (ts us : List Token) (v w : Bool) → IsLexed text ts v → IsLexed text us w → (ts ≡ us) × (v ≡ w)
lexed_once text ts us v w h k =
    let one = row_once (λ place stands. token_front place ≡ stands) (λ p a b x y. sym x ∙ y) h.stood k.stood (characters plain 1 text) h.ending k.ending h.row k.row in (
      h.all ∙ (ap (λ xs. xs ++ last_token h.ending) one.0 ∙ (ap (λ e. k.stood ++ last_token e) one.1 ∙ sym k.all)),
      h.whole ∙ (ap (λ e. is_unfinished e || is_in_comment (within_at_end plain text)) one.1 ∙ sym k.whole),
    )

formed_once : (text : List ℕ) (o p : Result (List Token) ℕ) → IsFormed text o → IsFormed text p → o ≡ p
formed_once text o p h k =
    let one = lexed_once text h.tokens k.tokens h.unfinished k.unfinished h.lexed k.lexed in
    let place : h.place ≡ k.place = error_is_one liberty part.Libraries (kinds 0 k.tokens) h.place k.place (subst (λ ts. ErrorIs liberty part.Libraries (kinds 0 ts) h.place) one.0 h.error_is) k.error_is in
    h.gives ∙ (ap (λ ts. formed text ts h.unfinished h.place) one.0
    ∙ (ap (λ u. formed text k.tokens u h.place) one.1
    ∙ (ap (λ b. formed text k.tokens k.unfinished b) place ∙ sym k.gives)))

pub library_once : (bytes : List ℕ) (one other : Result Library (At LibKind)) → ReadsLibrary bytes one → ReadsLibrary bytes other → one ≡ other
library_once bytes one other (inl h) (inl k) = h.1.2 ∙ (ap read (formed_once bytes h.1.0 k.1.0 h.1.1 k.1.1) ∙ sym k.1.2)
library_once bytes one other (inl h) (inr k) = absurd (k.0 h.0)
library_once bytes one other (inr h) (inl k) = absurd (h.0 k.0)
library_once bytes one other (inr h) (inr k) = h.1 ∙ sym k.1
