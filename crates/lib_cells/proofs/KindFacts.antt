-- The kinds of tokens so far, with those of the rest, are those of all.
use Rattle.std.proofs.Common.{◌≡◌, ◌++◌, ◌+◌, ◌-◌, ◌<◌, ◌≤◌, ◌==◌, ℕ, Bool, true, false, List, [], ◌∷◌, length, get_or, drop, refl, sym, ap, ◌∙◌, arith, append_assoc}
use Rattle.std.specs.Prelude.{if◌then◌else◌}
use Rattle.std.specs.List.{list_any}
use Rattle.std.proofs.lemmas.List.{append-nil, drop_all, drop_more}
use Rattle.sdc_base.proofs.CaseFacts.{by_bool}
use Rattle.library_model.specs.LibertyGrammar.{gap_of, kind_of_form, kinds, level_after, sign_of}
use Rattle.library_model.specs.LibertyTokens as grammar
use Rattle.source_types.specs.declared.liberty_tokens.Gap.{Gap}
use Rattle.source_types.specs.declared.liberty_tokens.Gap.TheVariants.{Blanks, LineEnd, Nothing}
use Rattle.source_types.specs.declared.liberty_tokens.LibertyToken.{LibertyToken}
use Rattle.lib_cells.specs.declared.scanning.tokens.Token.{Token}
use Rattle.lib_cells.specs.Seen.{form_seen, token_seen, tokens_seen}

-- ---- gaps

abbrev line_or_blanks : Bool → Gap
line_or_blanks b = if b then LineEnd else Blanks

pub gap_line : (gap : List ℕ) → list_any (λ byte. byte == 10) gap ≡ true → LineEnd ≡ gap_of gap
gap_line [] is = cc
gap_line (b ∷ bs) is = sym (ap line_or_blanks is)

pub gap_nothing : (gap : List ℕ) → length gap ≡ 0 → Nothing ≡ gap_of gap
gap_nothing [] is = refl
gap_nothing (b ∷ bs) is = absurd (omega (arith, is))

pub gap_blanks : (gap : List ℕ) → list_any (λ byte. byte == 10) gap ≡ false → 0 < length gap → Blanks ≡ gap_of gap
gap_blanks [] is some = absurd (omega (arith, some))
gap_blanks (b ∷ bs) is some = sym (ap line_or_blanks is)

-- ---- all kinds

pub record KindsSoFar (tokens : List Token) (index : ℕ) (found : List LibertyToken) (level : ℕ) : Type 0 where
  pub all : kinds 0 (tokens_seen tokens) ≡ found ++ kinds level (tokens_seen (drop index tokens))
  pub few : level ≤ index

pub kinds_none : (tokens : List Token) (found : List LibertyToken) → found ≡ [] → KindsSoFar tokens 0 found 0
kinds_none tokens found none = record { all = rw none refl; few = omega arith }

level_few : (t : grammar.Token) (level : ℕ) → level_after t level ≤ level + 1
level_few t level =
    by_bool (λ b. (if b then level + 1 else (if sign_of t == 125 then level - 1 else level)) ≤ level + 1) (sign_of t == 123)
    (λ is. omega arith)
    (λ other. by_bool (λ b. (if b then level - 1 else level) ≤ level + 1) (sign_of t == 125) (λ is. omega arith) (λ not_it. omega arith))

pub kinds_more : (tokens : List Token) (index : ℕ) (found next : List LibertyToken) (level next_level : ℕ) (token : Token) (kind : LibertyToken) → KindsSoFar tokens index found level → index < length tokens → token ≡ get_or tokens index token → kind ≡ kind_of_form (form_seen token.form) level (gap_of token.gap.now) token.text.now → next ≡ found ++ kind ∷ [] → next_level ≡ level_after (token_seen token) level → KindsSoFar tokens (index + 1) next next_level
kinds_more tokens index found next level next_level token kind so_far inside token_is kind_is next_is level_is = record {
  all =
      so_far.all
      ∙ (ap (λ (ts : List Token). found ++ kinds level (tokens_seen ts)) (drop_more tokens index token inside ∙ ap (λ (t : Token). t ∷ drop (index + 1) tokens) (sym token_is))
      ∙ (ap (λ (k : LibertyToken). found ++ (k ∷ kinds (level_after (token_seen token) level) (tokens_seen (drop (index + 1) tokens)))) (sym kind_is)
      ∙ (ap (λ (n : ℕ). found ++ (kind ∷ kinds n (tokens_seen (drop (index + 1) tokens)))) (sym level_is)
      ∙ (sym (append_assoc found (kind ∷ []) (kinds next_level (tokens_seen (drop (index + 1) tokens))))
      ∙ ap (λ (ks : List LibertyToken). ks ++ kinds next_level (tokens_seen (drop (index + 1) tokens))) (sym next_is)))));
  few = omega (arith, level_is, level_few (token_seen token) level, so_far.few);
}

pub kinds_all : (tokens : List Token) (index : ℕ) (found : List LibertyToken) (level : ℕ) → KindsSoFar tokens index found level → length tokens ≤ index → found ≡ kinds 0 (tokens_seen tokens)
kinds_all tokens index found level so_far past =
    sym (so_far.all ∙ (ap (λ (ts : List Token). found ++ kinds level (tokens_seen ts)) (drop_all index tokens past) ∙ append-nil found))
