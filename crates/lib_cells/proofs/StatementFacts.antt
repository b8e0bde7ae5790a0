-- The statements so far, with those of the rest of the tokens, are all of them.
use Rattle.std.proofs.Common.{◌≡◌, ◌++◌, ◌+◌, ◌-◌, ◌<◌, ◌≤◌, ℕ, true, List, [], ◌∷◌, length, get_or, drop, take, sym, ap, subst, ◌∙◌, append_assoc}
use Rattle.std.proofs.lemmas.List.{append-nil, drop_all, map_push}
use Rattle.library_model.specs.LibertyStatements as grammar
use Rattle.library_model.specs.LibertyStatements.{begins, cut, first_place, place_after, statements_of}
use Rattle.library_model.specs.LibertyTokens as liberty
use Rattle.lib_cells.specs.declared.syntax.statements.Start.{Start}
use Rattle.lib_cells.specs.declared.syntax.statements.Statement.{Statement}
use Rattle.lib_cells.specs.declared.scanning.tokens.Token.{Token}
use Rattle.lib_cells.specs.Seen.{statement_seen, statements_seen, token_seen, tokens_seen}
use Rattle.lib_cells.specs.Starts.{Begins, IsFew, IsStart, place_seen}
use Rattle.lib_cells.proofs.StartFacts.{cut_begins, drop_seen}

pub record StatementsSoFar (tokens : List Token) (found : List Statement) (start : Start) : Type 0 where
  pub all : statements_of (tokens_seen tokens) ≡ statements_seen found ++ (cut (place_seen start.place) (tokens_seen (drop start.at tokens))).1
  pub begins_there : Begins (place_seen start.place) (tokens_seen (drop start.at tokens))
  pub within : start.at ≤ length tokens
  pub few : IsFew (place_seen start.place) start.at

pub statements_none : (tokens : List Token) (found : List Statement) (place : grammar.Place) (start : Start) → found ≡ [] → place ≡ first_place → IsStart tokens 0 place start → StatementsSoFar tokens found start
statements_none tokens found place start none place_is at = record {
  all =
      ap (λ (p : grammar.Place). (cut p (tokens_seen tokens)).1) (sym place_is)
      ∙ (at.statements ∙ ap (λ (ss : List Statement). statements_seen ss ++ (cut (place_seen start.place) (tokens_seen (drop start.at tokens))).1) (sym none));
  begins_there = at.begins_there;
  within = at.within;
  few = at.few;
}

abbrev made : ℕ → ℕ → liberty.Token → List liberty.Token → grammar.Statement
made level number name rest = record { level = level; number = number; name = name; rest = rest }

pub statements_more : (tokens : List Token) (found more : List Statement) (start next : Start) (name : Token) (place : grammar.Place) (statement : Statement) → StatementsSoFar tokens found start → start.at < length tokens → name ≡ get_or tokens start.at name → place ≡ place_after (place_seen start.place) (token_seen name) → IsStart tokens (start.at + 1) place next → statement.level ≡ start.place.level → statement.number ≡ start.place.number → statement.name ≡ name → statement.rest.now ≡ take (next.at - (start.at + 1)) (drop (start.at + 1) tokens) → more ≡ found ++ statement ∷ [] → StatementsSoFar tokens more next
statements_more tokens found more start next name place statement so_far inside name_is place_is at level_is number_is named rest_is more_is = record {
  all =
      so_far.all
      ∙ (ap (λ (ss : List grammar.Statement). statements_seen found ++ ss) cut_here
      ∙ (sym (append_assoc (statements_seen found) (statement_seen statement ∷ []) rest_of)
      ∙ (ap (λ (ss : List grammar.Statement). ss ++ rest_of) (sym (map_push statement_seen found statement))
      ∙ ap (λ (ss : List Statement). statements_seen ss ++ rest_of) (sym more_is))));
  begins_there = at.begins_there;
  within = at.within;
  few = at.few;
} where
  rest_of : List grammar.Statement
  rest_of = (cut (place_seen next.place) (tokens_seen (drop next.at tokens))).1

  here : tokens_seen (drop start.at tokens) ≡ token_seen name ∷ tokens_seen (drop (start.at + 1) tokens)
  here = drop_seen tokens start.at name inside name_is

  is_begun : begins (place_seen start.place) (token_seen name) ≡ true
  is_begun = subst (λ (ts : List liberty.Token). Begins (place_seen start.place) ts) here so_far.begins_there

  statement_is : made start.place.level start.place.number (token_seen name) (tokens_seen (take (next.at - (start.at + 1)) (drop (start.at + 1) tokens))) ≡ statement_seen statement
  statement_is =
      ap (λ (n : ℕ). made n start.place.number (token_seen name) (tokens_seen (take (next.at - (start.at + 1)) (drop (start.at + 1) tokens)))) (sym level_is)
      ∙ (ap (λ (n : ℕ). made statement.level n (token_seen name) (tokens_seen (take (next.at - (start.at + 1)) (drop (start.at + 1) tokens)))) (sym number_is)
      ∙ (ap (λ (t : Token). made statement.level statement.number (token_seen t) (tokens_seen (take (next.at - (start.at + 1)) (drop (start.at + 1) tokens)))) (sym named)
      ∙ ap (λ (ts : List Token). made statement.level statement.number (token_seen statement.name) (tokens_seen ts)) (sym rest_is)))

  cut_here : (cut (place_seen start.place) (tokens_seen (drop start.at tokens))).1 ≡ statement_seen statement ∷ rest_of
  cut_here =
      ap (λ (ts : List liberty.Token). (cut (place_seen start.place) ts).1) here
      ∙ (ap (λ (c : List liberty.Token × List grammar.Statement). c.1) (cut_begins (place_seen start.place) (token_seen name) (tokens_seen (drop (start.at + 1) tokens)) is_begun)
      ∙ (ap (λ (p : grammar.Place). made start.place.level start.place.number (token_seen name) (cut p (tokens_seen (drop (start.at + 1) tokens))).0 ∷ (cut p (tokens_seen (drop (start.at + 1) tokens))).1) (sym place_is)
      ∙ (ap (λ (ts : List liberty.Token). made start.place.level start.place.number (token_seen name) ts ∷ (cut place (tokens_seen (drop (start.at + 1) tokens))).1) at.before
      ∙ (ap (λ (ss : List grammar.Statement). made start.place.level start.place.number (token_seen name) (tokens_seen (take (next.at - (start.at + 1)) (drop (start.at + 1) tokens))) ∷ ss) at.statements
      ∙ ap (λ (s : grammar.Statement). s ∷ rest_of) statement_is))))

pub statements_all : (tokens : List Token) (found : List Statement) (start : Start) → StatementsSoFar tokens found start → length tokens ≤ start.at → statements_seen found ≡ statements_of (tokens_seen tokens)
statements_all tokens found start so_far past =
    let none : tokens_seen (drop start.at tokens) ≡ [] = ap tokens_seen (drop_all start.at tokens past) in
    sym (so_far.all ∙ (ap (λ (ts : List liberty.Token). statements_seen found ++ (cut (place_seen start.place) ts).1) none ∙ append-nil (statements_seen found)))
