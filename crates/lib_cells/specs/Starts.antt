-- Where statements begin among tokens, as the reader of statements finds it. This project's own words.
-- `cut` is that of the definitions: the tokens before the first statement, and the statements.
use Rattle.std.specs.Prelude.{◌≡◌, ◌≤◌, ◌-◌, ℕ, true, List, [], ◌∷◌, drop, length, take}
use Rattle.library_model.specs.LibertyStatements as grammar
use Rattle.library_model.specs.LibertyStatements.{begins, cut}
use Rattle.library_model.specs.LibertyTokens as liberty
use Rattle.lib_cells.specs.declared.syntax.statements.Place.{Place}
use Rattle.lib_cells.specs.declared.syntax.statements.Start.{Start}
use Rattle.lib_cells.specs.declared.scanning.tokens.Token.{Token}
use Rattle.lib_cells.specs.Seen.{tokens_seen}

abbrev pub place_seen : Place → grammar.Place
place_seen p = record { sign = p.sign; parentheses = p.parentheses; level = p.level; number = p.number }

-- no more parentheses, groups and statements than tokens stand before a place
pub record IsFew (place : grammar.Place) (at : ℕ) : Type 0 where
  pub parentheses_are : place.parentheses ≤ at
  pub levels_are : place.level ≤ at
  pub numbers_are : place.number ≤ at

-- the first of some tokens begins a statement, where there is one
abbrev pub Begins : grammar.Place → List liberty.Token → Type 0
Begins place [] = Unit {0}
Begins place (t ∷ ts) = begins place t ≡ true

-- the first statement at a place among tokens, or after it
pub record IsStart (tokens : List Token) (from : ℕ) (place : grammar.Place) (start : Start) : Type 0 where
  pub before : (cut place (tokens_seen (drop from tokens))).0 ≡ tokens_seen (take (start.at - from) (drop from tokens))
  pub statements : (cut place (tokens_seen (drop from tokens))).1 ≡ (cut (place_seen start.place) (tokens_seen (drop start.at tokens))).1
  pub begins_there : Begins (place_seen start.place) (tokens_seen (drop start.at tokens))
  pub forward : from ≤ start.at
  pub within : start.at ≤ length tokens
  pub few : IsFew (place_seen start.place) start.at
