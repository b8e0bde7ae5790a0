-- The names of a cell with what finds them. This project's own.
use Rattle.std.specs.Prelude.{◌≡◌, ◌≤◌, ◌+◌, ◌||◌, ℕ, List, String, drop, length}
use Rattle.indexmap.specs.IndexSet.{IndexSet, contains_text}
use Rattle.function_model.specs.FunctionMeaning.{inputs_in}
use Rattle.text_model.specs.Words.{is_among, same_text}
use Rattle.bool_lanes.specs.NamedNumbers.{HasPlaces}
use Rattle.bool_lanes.specs.declared.numbers.Numbers.{Numbers}

-- the set has names
abbrev pub HasNames : {A S : Type 0} → IndexSet (String A) S → List (List ℕ) → Type 0
HasNames set names = (name : List ℕ) → contains_text set name ≡ is_among names name

-- the set has what it had, and a name more
abbrev pub AddsName : {A S : Type 0} → IndexSet (String A) S → IndexSet (String A) S → List ℕ → Type 0
AddsName old new own = (name : List ℕ) → contains_text new name ≡ (same_text own name || contains_text old name)

-- the number of inputs among names, the places of names, and the names after the inputs
pub record AreKnown {A S : Type 0} (names : List (List ℕ)) (inputs : ℕ) (places : Numbers) (others : IndexSet (String A) S) : Type 0 where
  pub count : inputs ≡ inputs_in names
  pub within : inputs ≤ length names
  pub placed : HasPlaces places names
  pub apart : HasNames others (drop (inputs + 1) names)
