-- Which merged clocks are exclusive: exactly those of which no mode has both and lets them be timed. This project's own
-- rule. A mode lets two of its clocks be timed where its exclusive pairs do not have them. Pairs have the lesser number
-- first.
use Rattle.std.specs.Prelude.{◌≡◌, ◌<◌, ◌⊎◌, ◌↔◌, ℕ, List, [], ◌∷◌, Some, slice_get}
use Rattle.std.specs.List.{Contains}
use Rattle.timing_types.specs.declared.clocks.Pair.{Pair}
use Rattle.timing_types.specs.declared.views.View.{View}
use Rattle.constraint_model.specs.ListOrder.{HasEachOnce}
use Rattle.constraint_model.specs.ExclusivePairs.{pair_of}

-- a mode has clocks that are these merged clocks, and lets them be timed
pub record LetsBeTimed (pairs : List Pair) (numbers : List ℕ) (a b : ℕ) : Type 0 where
  pub first : ℕ
  pub second : ℕ
  pub is_first : slice_get numbers first ≡ Some a
  pub is_second : slice_get numbers second ≡ Some b
  pub not_exclusive : Contains pairs (pair_of first second) → ⊥

-- some mode does
abbrev pub SomeLetsBeTimed : List View → List (List ℕ) → ℕ → ℕ → Type 0
SomeLetsBeTimed [] maps a b = ⊥
SomeLetsBeTimed (view ∷ views) [] a b = ⊥
SomeLetsBeTimed (view ∷ views) (numbers ∷ maps) a b =
    LetsBeTimed view.mode.exclusive numbers a b ⊎ SomeLetsBeTimed views maps a b

abbrev pub AreExclusive : List View → List (List ℕ) → ℕ → ℕ → Type 0
AreExclusive views maps a b = SomeLetsBeTimed views maps a b → ⊥

-- nor of any mode
abbrev pub HaveEachOnce : List (List ℕ) → Type 0
HaveEachOnce [] = Unit {0}
HaveEachOnce (numbers ∷ maps) = HasEachOnce numbers × HaveEachOnce maps

abbrev pub ComesBefore : Pair → Pair → Type 0
ComesBefore x y = (x.first < y.first) ⊎ ((x.first ≡ y.first) × (x.second < y.second))

-- the exclusive pairs of so many merged clocks, in order, each once
pub record AreExclusivePairs (views : List View) (maps : List (List ℕ)) (count : ℕ) (pairs : List Pair) : Type 0 where
  pub members : (a b : ℕ) → Contains pairs (record { first = a; second = b }) ↔ ((a < b) × (b < count) × AreExclusive views maps a b)
  pub order : (p q : ℕ) (x y : Pair) → p < q → slice_get pairs p ≡ Some x → slice_get pairs q ≡ Some y → ComesBefore x y
