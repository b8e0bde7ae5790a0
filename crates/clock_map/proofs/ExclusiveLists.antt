-- The exclusive pairs, from the tests on what is kept of each mode.
use Rattle.std.proofs.Common.{◌≡◌, ℕ, ◌<◌, ◌≤◌, Bool, true, false, not, List, [], ◌∷◌, get_or, Option, Some, None, refl, sym, ap, ◌∙◌, subst, inl, inr, arith, min, max}
use Rattle.std.specs.Prelude.{◌↔◌, nat_le, if◌then◌else◌}
use Rattle.std.specs.List.{Contains, list_any}
use Rattle.std.proofs.lemmas.Bool.{false≢true, not-true, or_cases, or_left, or_right}
use Rattle.std.proofs.lemmas.Bool.Decides.{nat_tests}
use Rattle.timing_types.specs.declared.clocks.Pair.{Pair}
use Rattle.timing_types.specs.declared.views.View.{View}
use Rattle.constraint_model.specs.ExclusivePairs.{pair_of}
use Rattle.merge_model.specs.Exclusive.{LetsBeTimed, SomeLetsBeTimed}
use Rattle.clock_map.specs.declared.timings.Timing.{Timing}
use Rattle.clock_map.specs.Timings.{same_pair, IsTiming, AreTimings, lets_at, lets_time}

abbrev pair : ℕ → ℕ → Pair
pair a b = record { first = a; second = b }

-- ---- one mode

-- clocks of a mode by places, in the words of its pairs
pub ordered : (p q : ℕ) → pair_of p q ≡ pair (min p q) (max p q)
ordered p q = by_test (nat_le p q) refl where
  by_test : (t : Bool) → nat_le p q ≡ t → pair_of p q ≡ pair (min p q) (max p q)
  by_test true e =
      let le : p ≤ q = grind (arith, nat_tests) in
      let low : p ≡ min p q = omega arith in
      let high : q ≡ max p q = omega arith in
      ap (λ t. if t then pair p q else pair q p) e ∙ (λ i. pair (low i) (high i))
  by_test false e =
      let lt : q < p = grind (arith, nat_tests) in
      let low : q ≡ min p q = omega arith in
      let high : p ≡ max p q = omega arith in
      ap (λ t. if t then pair p q else pair q p) e ∙ (λ i. pair (low i) (high i))

-- what the test of two places says
lets_at_says : (keys : List (ℕ × ℕ)) (first second : Option ℕ) → lets_at keys first second ≡ true
    → (p : ℕ) × (q : ℕ) × (first ≡ Some p) × (second ≡ Some q) × (list_any (same_pair (min p q, max p q)) keys ≡ false)
lets_at_says keys None second e = absurd (false≢true e)
lets_at_says keys (Some p) None e = absurd (false≢true e)
lets_at_says keys (Some p) (Some q) e = (p, q, refl, refl, not-true (list_any (same_pair (min p q, max p q)) keys) e)

-- a mode lets two merged clocks be timed exactly where its test says so
pub mode_lets : (count : ℕ) (view : View) (numbers : List ℕ) (timing : Timing) (a b : ℕ) → IsTiming count view numbers timing → a < count → b < count
    → (lets_time a b timing ≡ true) ↔ LetsBeTimed view.mode.exclusive numbers a b
mode_lets count view numbers timing a b known a_within b_within = (says, shows) where
  keys : List (ℕ × ℕ)
  keys = timing.exclusive.keys

  says : lets_time a b timing ≡ true → LetsBeTimed view.mode.exclusive numbers a b
  says e =
      let h = lets_at_says timing.exclusive.keys (get_or timing.places.items a None) (get_or timing.places.items b None) e in
      record {
        first = h.0;
        second = h.1;
        is_first = (known.places.1 a h.0 a_within).0 h.2;
        is_second = (known.places.1 b h.1 b_within).0 h.3;
        not_exclusive = λ there.
            let there' : Contains view.mode.exclusive (pair (min h.0 h.1) (max h.0 h.1)) = subst (Contains view.mode.exclusive) (ordered h.0 h.1) there in
            false≢true (sym h.4 ∙ (known.pairs (min h.0 h.1) (max h.0 h.1)).1 there');
      }

  by_test : (p q : ℕ) (t : Bool) → list_any (same_pair (min p q, max p q)) timing.exclusive.keys ≡ t → (Contains view.mode.exclusive (pair_of p q) → ⊥)
      → not (list_any (same_pair (min p q, max p q)) timing.exclusive.keys) ≡ true
  by_test p q true e none = absurd (none (subst (Contains view.mode.exclusive) (sym (ordered p q)) ((known.pairs (min p q) (max p q)).0 e)))
  by_test p q false e none = ap not e

  shows : LetsBeTimed view.mode.exclusive numbers a b → lets_time a b timing ≡ true
  shows lets =
      let first = (known.places.1 a lets.first a_within).1 lets.is_first in
      let second = (known.places.1 b lets.second b_within).1 lets.is_second in
      ap (λ o. lets_at timing.exclusive.keys o (get_or timing.places.items b None)) first
      ∙ ap (λ o. lets_at timing.exclusive.keys (Some lets.first) o) second
      ∙ by_test lets.first lets.second (list_any (same_pair (min lets.first lets.second, max lets.first lets.second)) timing.exclusive.keys) refl lets.not_exclusive

-- ---- all modes

pub some_says : (count : ℕ) (views : List View) (maps : List (List ℕ)) (timings : List Timing) (a b : ℕ) → AreTimings count views maps timings → a < count → b < count
    → list_any (lets_time a b) timings ≡ true → SomeLetsBeTimed views maps a b
some_says count [] maps timings a b known a_within b_within e =
    let none : list_any (lets_time a b) [] ≡ true = sym (ap (list_any (lets_time a b)) known) ∙ e in absurd (false≢true none)
some_says count (view ∷ views) [] timings a b known a_within b_within e =
    let none : list_any (lets_time a b) [] ≡ true = sym (ap (list_any (lets_time a b)) known) ∙ e in absurd (false≢true none)
some_says count (view ∷ views) (numbers ∷ maps) [] a b known a_within b_within e = absurd known
some_says count (view ∷ views) (numbers ∷ maps) (timing ∷ timings) a b known a_within b_within e =
    elim (or_cases (lets_time a b timing) (list_any (lets_time a b) timings) e) [
      | inl here ↦ inl ((mode_lets count view numbers timing a b known.0 a_within b_within).0 here)
      | inr there ↦ inr (some_says count views maps timings a b known.1 a_within b_within there)
    ]

pub some_shows : (count : ℕ) (views : List View) (maps : List (List ℕ)) (timings : List Timing) (a b : ℕ) → AreTimings count views maps timings → a < count → b < count
    → SomeLetsBeTimed views maps a b → list_any (lets_time a b) timings ≡ true
some_shows count [] maps timings a b known a_within b_within lets = absurd lets
some_shows count (view ∷ views) [] timings a b known a_within b_within lets = absurd lets
some_shows count (view ∷ views) (numbers ∷ maps) [] a b known a_within b_within lets = absurd known
some_shows count (view ∷ views) (numbers ∷ maps) (timing ∷ timings) a b known a_within b_within lets =
    elim lets [
      | inl here ↦ or_left (lets_time a b timing) (list_any (lets_time a b) timings) ((mode_lets count view numbers timing a b known.0 a_within b_within).1 here)
      | inr there ↦ or_right (lets_time a b timing) (list_any (lets_time a b) timings) (some_shows count views maps timings a b known.1 a_within b_within there)
    ]
