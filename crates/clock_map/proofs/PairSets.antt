-- Pairs in a set, and pairs in a list.
use Rattle.std.proofs.Common.{◌≡◌, ℕ, ◌+◌, ◌<◌, Bool, true, false, cond, List, [], ◌∷◌, ◌++◌, length, take, get_or, refl, sym, ap, ◌∙◌, subst, inl, inr, arith}
use Rattle.std.specs.Prelude.{◌==◌, ◌&&◌, IsTrue}
use Rattle.std.specs.List.{Contains, list_any}
use Rattle.std.proofs.lemmas.Bool.{false≢true}
use Rattle.std.proofs.lemmas.Bool.Decides.{nat_tests}
use Rattle.std.proofs.lemmas.List.{take_more}
use Rattle.std.proofs.lemmas.List.Elements.{Contains-append_left, Contains-push, Contains-push_cases}
use Rattle.timing_types.specs.declared.clocks.Pair.{Pair}
use Rattle.clock_map.specs.Timings.{same_pair, HoldsPairs}

same_parts : (a b c d : ℕ) → (a == c && b == d) ≡ true → (a ≡ c) × (b ≡ d)
same_parts a b c d e = (grind (arith, nat_tests), grind (arith, nat_tests))

same_itself : (a b : ℕ) → (a == a && b == b) ≡ true
same_itself a b = grind (arith, nat_tests)

-- a pair goes into the set
pub pairs_step : (pairs : List Pair) (i : ℕ) (pair none : Pair) (keys keys' : List (ℕ × ℕ)) → i < length pairs → pair ≡ get_or pairs i none
    → ((a b : ℕ) → list_any (same_pair (a, b)) keys' ≡ cond (pair.first == a && pair.second == b) true (list_any (same_pair (a, b)) keys))
    → HoldsPairs (take i pairs) keys → HoldsPairs (take (i + 1) pairs) keys'
pairs_step pairs i pair none keys keys' within is updates known a b =
    let grown : take (i + 1) pairs ≡ take i pairs ++ pair ∷ [] = take_more pairs i none within ∙ ap (λ p. take i pairs ++ p ∷ []) (sym is) in
    subst (λ (ps : List Pair). (IsTrue (list_any (same_pair (a, b)) keys') → Contains ps (record { first = a; second = b })) × (Contains ps (record { first = a; second = b }) → IsTrue (list_any (same_pair (a, b)) keys')))
    (sym grown) (by_test (pair.first == a && pair.second == b) refl) where
      this : Pair
      this = record { first = a; second = b }

      by_test : (t : Bool) → (pair.first == a && pair.second == b) ≡ t
          → (IsTrue (list_any (same_pair (a, b)) keys') → Contains (take i pairs ++ pair ∷ []) this) × (Contains (take i pairs ++ pair ∷ []) this → IsTrue (list_any (same_pair (a, b)) keys'))
      by_test true e =
          let parts = same_parts pair.first pair.second a b e in
          let equal : pair ≡ this = λ j. record { first = parts.0 j; second = parts.1 j } in (
            λ h. subst (λ (p : Pair). Contains (take i pairs ++ pair ∷ []) p) equal (Contains-push (take i pairs) pair),
            λ h. updates a b ∙ ap (λ t. cond t true (list_any (same_pair (a, b)) keys)) e,
          )
      by_test false e =
          let stays : list_any (same_pair (a, b)) keys' ≡ list_any (same_pair (a, b)) keys = updates a b ∙ ap (λ t. cond t true (list_any (same_pair (a, b)) keys)) e in (
            λ h. Contains-append_left (take i pairs) (pair ∷ []) this ((known a b).0 (sym stays ∙ h)),
            λ h. elim (Contains-push_cases (take i pairs) pair this h) [
              | inl old ↦ stays ∙ (known a b).1 old
              | inr new ↦
                  let first : pair.first ≡ a = ap (λ (p : Pair). p.first) new in
                  let second : pair.second ≡ b = ap (λ (p : Pair). p.second) new in
                  let same : (pair.first == a && pair.second == b) ≡ true = rw (first, second) (same_itself a b) in
                  absurd (false≢true (sym e ∙ same))
            ],
          )
