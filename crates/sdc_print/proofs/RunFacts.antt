-- Runs of pairs with one first place.
use Rattle.std.proofs.Common.{◌≡◌, ◌<◌, ◌≤◌, inl, inr, ℕ, List, [], ◌∷◌, suc, false, true, nat_eq, length, drop, take, get_or, arith, refl, sym, ap, ◌∙◌, subst}
use Rattle.std.proofs.lemmas.Bool.{cases_eq}
use Rattle.std.proofs.lemmas.Bool.Decides.{nat_tests}
use Rattle.std.proofs.lemmas.List.{drop_all}
use Rattle.std.proofs.Math.Seq.{drop-cons}
use Rattle.timing_types.specs.declared.clocks.Pair.{Pair}
use Rattle.mode_model.specs.PrintedFile.{exclusive_to}
use Rattle.constraint_model.specs.ExclusivePairs.{ArePairs, IsAfter}
use Rattle.sdc_print.specs.Runs.{run_length, seconds}

pub run_same : (place : ℕ) (pair : Pair) (pairs : List Pair) → pair.first ≡ place → run_length place (pair ∷ pairs) ≡ suc (run_length place pairs)
unfolding run_length
run_same place pair pairs e = let t : nat_eq pair.first place ≡ true = grind (arith, nat_tests) in rw t refl

pub run_other : (place : ℕ) (pair : Pair) (pairs : List Pair) → (pair.first ≡ place → ⊥) → run_length place (pair ∷ pairs) ≡ 0
unfolding run_length
run_other place pair pairs e = let t : nat_eq pair.first place ≡ false = grind (arith, nat_tests) in rw t refl

pub run_none : (place : ℕ) → run_length place [] ≡ 0
unfolding run_length
run_none place = refl

pub run_more : (place : ℕ) (pairs : List Pair) (i : ℕ) (d : Pair) → i < length pairs → (get_or pairs i d).first ≡ place → run_length place (drop i pairs) ≡ suc (run_length place (drop (suc i) pairs))
run_more place pairs i d h p =
    ap (run_length place) (drop-cons pairs i d h) ∙ run_same place (get_or pairs i d) (drop (suc i) pairs) p

pub run_stops : (place : ℕ) (pairs : List Pair) (i : ℕ) (d : Pair) → i < length pairs → ((get_or pairs i d).first ≡ place → ⊥) → run_length place (drop i pairs) ≡ 0
run_stops place pairs i d h p =
    ap (run_length place) (drop-cons pairs i d h) ∙ run_other place (get_or pairs i d) (drop (suc i) pairs) p

pub run_ends : (place : ℕ) (pairs : List Pair) (i : ℕ) → length pairs ≤ i → run_length place (drop i pairs) ≡ 0
run_ends place pairs i h = ap (run_length place) (drop_all i pairs h) ∙ run_none place

pub exclusive_same : (place : ℕ) (pair : Pair) (pairs : List Pair) → pair.first ≡ place → exclusive_to place (pair ∷ pairs) ≡ pair.second ∷ exclusive_to place pairs
exclusive_same place pair pairs e = let t : nat_eq pair.first place ≡ true = grind (arith, nat_tests) in rw t refl

pub exclusive_other : (place : ℕ) (pair : Pair) (pairs : List Pair) → (pair.first ≡ place → ⊥) → exclusive_to place (pair ∷ pairs) ≡ exclusive_to place pairs
exclusive_other place pair pairs e = let t : nat_eq pair.first place ≡ false = grind (arith, nat_tests) in rw t refl

-- no first place is below a number
abbrev pub AreFrom : ℕ → List Pair → Type 0
AreFrom low [] = Unit {0}
AreFrom low (pair ∷ pairs) = (low ≤ pair.first) × AreFrom low pairs

pub all_from_zero : (pairs : List Pair) → AreFrom 0 pairs
all_from_zero [] = tt
all_from_zero (pair ∷ pairs) = (omega arith, all_from_zero pairs)

-- after a pair no first place is below its own
pub are_after : (count : ℕ) (pair : Pair) (pairs : List Pair) (low : ℕ) → low ≤ pair.first → IsAfter pair pairs → ArePairs count pairs → AreFrom low pairs
are_after count pair [] low h b o = tt
are_after count pair (next ∷ pairs) low h b o =
    let n : low ≤ next.first = elim b [ inl l ↦ omega arith | inr e ↦ omega (arith, e.0) ] in
    (n, are_after count next pairs low n o.2 o.3)

-- the clocks that are exclusive to one are the run of its pairs
pub none_from : (place : ℕ) (pairs : List Pair) → AreFrom (suc place) pairs → exclusive_to place pairs ≡ []
none_from place [] f = refl
none_from place (pair ∷ pairs) f =
    let n : pair.first ≡ place → ⊥ = λ e. omega (arith, f.0) in
    exclusive_other place pair pairs n ∙ none_from place pairs f.1

-- as many pairs from the front on are the run of a place: they are all that have it, and the others are from the next
-- on
pub record TakesRun (count place size : ℕ) (pairs : List Pair) : Type 0 where
  pub group : exclusive_to place pairs ≡ seconds (take size pairs)
  pub order : ArePairs count (drop size pairs)
  pub above : AreFrom (suc place) (drop size pairs)

pub takes_run : (count place : ℕ) (pairs : List Pair) → ArePairs count pairs → AreFrom place pairs → TakesRun count place (run_length place pairs) pairs
takes_run count place [] o f =
    subst (λ k. TakesRun count place k []) (sym (run_none place)) (record { group = refl; order = tt; above = tt })
takes_run count place (pair ∷ pairs) o f =
    elim (cases_eq pair.first place) [
      | inl e ↦
          let t = takes_run count place pairs o.3 f.1 in
          subst (λ k. TakesRun count place k (pair ∷ pairs)) (sym (run_same place pair pairs e))
          (record { group = exclusive_same place pair pairs e ∙ ap (λ ps. pair.second ∷ ps) t.group; order = t.order; above = t.above })
      | inr n ↦
          let m : suc place ≤ pair.first = omega (arith, n, f.0) in
          let a : AreFrom (suc place) (pair ∷ pairs) = (m, are_after count pair pairs (suc place) m o.2 o.3) in
          subst (λ k. TakesRun count place k (pair ∷ pairs)) (sym (run_other place pair pairs n))
          (record { group = none_from place (pair ∷ pairs) a; order = o; above = a })
    ]

-- a run has no pair of a later place
pub later_without_run : (place later : ℕ) (pairs : List Pair) → place < later → exclusive_to later pairs ≡ exclusive_to later (drop (run_length place pairs) pairs)
later_without_run place later [] h = ap (λ k. exclusive_to later (drop k [])) (sym (run_none place))
later_without_run place later (pair ∷ pairs) h =
    elim (cases_eq pair.first place) [
      | inl e ↦
          let n : pair.first ≡ later → ⊥ = λ f. omega (arith, e, f, h) in
          exclusive_other later pair pairs n ∙ later_without_run place later pairs h
          ∙ ap (λ k. exclusive_to later (drop k (pair ∷ pairs))) (sym (run_same place pair pairs e))
      | inr n ↦ ap (λ k. exclusive_to later (drop k (pair ∷ pairs))) (sym (run_other place pair pairs n))
    ]
