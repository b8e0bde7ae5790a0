-- A name is the same as an earlier one where it is not the first of its name.
use Rattle.std.proofs.Common.{◌≡◌, ◌+◌, ◌<◌, ◌||◌, inl, inr, ℕ, zero, suc, Bool, not, List, [], ◌∷◌, ◌++◌, length, take, drop, slice_get, Some, None, refl, sym, ◌∙◌, ap, arith}
use Rattle.std.proofs.lemmas.Bool.{cases_lt}
use Rattle.std.proofs.Math.Bool.{not-not}
use Rattle.std.specs.List.{list_any}
use Rattle.flat_model.specs.FlatFaults.{is_among}
use Rattle.text_model.specs.Words.{same_text}
use Rattle.text_model.proofs.ListFacts.{front_at}
use Rattle.flat_design.specs.Fitting.{stands_first}
use Rattle.flat_design.specs.Names.{place_of}
use Rattle.flat_design.proofs.NamedFits.{first_in, same_swap}
use Rattle.flat_design.proofs.HierarchyFacts.{one_at}
use Rattle.flat_design.proofs.PlaceFacts.{get_middle}

pub any_swap : (names : List (List ℕ)) (name : List ℕ) → list_any (λ (f : List ℕ). same_text f name) names ≡ is_among names name
any_swap [] name = refl
any_swap (f ∷ names) name = ap (λ (b : Bool). b || list_any (λ (g : List ℕ). same_text g name) names) (same_swap f name) ∙ ap (λ (b : Bool). same_text name f || b) (any_swap names name)

-- a list around a place
around : (names : List (List ℕ)) (at : ℕ) (name : List ℕ) → slice_get names at ≡ Some name
    → (names ≡ take at names ++ name ∷ drop (at + 1) names) × (length (take at names) ≡ at)
around [] at name is = let bad : None ≡ Some name = is in cc
around (f ∷ names) zero name is =
    let e : Some f ≡ Some name = is in
    let same : f ≡ name = cc in
    (ap (λ (n : List ℕ). n ∷ names) same, refl)
around (f ∷ names) (suc at) name is =
    let r = around names at name is in
    let e : suc at + 1 ≡ suc (at + 1) = omega arith in
    (ap (λ (ns : List (List ℕ)). f ∷ ns) r.0 ∙ ap (λ (k : ℕ). f ∷ (take at names ++ name ∷ drop k (f ∷ names))) (sym e), omega (arith, r.1))

pub repeated_at : (names : List (List ℕ)) (at : ℕ) (name : List ℕ) → slice_get names at ≡ Some name
    → not (stands_first (place_of names name) at) ≡ is_among (take at names) name
repeated_at names at name is =
    let r = around names at name is in
    let first : stands_first (place_of names name) at ≡ not (list_any (λ (f : List ℕ). same_text f name) (take at names)) =
    ap (λ (ns : List (List ℕ)). stands_first (place_of ns name) at) r.0
    ∙ (ap (λ (n : ℕ). stands_first (place_of (take at names ++ name ∷ drop (at + 1) names) name) n) (sym r.1)
    ∙ first_in (take at names) (drop (at + 1) names) name) in
    ap not first ∙ (not-not (list_any (λ (f : List ℕ). same_text f name) (take at names)) ∙ any_swap (take at names) name)

-- one more
pub repeats_more : (names : List (List ℕ)) (repeats : List Bool) (at : ℕ) (name : List ℕ) (mark : Bool) → length repeats ≡ at
    → slice_get names at ≡ Some name → mark ≡ is_among (take at names) name
    → ((k : ℕ) (n : List ℕ) → k < at → slice_get names k ≡ Some n → slice_get repeats k ≡ Some (is_among (take k names) n))
    → (k : ℕ) (n : List ℕ) → k < at + 1 → slice_get names k ≡ Some n → slice_get (repeats ++ mark ∷ []) k ≡ Some (is_among (take k names) n)
repeats_more names repeats at name mark count is same before k n low here =
    elim (cases_lt k at) [
      | inl earlier ↦ front_at repeats (mark ∷ []) k (is_among (take k names) n) (before k n earlier here)
      | inr last ↦
          let place : k ≡ length repeats = omega (arith, low, last, count) in
          let at_k : k ≡ at = omega (arith, low, last) in
          let one : name ≡ n = one_at names at name n is (ap (slice_get names) (sym at_k) ∙ here) in
          ap (slice_get (repeats ++ mark ∷ [])) place
          ∙ (get_middle repeats mark []
          ∙ ap (λ (b : Bool). Some b) (same ∙ (ap (λ (j : ℕ). is_among (take j names) name) (sym at_k) ∙ ap (λ (m : List ℕ). is_among (take k names) m) one)))
    ]
