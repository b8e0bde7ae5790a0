-- The names of a cell: found by their places, and known to be no inputs.
use Rattle.std.proofs.Common.{◌≡◌, ◌∙◌, ◌+◌, ◌<◌, ◌≤◌, ◌||◌, ℕ, Bool, true, false, cond, List, [], ◌∷◌, drop, get_or, length, Some, None, refl, sym, ap, subst, arith, nat_le, nat_lt, not, String}
use Rattle.std.proofs.Math.Bool.{or-false}
use Rattle.std.proofs.lemmas.Bool.Decides.{nat_tests}
use Rattle.std.proofs.lemmas.Map.Text.{hash_set_updates_text}
use Rattle.std.specs.Prelude.{string_bytes, string_eq}
use Rattle.indexmap.specs.IndexSet.{IndexSet, Updates, contains_text}
use Rattle.sdc_base.proofs.CaseFacts.{or_turned}
use Rattle.function_model.specs.FunctionMeaning.{inputs_in, is_other}
use Rattle.function_model.specs.FunctionText.{place_in}
use Rattle.text_model.specs.Words.{is_among, same_text}
use Rattle.bool_lanes.specs.KnownNames.{AddsName, AreKnown, HasNames}
use Rattle.bool_lanes.specs.NamedNumbers.{HasPlaces, number_at}
use Rattle.bool_lanes.specs.declared.numbers.Numbers.{Numbers}
use Rattle.bool_lanes.proofs.NumberFacts.{place_from-place_if}

pub known : {A S : Type 0} (names : List (List ℕ)) (inputs : ℕ) (places : Numbers) (others : IndexSet (String A) S) → inputs ≡ inputs_in names
    → inputs ≤ length names → HasPlaces places names → HasNames others (drop (inputs + 1) names) → AreKnown names inputs places others
known names inputs places others count within placed apart = record { count = count; within = within; placed = placed; apart = apart }

-- ---- the place of a word

found_step : (p n place : ℕ) (t : Bool) → nat_lt p n ≡ t → cond t (Some p) None ≡ Some place → place ≡ p
found_step p n place true e f = cc
found_step p n place false e f = cc

within_step : (t : Bool) (p n m : ℕ) → p ≤ n → m ≡ 1 + n → cond (not t) (1 + p) 0 ≤ m
within_step true p n m h e = omega arith
within_step false p n m h e = omega arith

place_in-within : (names : List (List ℕ)) (word : List ℕ) → place_in names word ≤ length names
place_in-within [] word = omega arith
place_in-within (name ∷ names) word =
    within_step (same_text name word) (place_in names word) (length names) (length (name ∷ names)) (place_in-within names word) (omega arith)

none_step : (p n : ℕ) (t : Bool) → p ≤ n → nat_lt p n ≡ t → cond t (Some p) None ≡ None → n ≡ p
none_step p n true h e f = cc
none_step p n false h e f = let g : n ≤ p = grind (arith, nat_tests) in omega (arith, h, g)

pub place_found : (places : Numbers) (names : List (List ℕ)) (word : List ℕ) (place : ℕ) → HasPlaces places names
    → number_at places word ≡ Some place → place ≡ place_in names word
place_found places names word place placed e =
    found_step (place_in names word) (length names) place (nat_lt (place_in names word) (length names)) refl
    (sym (place_from-place_if names word) ∙ (sym (placed word) ∙ e))

pub place_few : (places : Numbers) (names : List (List ℕ)) (word : List ℕ) (place : ℕ) → HasPlaces places names → length names ≤ 60001
    → number_at places word ≡ Some place → place ≤ 60001
place_few places names word place placed few e =
    let g = place_found places names word place placed e in
    let h = place_in-within names word in
    omega (arith, few, g, h)

pub place_none : (places : Numbers) (names : List (List ℕ)) (word : List ℕ) → HasPlaces places names
    → number_at places word ≡ None → length names ≡ place_in names word
place_none places names word placed e =
    none_step (place_in names word) (length names) (nat_lt (place_in names word) (length names)) (place_in-within names word) refl
    (sym (place_from-place_if names word) ∙ (sym (placed word) ∙ e))

-- ---- names that are no inputs

pub other_after : (names : List (List ℕ)) (inputs pin : ℕ) → inputs ≡ inputs_in names → inputs ≤ pin → true ≡ is_other names pin
other_after names inputs pin count after =
    let h : inputs_in names ≤ pin = subst (λ n. n ≤ pin) count after in
    let e : nat_le (inputs_in names) pin ≡ true = grind (arith, nat_tests) in
    sym (ap (λ t. t || is_among (drop (inputs_in names + 1) names) (get_or names pin [])) e)

pub other_among : {A S : Type 0} (names : List (List ℕ)) (inputs pin : ℕ) (others : IndexSet (String A) S) → inputs ≡ inputs_in names → pin < inputs
    → HasNames others (drop (inputs + 1) names) → contains_text others (get_or names pin []) ≡ is_other names pin
other_among names inputs pin others count before apart =
    let h : pin < inputs_in names = subst (λ n. pin < n) count before in
    let e : nat_le (inputs_in names) pin ≡ false = grind (arith, nat_tests) in
    apart (get_or names pin [])
    ∙ (ap (λ n. is_among (drop (n + 1) names) (get_or names pin [])) count
    ∙ sym (ap (λ t. t || is_among (drop (inputs_in names + 1) names) (get_or names pin [])) e))

-- ---- names one after the other

-- the set has the names so far: with the others they are all
abbrev pub SetSoFar : {A S : Type 0} → IndexSet (String A) S → List (List ℕ) → List (List ℕ) → Type 0
SetSoFar set rest names = (name : List ℕ) → (contains_text set name || is_among rest name) ≡ is_among names name

pub set_none : {A S : Type 0} (set : IndexSet (String A) S) (names : List (List ℕ)) → set.keys ≡ [] → SetSoFar set names names
set_none set names empty name = rw empty refl

pub added : {A S : Type 0} (old new : IndexSet (String A) S) (key : String A) (own : List ℕ) → Updates string_eq old new key true → string_bytes key ≡ own → AddsName old new own
added old new key own updates named name =
    hash_set_updates_text (string_bytes key) old new true updates name
    ∙ (or_is (same_text (string_bytes key) name) (contains_text old name)
    ∙ ap (λ bytes. same_text bytes name || contains_text old name) named) where
      or_is : (t old : Bool) → cond t true old ≡ (t || old)
      or_is true old = refl
      or_is false old = refl

pub set_more : {A S : Type 0} (old new : IndexSet (String A) S) (own : List ℕ) (rest names : List (List ℕ)) → SetSoFar old (own ∷ rest) names
    → AddsName old new own → SetSoFar new rest names
set_more old new own rest names so_far adds name =
    ap (λ t. t || is_among rest name) (adds name)
    ∙ (or_turned (same_text own name) (contains_text old name) (is_among rest name)
    ∙ so_far name)

pub set_all : {A S : Type 0} (set : IndexSet (String A) S) (names : List (List ℕ)) → SetSoFar set [] names → HasNames set names
set_all set names so_far name = sym (or-false (contains_text set name)) ∙ so_far name
