-- The different inputs among pins are all of them, so that their places are no more.
use Rattle.std.proofs.Common.{◌≡◌, ◌<◌, ◌≤◌, ℕ, Bool, true, false, List, [], ◌∷◌, ◌++◌, length, map, refl, sym, ap, subst, ◌∙◌, inl, inr, arith}
use Rattle.std.specs.Prelude.{◌==◌, ◌&&◌, nat_lt, not, if◌then◌else◌}
use Rattle.std.specs.List.{All, filter, list_any}
use Rattle.std.proofs.lemmas.Bool.{eq-eqb, eqb-false, eqb-true, lt-ltb, or_cases, or_left, or_parts, or_right}
use Rattle.std.proofs.lemmas.List.{length-map}
use Rattle.std.proofs.lemmas.List.Elements.{All-cons, All-head, All-map, All-nil, All-tail, All-weaker}
use Rattle.std.proofs.lemmas.List.Folds.{list_any-append}
use Rattle.sdc_base.proofs.CaseFacts.{by_bool}
use Rattle.function_model.specs.FunctionMeaning.{inputs_among, inputs_in, with_input, with_inputs}
use Rattle.design_model.specs.UsableLibrary.{distinct}

-- a number is one of these
abbrev pub IsAmong : List ℕ → ℕ → Type 0
IsAmong ns n = list_any (λ m. m == n) ns ≡ true

-- ---- distinct numbers among others are no more

abbrev without : ℕ → List ℕ → List ℕ
without n ms = filter (λ m. not (m == n)) ms

no_more : (n : ℕ) (ms : List ℕ) → length (without n ms) ≤ length ms
no_more n [] = omega arith
no_more n (m ∷ ms) =
    let rest = no_more n ms in
    by_bool (λ b. length (if not b then m ∷ without n ms else without n ms) ≤ length (m ∷ ms)) (m == n)
    (λ is. omega (arith, rest))
    (λ is. omega (arith, rest))

fewer : (n : ℕ) (ms : List ℕ) → IsAmong ms n → length (without n ms) < length ms
fewer n [] there = absurd cc
fewer n (m ∷ ms) there =
    elim (or_cases (m == n) (list_any (λ o. o == n) ms) there) [
      | inl is ↦ subst (λ b. length (if not b then m ∷ without n ms else without n ms) < length (m ∷ ms)) (sym is) (let rest = no_more n ms in omega (arith, rest))
      | inr more ↦ let rest = fewer n ms more in
          by_bool (λ b. length (if not b then m ∷ without n ms else without n ms) < length (m ∷ ms)) (m == n)
          (λ is. omega (arith, rest))
          (λ is. omega (arith, rest))
    ]

still : (n o : ℕ) (ms : List ℕ) → (o == n) ≡ false → IsAmong ms o → IsAmong (without n ms) o
still n o [] other there = there
still n o (m ∷ ms) other there =
    by_bool (λ b. IsAmong (if not b then m ∷ without n ms else without n ms) o) (m == n)
    (λ is. elim (or_cases (m == o) (list_any (λ l. l == o) ms) there) [
      | inl same ↦ absurd (eqb-false o n other (sym (eqb-true m o same) ∙ eqb-true m n is))
      | inr more ↦ still n o ms other more
    ])
    (λ is. elim (or_cases (m == o) (list_any (λ l. l == o) ms) there) [
      | inl same ↦ or_left (m == o) (list_any (λ l. l == o) (without n ms)) same
      | inr more ↦ or_right (m == o) (list_any (λ l. l == o) (without n ms)) (still n o ms other more)
    ])

all_still : (n : ℕ) (ns ms : List ℕ) → list_any (λ m. m == n) ns ≡ false → All (IsAmong ms) ns → All (IsAmong (without n ms)) ns
all_still n [] ms none all = All-nil (IsAmong (without n ms))
all_still n (o ∷ ns) ms none all =
    let parts = or_parts (o == n) (list_any (λ m. m == n) ns) none in
    All-cons (IsAmong (without n ms)) o ns (still n o ms parts.0 (All-head (IsAmong ms) o ns all)) (all_still n ns ms parts.1 (All-tail (IsAmong ms) o ns all))

distinct_few : (ns ms : List ℕ) → All (IsAmong ms) ns → length (distinct ns) ≤ length ms
distinct_few [] ms all = omega arith
distinct_few (n ∷ ns) ms all =
    let tail = All-tail (IsAmong ms) n ns all in
    by_bool (λ b. length (if b then distinct ns else n ∷ distinct ns) ≤ length ms) (list_any (λ m. m == n) ns)
    (λ again. distinct_few ns ms tail)
    (λ last. let rest = distinct_few ns (without n ms) (all_still n ns ms last tail) in
    let less = fewer n ms (All-head (IsAmong ms) n ns all) in
    omega (arith, rest, less))

-- ---- the different inputs are all of them

stays : (inputs : ℕ) (seen : List ℕ) (pin n : ℕ) → IsAmong seen n → IsAmong (with_input inputs seen pin) n
stays inputs seen pin n there =
    by_bool (λ b. IsAmong (if b then seen ++ pin ∷ [] else seen) n) (nat_lt pin inputs && not (list_any (λ one. one == pin) seen))
    (λ is. list_any-append (λ m. m == n) seen (pin ∷ []) ∙ or_left (list_any (λ m. m == n) seen) (list_any (λ m. m == n) (pin ∷ [])) there)
    (λ is. there)

all_stay : (inputs : ℕ) (seen pins : List ℕ) (n : ℕ) → IsAmong seen n → IsAmong (with_inputs inputs seen pins) n
all_stay inputs seen [] n there = there
all_stay inputs seen (pin ∷ pins) n there = all_stay inputs (with_input inputs seen pin) pins n (stays inputs seen pin n there)

added : (b t : Bool) (seen : List ℕ) (pin : ℕ) → b ≡ true → list_any (λ one. one == pin) seen ≡ t → IsAmong (if b && not t then seen ++ pin ∷ [] else seen) pin
added true true seen pin is there = there
added true false seen pin is there =
    list_any-append (λ m. m == pin) seen (pin ∷ [])
    ∙ or_right (list_any (λ m. m == pin) seen) (list_any (λ m. m == pin) (pin ∷ [])) (or_left (pin == pin) false (eq-eqb pin pin refl))
added false t seen pin is there = absurd cc

all_added : (inputs : ℕ) (seen pins : List ℕ) → All (λ pin. pin < inputs) pins → All (IsAmong (with_inputs inputs seen pins)) pins
all_added inputs seen [] all = All-nil (IsAmong seen)
all_added inputs seen (pin ∷ pins) all =
    let more = with_input inputs seen pin in
    All-cons (IsAmong (with_inputs inputs more pins)) pin pins
    (all_stay inputs more pins pin (added (nat_lt pin inputs) (list_any (λ one. one == pin) seen) seen pin (lt-ltb pin inputs (All-head (λ p. p < inputs) pin pins all)) refl))
    (all_added inputs more pins (All-tail (λ p. p < inputs) pin pins all))

-- ---- their places

mapped_among : (f : ℕ → ℕ) (ms : List ℕ) (n : ℕ) → IsAmong ms n → IsAmong (map f ms) (f n)
mapped_among f [] n there = there
mapped_among f (m ∷ ms) n there =
    elim (or_cases (m == n) (list_any (λ o. o == n) ms) there) [
      | inl same ↦ or_left (f m == f n) (list_any (λ o. o == f n) (map f ms)) (eq-eqb (f m) (f n) (ap f (eqb-true m n same)))
      | inr more ↦ or_right (f m == f n) (list_any (λ o. o == f n) (map f ms)) (mapped_among f ms n more)
    ]

-- inputs have no more different places than there are different ones of them
pub places_few : (f : ℕ → ℕ) (names : List (List ℕ)) (pins : List ℕ) → All (λ pin. pin < inputs_in names) pins → length (distinct (map f pins)) ≤ length (inputs_among names pins)
places_few f names pins all =
    let inputs = inputs_among names pins in
    let few = distinct_few (map f pins) (map f inputs)
    (All-map (IsAmong (map f inputs)) f pins (All-weaker (IsAmong inputs) (λ pin. IsAmong (map f inputs) (f pin)) (mapped_among f inputs) pins (all_added (inputs_in names) [] pins all))) in
    omega (arith, few, length-map inputs f)
