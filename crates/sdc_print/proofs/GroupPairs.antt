-- The pairs that the groups of a mode's lines make exclusive are the mode's pairs, in order.
use Rattle.std.proofs.Common.{◌≡◌, ◌<◌, ◌≤◌, ◌+◌, ◌&&◌, ◌||◌, ◌⊎◌, ℕ, zero, suc, Bool, true, false, List, [], ◌∷◌, ◌++◌, length, map, drop, nat_eq, refl, sym, ◌∙◌, ap, subst, inl, inr, arith}
use Rattle.std.proofs.Math.Bool.{and-false, or-false}
use Rattle.std.proofs.lemmas.Bool.{cases_eq, eq-eqb, ne_eqb}
use Rattle.timing_types.specs.declared.clocks.Clock.{Clock}
use Rattle.timing_types.specs.declared.clocks.Pair.{Pair}
use Rattle.mode_model.specs.ClockFile.{pairs_apart}
use Rattle.mode_model.specs.ClockGroups.{Groups, all_set_apart, exclusive_pairs, is_parted, pairs_from, pairs_with}
use Rattle.constraint_model.specs.ListOrder.{is_among}
use Rattle.constraint_model.specs.ExclusivePairs.{ArePairs, IsAfter}
use Rattle.mode_model.specs.PrintedFile.{exclusive_to}
use Rattle.sdc_print.specs.Runs.{run_length}
use Rattle.sdc_print.proofs.RunFacts.{AreFrom, TakesRun, all_from_zero, are_after, exclusive_other, exclusive_same, later_without_run, none_from, run_none, run_other, run_same, takes_run}

-- the groups that a line says, and those that the lines from a place on say
abbrev pub said_by : ℕ → List ℕ → List (List (List ℕ))
said_by place [] = []
said_by place (other ∷ others) = ((place ∷ []) ∷ (other ∷ others) ∷ []) ∷ []

abbrev pub said_from : List Pair → ℕ → List Clock → List (List (List ℕ))
said_from pairs place [] = []
said_from pairs place (clock ∷ clocks) = said_by place (exclusive_to place pairs) ++ said_from pairs (suc place) clocks

-- which groups these set against each other
abbrev groups_of : ℕ → List ℕ → List Groups
groups_of place [] = []
groups_of place (other ∷ others) = record { first = place ∷ []; second = other ∷ others } ∷ []

abbrev groups_from : List Pair → ℕ → List Clock → List Groups
groups_from pairs place [] = []
groups_from pairs place (clock ∷ clocks) = groups_of place (exclusive_to place pairs) ++ groups_from pairs (suc place) clocks

line_apart : (count place : ℕ) (others : List ℕ) (more : List (List (List ℕ))) → all_set_apart count (said_by place others ++ more) ≡ groups_of place others ++ all_set_apart count more
line_apart count place [] more = refl
line_apart count place (other ∷ others) more = refl

all_apart : (count : ℕ) (pairs : List Pair) (place : ℕ) (clocks : List Clock) → all_set_apart count (said_from pairs place clocks) ≡ groups_from pairs place clocks
all_apart count pairs place [] = refl
all_apart count pairs place (clock ∷ clocks) =
    line_apart count place (exclusive_to place pairs) (said_from pairs (suc place) clocks)
    ∙ ap (λ (gs : List Groups). groups_of place (exclusive_to place pairs) ++ gs) (all_apart count pairs (suc place) clocks)

-- places above one, below a number
abbrev pub AreWithin : ℕ → ℕ → List ℕ → Type 0
AreWithin low count [] = Unit {0}
AreWithin low count (place ∷ places) = (low < place) × (place < count) × AreWithin low count places

pub exclusive_within : (count place : ℕ) (pairs : List Pair) → ArePairs count pairs → AreWithin place count (exclusive_to place pairs)
exclusive_within count place [] o = tt
exclusive_within count place (pair ∷ pairs) o =
    elim (cases_eq pair.first place) [
      | inl e ↦
          let within : AreWithin place count (pair.second ∷ exclusive_to place pairs) = (omega (arith, e, o.0), o.1, exclusive_within count place pairs o.3) in
          subst (AreWithin place count) (sym (exclusive_same place pair pairs e)) within
      | inr n ↦ subst (AreWithin place count) (sym (exclusive_other place pair pairs n)) (exclusive_within count place pairs o.3)
    ]

none_below : (i low count : ℕ) (places : List ℕ) → i ≤ low → AreWithin low count places → is_among i places ≡ false
none_below i low count [] h w = refl
none_below i low count (place ∷ places) h w =
    let n : nat_eq place i ≡ false = ne_eqb place i (λ e. omega (arith, e, w.0)) in
    rw n (none_below i low count places h w.2)

-- ---- which clocks the groups part

-- one line's groups part its clock from the others
parted_line : (place count i j : ℕ) (others : List ℕ) (rest : List Groups) → i < j → AreWithin place count others
    → is_parted (groups_of place others ++ rest) i j ≡ ((nat_eq place i && is_among j others) || is_parted rest i j)
parted_line place count i j [] rest h w = ap (λ (b : Bool). b || is_parted rest i j) (sym (and-false (nat_eq place i)))
parted_line place count i j (other ∷ others) rest h w =
    let a = is_among j (other ∷ others) in
    let other_way : ((nat_eq place j || false) && is_among i (other ∷ others)) ≡ false =
    elim (cases_eq place j) [
      | inl e ↦
          let none : is_among i (other ∷ others) ≡ false = none_below i place count (other ∷ others) (omega (arith, e, h)) w in
          ap (λ (b : Bool). (nat_eq place j || false) && b) none ∙ and-false (nat_eq place j || false)
      | inr n ↦ ap (λ (b : Bool). (b || false) && is_among i (other ∷ others)) (ne_eqb place j n)
    ] in
    ap (λ (b : Bool). (((nat_eq place i || false) && a) || b) || is_parted rest i j) other_way
    ∙ (ap (λ (b : Bool). ((b && a) || false) || is_parted rest i j) (or-false (nat_eq place i))
    ∙ ap (λ (b : Bool). b || is_parted rest i j) (or-false (nat_eq place i && a)))

none_before : (pairs : List Pair) (count place i j : ℕ) (clocks : List Clock) → i < j → i < place → ArePairs count pairs → is_parted (groups_from pairs place clocks) i j ≡ false
none_before pairs count place i j [] h k o = refl
none_before pairs count place i j (clock ∷ clocks) h k o =
    parted_line place count i j (exclusive_to place pairs) (groups_from pairs (suc place) clocks) h (exclusive_within count place pairs o)
    ∙ (ap (λ (b : Bool). (b && is_among j (exclusive_to place pairs)) || is_parted (groups_from pairs (suc place) clocks) i j) (ne_eqb place i (λ e. omega (arith, e, k)))
    ∙ none_before pairs count (suc place) i j clocks h (omega arith) o)

parted_is : (pairs : List Pair) (count place i j : ℕ) (clocks : List Clock) → i < j → place ≤ i → i < place + length clocks → ArePairs count pairs
    → is_parted (groups_from pairs place clocks) i j ≡ is_among j (exclusive_to i pairs)
parted_is pairs count place i j [] h k l o = absurd (omega arith)
parted_is pairs count place i j (clock ∷ clocks) h k l o =
    let rest = groups_from pairs (suc place) clocks in
    parted_line place count i j (exclusive_to place pairs) rest h (exclusive_within count place pairs o)
    ∙ elim (cases_eq place i) [
      | inl e ↦
          ap (λ (b : Bool). (b && is_among j (exclusive_to place pairs)) || is_parted rest i j) (eq-eqb place i e)
          ∙ (ap (λ (b : Bool). is_among j (exclusive_to place pairs) || b) (none_before pairs count (suc place) i j clocks h (omega (arith, e)) o)
          ∙ (or-false (is_among j (exclusive_to place pairs)) ∙ ap (λ (n : ℕ). is_among j (exclusive_to n pairs)) e))
      | inr n ↦
          ap (λ (b : Bool). (b && is_among j (exclusive_to place pairs)) || is_parted rest i j) (ne_eqb place i n)
          ∙ parted_is pairs count (suc place) i j clocks h (omega (arith, n)) (omega arith) o
    ]

-- ---- pairs in order

abbrev pub pairs_of : ℕ → List ℕ → List Pair
pairs_of place seconds = map (λ (second : ℕ). record { first = place; second = second }) seconds

-- rising places, from a least one on and below an end
abbrev pub Rises : ℕ → ℕ → List ℕ → Type 0
Rises low end [] = Unit {0}
Rises low end (place ∷ places) = (low ≤ place) × (place < end) × Rises (suc place) end places

rises_above : (j low end : ℕ) (places : List ℕ) → j < low → Rises low end places → is_among j places ≡ false
rises_above j low end [] h r = refl
rises_above j low end (place ∷ places) h r =
    let n : nat_eq place j ≡ false = ne_eqb place j (λ e. omega (arith, e, r.0)) in
    rw n (rises_above j (suc place) end places (omega (arith, r.0)) r.2)

-- what a clock's row of pairs is, where it is parted from just these later ones
row_is : (groups : List Groups) (i j more end : ℕ) (places : List ℕ) → end ≡ j + more → ((b : ℕ) → j ≤ b → is_parted groups i b ≡ is_among b places) → Rises j end places
    → pairs_with groups i j more ≡ pairs_of i places
row_is groups i j zero end [] e p r = refl
row_is groups i j zero end (place ∷ places) e p r = absurd (omega (arith, r.0, r.1))
row_is groups i j (suc more) end [] e p r =
    let none : is_parted groups i j ≡ false = p j (omega arith) in
    rw none (row_is groups i (j + 1) more end [] (omega arith) (λ b h. p b (omega arith)) tt)
row_is groups i j (suc more) end (place ∷ places) e p r =
    elim (cases_eq place j) [
      | inl s ↦
          let here : is_parted groups i j ≡ true = p j (omega arith) ∙ ap (λ (b : Bool). b || is_among j places) (eq-eqb place j s) in
          let later : (b : ℕ) → j + 1 ≤ b → is_parted groups i b ≡ is_among b places =
          λ b h. p b (omega arith) ∙ ap (λ (t : Bool). t || is_among b places) (ne_eqb place b (λ f. omega (arith, f, s, h))) in
          let others = row_is groups i (j + 1) more end places (omega arith) later (subst (λ (n : ℕ). Rises n end places) (omega (arith, s)) r.2) in
          rw here (ap (λ (n : ℕ). let q : List Pair = record { first = i; second = n } ∷ pairs_with groups i (j + 1) more in q) (sym s)
          ∙ ap (λ (ps : List Pair). let q : List Pair = record { first = i; second = place } ∷ ps in q) others)
      | inr n ↦
          let above : j < place = omega (arith, n, r.0) in
          let none : is_parted groups i j ≡ false =
          p j (omega arith) ∙ rises_above j (suc j) end (place ∷ places) (omega arith) (above, r.1, r.2) in
          rw none (row_is groups i (j + 1) more end (place ∷ places) (omega arith) (λ b h. p b (omega arith)) (omega (arith, above), r.1, r.2))
    ]

-- the later clocks of one stand from a place on
abbrev AreAbove : ℕ → ℕ → List Pair → Type 0
AreAbove place low [] = Unit {0}
AreAbove place low (pair ∷ pairs) = (pair.first ≡ place → low ≤ pair.second) × AreAbove place low pairs

all_above : (count place : ℕ) (pairs : List Pair) → ArePairs count pairs → AreAbove place (suc place) pairs
all_above count place [] o = tt
all_above count place (pair ∷ pairs) o = ((λ e. omega (arith, e, o.0)), all_above count place pairs o.3)

-- the first pair of some has a later first clock, or the same one and a later second one
abbrev IsLater : ℕ → ℕ → Pair → Type 0
IsLater place low pair = (place < pair.first) ⊎ ((place ≡ pair.first) × (low ≤ pair.second))

next_later : (place low : ℕ) (pair next : Pair) (pairs : List Pair) → IsLater place low pair → IsAfter pair (next ∷ pairs) → IsLater place (suc low) next
next_later place low pair next pairs (inl l) (inl b) = inl (omega (arith, l, b))
next_later place low pair next pairs (inl l) (inr b) = inl (omega (arith, l, b.0))
next_later place low pair next pairs (inr l) (inl b) = inl (omega (arith, l.0, b))
next_later place low pair next pairs (inr l) (inr b) = inr (omega (arith, l.0, b.0), omega (arith, l.1, b.1))

later_above : (place low : ℕ) (pair : Pair) → IsLater place low pair → pair.first ≡ place → low ≤ pair.second
later_above place low pair (inl l) e = absurd (omega (arith, l, e))
later_above place low pair (inr l) e = l.1

above_after : (count place low : ℕ) (pair : Pair) (pairs : List Pair) → IsLater place low pair → IsAfter pair pairs → ArePairs count pairs → AreAbove place (suc low) pairs
above_after count place low pair [] l b o = tt
above_after count place low pair (next ∷ pairs) l b o =
    let later : IsLater place (suc low) next = next_later place low pair next pairs l b in
    let same : IsLater place low next = elim later [ inl n ↦ inl n | inr n ↦ inr (n.0, omega (arith, n.1)) ] in
    (later_above place (suc low) next later, above_after count place low next pairs same o.2 o.3)

-- the later clocks of one rise
rise_from : (count place low : ℕ) (pairs : List Pair) → ArePairs count pairs → AreAbove place low pairs → Rises low count (exclusive_to place pairs)
rise_from count place low [] o a = tt
rise_from count place low (pair ∷ pairs) o a =
    elim (cases_eq pair.first place) [
      | inl e ↦
          let after : AreAbove place (suc pair.second) pairs = above_after count place pair.second pair pairs (inr (sym e, omega arith)) o.2 o.3 in
          let rises : Rises low count (pair.second ∷ exclusive_to place pairs) = (a.0 e, o.1, rise_from count place (suc pair.second) pairs o.3 after) in
          subst (Rises low count) (sym (exclusive_same place pair pairs e)) rises
      | inr n ↦ subst (Rises low count) (sym (exclusive_other place pair pairs n)) (rise_from count place low pairs o.3 a.1)
    ]

pub others_rise : (count place : ℕ) (pairs : List Pair) → ArePairs count pairs → Rises (suc place) count (exclusive_to place pairs)
others_rise count place pairs o = rise_from count place (suc place) pairs o (all_above count place pairs o)

-- pairs are the run of a place and those after it
run_and_rest : (count place : ℕ) (pairs : List Pair) → ArePairs count pairs → AreFrom place pairs → pairs ≡ pairs_of place (exclusive_to place pairs) ++ drop (run_length place pairs) pairs
run_and_rest count place [] o f = ap (λ (k : ℕ). let q : List Pair = drop k [] in q) (sym (run_none place))
run_and_rest count place (pair ∷ pairs) o f =
    elim (cases_eq pair.first place) [
      | inl e ↦
          let first : Pair = record { first = place; second = pair.second } in
          let is : pair ≡ first = ap (λ (n : ℕ). let q : Pair = record { first = n; second = pair.second } in q) e in
          ap (λ (p : Pair). p ∷ pairs) is
          ∙ (ap (λ (ps : List Pair). first ∷ ps) (run_and_rest count place pairs o.3 f.1)
          ∙ (ap (λ (os : List ℕ). pairs_of place os ++ drop (run_length place pairs) pairs) (sym (exclusive_same place pair pairs e))
          ∙ ap (λ (k : ℕ). pairs_of place (exclusive_to place (pair ∷ pairs)) ++ drop k (pair ∷ pairs)) (sym (run_same place pair pairs e))))
      | inr n ↦
          let above : suc place ≤ pair.first = omega (arith, n, f.0) in
          let none : exclusive_to place (pair ∷ pairs) ≡ [] = none_from place (pair ∷ pairs) (above, are_after count pair pairs (suc place) above o.2 o.3) in
          ap (λ (os : List ℕ). pairs_of place os ++ (pair ∷ pairs)) (sym none)
          ∙ ap (λ (k : ℕ). pairs_of place (exclusive_to place (pair ∷ pairs)) ++ drop k (pair ∷ pairs)) (sym (run_other place pair pairs n))
    ]

-- the pairs from a place on, where the groups part just these
pairs_are : (groups : List Groups) (count i more : ℕ) (pairs : List Pair) → i + more ≡ count → ArePairs count pairs → AreFrom i pairs
    → ((a b : ℕ) → i ≤ a → a < count → a < b → is_parted groups a b ≡ is_among b (exclusive_to a pairs)) → pairs_from groups i more ≡ pairs
pairs_are groups count i zero [] e o f p = refl
pairs_are groups count i zero (pair ∷ pairs) e o f p = absurd (omega (arith, o.0, o.1, f.0))
pairs_are groups count i (suc more) pairs e o f p =
    let rest = drop (run_length i pairs) pairs in
    let taken : TakesRun count i (run_length i pairs) pairs = takes_run count i pairs o f in
    let next : suc i ≡ i + 1 = omega arith in
    let row = row_is groups i (i + 1) more count (exclusive_to i pairs) (omega arith) (λ b h. p i b (omega arith) (omega arith) (omega arith))
    (subst (λ (n : ℕ). Rises n count (exclusive_to i pairs)) next (others_rise count i pairs o)) in
    let later : (a b : ℕ) → i + 1 ≤ a → a < count → a < b → is_parted groups a b ≡ is_among b (exclusive_to a rest) =
    λ a b h k l. p a b (omega arith) k l ∙ ap (is_among b) (later_without_run i a pairs (omega arith)) in
    let others = pairs_are groups count (i + 1) more rest (omega arith) taken.order (subst (λ (n : ℕ). AreFrom n rest) next taken.above) later in
    ap (λ (ps : List Pair). ps ++ pairs_from groups (i + 1) more) row
    ∙ (ap (λ (ps : List Pair). pairs_of i (exclusive_to i pairs) ++ ps) others ∙ sym (run_and_rest count i pairs o f))

-- the exclusive pairs of the groups of all lines
pub exclusive_are : (clocks : List Clock) (pairs : List Pair) → ArePairs (length clocks) pairs → pairs_apart (length clocks) (said_from pairs 0 clocks) ≡ pairs
exclusive_are clocks pairs o =
    ap (λ (groups : List Groups). exclusive_pairs groups (length clocks)) (all_apart (length clocks) pairs 0 clocks)
    ∙ pairs_are (groups_from pairs 0 clocks) (length clocks) 0 (length clocks) pairs (omega arith) o (all_from_zero pairs)
    (λ a b h k l. parted_is pairs (length clocks) 0 a b clocks l h (omega arith) o)
