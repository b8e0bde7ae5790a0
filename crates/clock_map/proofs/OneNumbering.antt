-- Numbers in the order of their first appearance: which of them are equal decides them all.
use Rattle.std.proofs.Common.{◌≡◌, ℕ, zero, suc, ◌<◌, ◌≤◌, List, length, Option, Some, None, sym, ap, ◌∙◌, inl, inr, arith}
use Rattle.std.specs.Prelude.{◌⊎◌, ◌↔◌, slice_get}
use Rattle.std.proofs.lemmas.Bool.{cases_eq, cases_lt}
use Rattle.std.proofs.lemmas.Option.{same_Some}
use Rattle.merge_model.specs.ClockIdentity.{IsFirstAt}
use Rattle.text_model.proofs.ListFacts.{element_at}
use Rattle.clock_map.proofs.SharedClocks.{same_lists}

-- numbers below a count, each of them somewhere, and lesser ones first
pub record AppearInOrder (numbers : List ℕ) (count : ℕ) : Type 0 where
  pub below : (p n : ℕ) → slice_get numbers p ≡ Some n → n < count
  pub somewhere : (k : ℕ) → k < count → (p : ℕ) × IsFirstAt numbers k p
  pub order : (k l p q : ℕ) → k < l → IsFirstAt numbers k p → IsFirstAt numbers l q → p < q

-- equal numbers stand at the same places of both lists
abbrev pub AreAlike : List ℕ → List ℕ → Type 0
AreAlike xs ys = (p q : ℕ) → p < length xs → q < length xs → (slice_get xs p ≡ slice_get xs q) ↔ (slice_get ys p ≡ slice_get ys q)

-- both lists have the same numbers below a place
abbrev SameBelow : List ℕ → List ℕ → ℕ → Type 0
SameBelow xs ys p = (q : ℕ) → q < p → slice_get xs q ≡ slice_get ys q

-- a number stands before a place
abbrev StandsBefore : List ℕ → ℕ → ℕ → Type 0
StandsBefore numbers n p = (q : ℕ) × (q < p) × (slice_get numbers q ≡ Some n)

abbrev IsNewAt : List ℕ → ℕ → ℕ → Type 0
IsNewAt numbers n p = (q : ℕ) → q < p → slice_get numbers q ≡ Some n → ⊥

is_there : (o : Option ℕ) (n : ℕ) → (o ≡ Some n) ⊎ (o ≡ Some n → ⊥)
is_there None n = inr (λ e. cc)
is_there (Some m) n = elim (cases_eq m n) [ inl same ↦ inl (ap Some same) | inr other ↦ inr (λ e. other (same_Some m n e)) ]

before_or_new : (numbers : List ℕ) (n p : ℕ) → StandsBefore numbers n p ⊎ IsNewAt numbers n p
before_or_new numbers n zero = inr (λ q within e. absurd (omega arith))
before_or_new numbers n (suc p) = elim (before_or_new numbers n p) [
  | inl found ↦ inl (found.0, omega (arith, found.1), found.2)
  | inr none ↦ elim (is_there (slice_get numbers p) n) [
    | inl here ↦ inl (p, omega arith, here)
    | inr other ↦ inr (λ q within e. elim (cases_lt q p) [
      | inl less ↦ none q less e
      | inr more ↦ let same : p ≡ q = omega arith in other (ap (slice_get numbers) same ∙ e)
    ])
  ]
]

-- a number that is new in the first list is not less than one that is new there in the second
not_less : (xs ys : List ℕ) (count p n m : ℕ) → AppearInOrder ys count → SameBelow xs ys p → slice_get ys p ≡ Some m
    → IsNewAt xs n p → IsNewAt ys m p → n < m → ⊥
not_less xs ys count p n m order same at new new' less =
    let below = order.below p m at in
    let found = order.somewhere n (omega arith) in
    let early = order.order n m found.0 p less found.1 (record { is = at; none_before = new' }) in
    new found.0 early (same found.0 early ∙ found.1.is)

new_same : (xs ys : List ℕ) (count count' p n m : ℕ) → AppearInOrder xs count → AppearInOrder ys count' → SameBelow xs ys p
    → slice_get xs p ≡ Some n → slice_get ys p ≡ Some m → IsNewAt xs n p → IsNewAt ys m p → n ≡ m
new_same xs ys count count' p n m order order' same at at' new new' = elim (cases_lt n m) [
  | inl less ↦ absurd (not_less xs ys count' p n m order' same at' new new' less)
  | inr more ↦ elim (cases_lt m n) [
    | inl less ↦ absurd (not_less ys xs count p m n order (λ q within. sym (same q within)) at new' new less)
    | inr equal ↦ omega arith
  ]
]

-- where both lists have the same numbers before a place, they have the same there
same_here : (xs ys : List ℕ) (count count' p : ℕ) → AppearInOrder xs count → AppearInOrder ys count' → length xs ≡ length ys
    → AreAlike xs ys → SameBelow xs ys p → p < length xs → slice_get xs p ≡ slice_get ys p
same_here xs ys count count' p order order' long alike same within =
    let n = element_at xs p within in
    let m = element_at ys p (omega arith) in
    elim (before_or_new xs n.0 p) [
      | inl old ↦ n.1 ∙ sym old.2 ∙ same old.0 old.1 ∙ (alike old.0 p (omega (arith, old.1)) within).0 (old.2 ∙ sym n.1)
      | inr new ↦ elim (before_or_new ys m.0 p) [
        | inl old ↦ sym ((alike old.0 p (omega (arith, old.1)) within).1 (old.2 ∙ sym m.1)) ∙ same old.0 old.1 ∙ old.2 ∙ sym m.1
        | inr new' ↦ n.1 ∙ ap Some (new_same xs ys count count' p n.0 m.0 order order' same n.1 m.1 new new') ∙ sym m.1
      ]
    ]

same_below : (xs ys : List ℕ) (count count' p : ℕ) → AppearInOrder xs count → AppearInOrder ys count' → length xs ≡ length ys
    → AreAlike xs ys → p ≤ length xs → SameBelow xs ys p
same_below xs ys count count' zero order order' long alike within = λ q before. absurd (omega arith)
same_below xs ys count count' (suc p) order order' long alike within =
    let same = same_below xs ys count count' p order order' long alike (omega arith) in
    λ q before. elim (cases_lt q p) [
      | inl less ↦ same q less
      | inr more ↦
          let is : q ≡ p = omega arith in
          ap (slice_get xs) is ∙ same_here xs ys count count' p order order' long alike same (omega arith) ∙ ap (slice_get ys) (sym is)
    ]

pub numbers_once : (xs ys : List ℕ) (count count' : ℕ) → AppearInOrder xs count → AppearInOrder ys count' → length xs ≡ length ys
    → AreAlike xs ys → xs ≡ ys
numbers_once xs ys count count' order order' long alike =
    same_lists xs ys long (same_below xs ys count count' (length xs) order order' long alike (omega arith))

-- no list has two counts
pub count_once : (xs : List ℕ) (count count' : ℕ) → AppearInOrder xs count → AppearInOrder xs count' → count ≡ count'
count_once xs count count' order order' = elim (cases_lt count count') [
  | inl less ↦ absurd (not_fewer count count' order order' less)
  | inr more ↦ elim (cases_lt count' count) [
    | inl less ↦ absurd (not_fewer count' count order' order less)
    | inr equal ↦ omega arith
  ]
] where
  not_fewer : (few many : ℕ) → AppearInOrder xs few → AppearInOrder xs many → few < many → ⊥
  not_fewer few many one other less =
      let found = other.somewhere few less in
      let below = one.below found.0 few found.1.is in
      absurd (omega arith)
