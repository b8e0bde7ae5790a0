-- Rising lists of pairs: each pair stands before those after it. Two such lists with the same pairs are the same.
use Rattle.std.proofs.Common.{◌≡◌, ◌<◌, ℕ, zero, suc, List, [], ◌∷◌, Some, refl, sym, ap, ◌∙◌, subst, inl, inr, arith}
use Rattle.std.specs.Prelude.{◌⊎◌, slice_get}
use Rattle.std.specs.List.{Contains}
use Rattle.std.proofs.lemmas.Option.{same_Some, slice_get_within, slice_get-get_or, get_or_from_slice_get}
use Rattle.timing_types.specs.declared.clocks.Pair.{Pair}
use Rattle.timing_types.specs.declared.views.View.{View}
use Rattle.merge_model.specs.Exclusive.{AreExclusivePairs, ComesBefore}

-- a pair stands before another one in order
unfoldable pub Before : Pair → Pair → Type 0
Before p q = (p.first < q.first) ⊎ ((p.first ≡ q.first) × (p.second < q.second))

pub not_both : (p q : Pair) → Before p q → Before q p → ⊥
unfolding Before
not_both p q (inl a) (inl b) = omega arith
not_both p q (inl a) (inr b) = omega arith
not_both p q (inr a) (inl b) = omega arith
not_both p q (inr a) (inr b) = omega arith

abbrev pub AllAfter : Pair → List Pair → Type 0
AllAfter p [] = Unit {0}
AllAfter p (q ∷ qs) = Before p q × AllAfter p qs

-- each pair stands before those after it
abbrev pub Rising : List Pair → Type 0
Rising [] = Unit {0}
Rising (p ∷ ps) = AllAfter p ps × Rising ps

-- a pair is one of a list
abbrev pub Among : Pair → List Pair → Type 0
Among p [] = ⊥
Among p (q ∷ qs) = (p ≡ q) ⊎ Among p qs

after_among : (p q : Pair) (qs : List Pair) → AllAfter p qs → Among q qs → Before p q
after_among p q [] after none = absurd none
after_among p q (r ∷ qs) after (inl same) = subst (Before p) (sym same) after.0
after_among p q (r ∷ qs) after (inr among) = after_among p q qs after.1 among

not_itself : (p : Pair) (ps : List Pair) → AllAfter p ps → Among p ps → ⊥
not_itself p ps after among = let b : Before p p = after_among p p ps after among in not_both p p b b

same_head : (p q : Pair) (ps qs : List Pair) → AllAfter p ps → AllAfter q qs → Among p (q ∷ qs) → Among q (p ∷ ps) → p ≡ q
same_head p q ps qs after_p after_q (inl same) back = same
same_head p q ps qs after_p after_q (inr there) (inl same) = sym same
same_head p q ps qs after_p after_q (inr there) (inr back) = absurd (not_both p q (after_among p q ps after_p back) (after_among q p qs after_q there))

tail_among : (p q r : Pair) (ps qs : List Pair) → p ≡ q → AllAfter p ps → Among r ps → Among r (q ∷ qs) → Among r qs
tail_among p q r ps qs same after here (inl is) = absurd (not_itself p ps after (subst (λ (x : Pair). Among x ps) (is ∙ sym same) here))
tail_among p q r ps qs same after here (inr there) = there

pub same_lists : (ps qs : List Pair) → Rising ps → Rising qs → ((r : Pair) → Among r ps → Among r qs) → ((r : Pair) → Among r qs → Among r ps) → ps ≡ qs
same_lists [] [] rising_p rising_q there back = refl
same_lists [] (q ∷ qs) rising_p rising_q there back = absurd (back q (inl refl))
same_lists (p ∷ ps) [] rising_p rising_q there back = absurd (there p (inl refl))
same_lists (p ∷ ps) (q ∷ qs) rising_p rising_q there back =
    let same : p ≡ q = same_head p q ps qs rising_p.0 rising_q.0 (there p (inl refl)) (back q (inl refl)) in
    let tails : ps ≡ qs = same_lists ps qs rising_p.1 rising_q.1
    (λ r here. tail_among p q r ps qs same rising_p.0 here (there r (inr here)))
    (λ r here. tail_among q p r qs ps (sym same) rising_q.0 here (back r (inr here))) in
    cc

-- ---- pairs by their places

abbrev InOrder : List Pair → Type 0
InOrder ps = (i j : ℕ) (p q : Pair) → i < j → slice_get ps i ≡ Some p → slice_get ps j ≡ Some q → ComesBefore p q

all_after : (p : Pair) (qs : List Pair) → ((i : ℕ) (q : Pair) → slice_get qs i ≡ Some q → ComesBefore p q) → AllAfter p qs
unfolding Before
all_after p [] before = tt
all_after p (q ∷ qs) before = (before 0 q refl, all_after p qs (λ i r e. before (suc i) r e))

rising : (ps : List Pair) → InOrder ps → Rising ps
rising [] order = tt
rising (p ∷ ps) order = (
  all_after p ps (λ i q e. order 0 (suc i) p q (omega arith) refl e),
  rising ps (λ i j q r less e f. order (suc i) (suc j) q r (omega arith) e f),
)

among_place : (p : Pair) (ps : List Pair) → Among p ps → (i : ℕ) × (slice_get ps i ≡ Some p)
among_place p [] among = absurd among
among_place p (q ∷ ps) (inl same) = (0, ap Some (sym same))
among_place p (q ∷ ps) (inr among) = let there = among_place p ps among in (suc there.0, there.1)

place_among : (p : Pair) (ps : List Pair) (i : ℕ) → slice_get ps i ≡ Some p → Among p ps
place_among p [] i e = cc
place_among p (q ∷ ps) zero e = inl (same_Some p q (sym e))
place_among p (q ∷ ps) (suc i) e = inr (place_among p ps i e)

contains_from_among : (p : Pair) (ps : List Pair) → Among p ps → Contains ps p
contains_from_among p ps among =
    let at = among_place p ps among in (at.0, slice_get_within ps at.0 p at.1, get_or_from_slice_get ps at.0 p p at.1)

among_from_contains : (p : Pair) (ps : List Pair) → Contains ps p → Among p ps
among_from_contains p ps has = place_among p ps has.0 (slice_get-get_or ps has.0 p has.1 ∙ ap Some has.2)

-- merged clocks have one list of exclusive pairs
pub pairs_once : (views : List View) (maps : List (List ℕ)) (count : ℕ) (ps qs : List Pair) → AreExclusivePairs views maps count ps
    → AreExclusivePairs views maps count qs → ps ≡ qs
pairs_once views maps count ps qs one other =
    same_lists ps qs (rising ps one.order) (rising qs other.order)
    (λ r among. among_from_contains r qs ((other.members r.first r.second).1 ((one.members r.first r.second).0 (contains_from_among r ps among))))
    (λ r among. among_from_contains r ps ((one.members r.first r.second).1 ((other.members r.first r.second).0 (contains_from_among r qs among))))
