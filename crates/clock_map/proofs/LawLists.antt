-- Clocks of one mode, and clocks of equal modes, in a clock map.
use Rattle.std.proofs.Common.{◌≡◌, ℕ, zero, suc, ◌+◌, ◌<◌, ◌≤◌, Bool, true, false, cond, List, [], ◌∷◌, map, Option, Some, Ordering, refl, sym, ap, ◌∙◌, arith}
use Rattle.std.specs.Prelude.{◌&&◌, slice_get}
use Rattle.std.specs.Ordering.{is_eq, is_lt, nat_cmp, ordering_then}
use Rattle.std.specs.declared.cmp.Ordering.TheVariants.{Less, Equal, Greater}
use Rattle.std.specs.Cmp.{IsTotalOrder}
use Rattle.std.specs.Cmp.Lexicographic.{slice_cmp}
use Rattle.std.specs.Option.{option_map, unwrap_or}
use Rattle.std.specs.Ordering.{ordering_reverse}
use Rattle.std.specs.List.{count_by}
use Rattle.std.proofs.lemmas.Bool.{and_parts, and_right, false≢true}
use Rattle.std.proofs.lemmas.Cmp.{tied_itself, nat_list_cmp_total, nat_cmp_total, on_total, then_total}
use Rattle.std.proofs.lemmas.Map.Lookups.{exact_unsigned}
use Rattle.timing_types.specs.declared.clocks.Clock.{Clock}
use Rattle.timing_types.specs.declared.clocks.Wave.{Wave}
use Rattle.timing_types.specs.declared.views.Arrivals.{Arrivals}
use Rattle.timing_types.specs.declared.views.View.{View}
use Rattle.timing_types.specs.declared.identities.Standing.{Standing}
use Rattle.timing_types.specs.declared.identities.Identity.{Identity}
use Rattle.merge_model.specs.ClockIdentity.{standings_from, mode_standings, same_definition, is_ahead, rank_among, identity_among, identities_among}
use Rattle.clock_map.proofs.Exact.{both_equal}
use Rattle.clock_map.proofs.RankLists.{definition_total, count_more}

-- ---- ranks tell the clocks of a mode apart

abbrev ahead_cmp : Standing → Standing → Ordering
ahead_cmp a b = ordering_then (slice_cmp nat_cmp a.name b.name) (nat_cmp a.place b.place)

ahead_total : IsTotalOrder ahead_cmp
ahead_total = then_total (on_total (λ (s : Standing). s.name) nat_list_cmp_total) (on_total (λ (s : Standing). s.place) nat_cmp_total)

lt_is : (o : Ordering) → is_lt o ≡ true → o ≡ Less
lt_is Less e = refl
lt_is Equal e = absurd (false≢true e)
lt_is Greater e = absurd (false≢true e)

one_grows : (a b : Bool) → (a ≡ true → b ≡ true) → cond a 1 0 ≤ cond b 1 0
one_grows true true h = omega arith
one_grows true false h = absurd (false≢true (h refl))
one_grows false true h = omega arith
one_grows false false h = omega arith

count_grows : {X : Type 0} (p q : X → Bool) (xs : List X) → ((x : X) → p x ≡ true → q x ≡ true) → count_by p xs ≤ count_by q xs
count_grows p q [] more = omega arith
count_grows p q (x ∷ xs) more =
    let rest = count_grows p q xs more in
    let here = one_grows (p x) (q x) (more x) in
    omega (arith, count_more p x xs, count_more q x xs)

-- one element more passes the second test
count_exceeds : {X : Type 0} (p q : X → Bool) (xs : List X) (i : ℕ) (x : X) → ((y : X) → p y ≡ true → q y ≡ true)
    → slice_get xs i ≡ Some x → p x ≡ false → q x ≡ true → count_by p xs < count_by q xs
count_exceeds p q [] i x more at fails passes = cc
count_exceeds p q (y ∷ xs) zero x more at fails passes =
    let same : y ≡ x = cc in
    let rest = count_grows p q xs more in
    let first : cond {A = ℕ} (p y) 1 0 ≡ 0 = ap (λ (b : Bool). cond {A = ℕ} b 1 0) (ap p same ∙ fails) in
    let second : cond {A = ℕ} (q y) 1 0 ≡ 1 = ap (λ (b : Bool). cond {A = ℕ} b 1 0) (ap q same ∙ passes) in
    omega (arith, count_more p y xs, count_more q y xs)
count_exceeds p q (y ∷ xs) (suc i) x more at fails passes =
    let rest = count_exceeds p q xs i x more at fails passes in
    let here = one_grows (p y) (q y) (more y) in
    omega (arith, count_more p y xs, count_more q y xs)

-- a clock has a lesser rank than one of its definition after it
pub rank_below : (all : List Standing) (i : ℕ) (x y : Standing) → slice_get all i ≡ Some x → x.definition ≡ y.definition → ahead_cmp x y ≡ Less
    → rank_among all x < rank_among all y
rank_below all i x y at same less =
    count_exceeds (λ z. same_definition z.definition x.definition && is_ahead z x) (λ z. same_definition z.definition y.definition && is_ahead z y) all i x more at fails passes where
      more : (z : Standing) → (same_definition z.definition x.definition && is_ahead z x) ≡ true → (same_definition z.definition y.definition && is_ahead z y) ≡ true
      more z e =
          let parts = and_parts (same_definition z.definition x.definition) (is_ahead z x) e in
          let ahead : ahead_cmp z y ≡ Less = ahead_total.trans z x y (lt_is (ahead_cmp z x) parts.1) less in
          ap (λ b. b && is_ahead z y) (ap (λ d. same_definition z.definition d) (sym same) ∙ parts.0) ∙ ap is_lt ahead

      fails : (same_definition x.definition x.definition && is_ahead x x) ≡ false
      fails = and_right (same_definition x.definition x.definition) (is_ahead x x) (ap is_lt (tied_itself ahead_total x))

      passes : (same_definition x.definition y.definition && is_ahead x y) ≡ true
      passes = ap (λ b. b && is_ahead x y) (ap (λ d. same_definition x.definition d) (sym same) ∙ ap is_eq (tied_itself definition_total x.definition)) ∙ ap is_lt less

place_is : (numbers : List ℕ) (arrivals : Arrivals) (place : ℕ) (clocks : List Clock) (waves : List Wave) (i : ℕ) (s : Standing)
    → slice_get (standings_from numbers arrivals place clocks waves) i ≡ Some s → s.place ≡ place + i
place_is numbers arrivals place [] waves i s e = cc
place_is numbers arrivals place (clock ∷ clocks) [] i s e = cc
place_is numbers arrivals place (clock ∷ clocks) (wave ∷ waves) zero s e =
    let here : place ≡ s.place = ap (λ (o : Option Standing). unwrap_or (option_map (λ (t : Standing). t.place) o) 0) e in omega arith
place_is numbers arrivals place (clock ∷ clocks) (wave ∷ waves) (suc i) s e =
    place_is numbers arrivals (suc place) clocks waves i s e ∙ omega arith

-- the element from which a mapped one was made
map_get : {X Y : Type 0} (f : X → Y) (xs : List X) (p : ℕ) (y : Y) → slice_get (map f xs) p ≡ Some y → (x : X) × (slice_get xs p ≡ Some x) × (f x ≡ y)
map_get f [] p y e = cc
map_get f (x ∷ xs) zero y e = (x, refl, cc)
map_get f (x ∷ xs) (suc p) y e = map_get f xs p y e

pub ranks_distinguish : (numbers : List ℕ) (view : View) (p q : ℕ) (x y : Identity)
    → slice_get (identities_among (mode_standings numbers view)) p ≡ Some x → slice_get (identities_among (mode_standings numbers view)) q ≡ Some y → x ≡ y → p ≡ q
ranks_distinguish numbers view p q x y e f same = by_order (ahead_cmp one.0 other.0) refl where
  one : (z : Standing) × (slice_get (mode_standings numbers view) p ≡ Some z) × (identity_among (mode_standings numbers view) z ≡ x)
  one = map_get (identity_among (mode_standings numbers view)) (mode_standings numbers view) p x e

  other : (z : Standing) × (slice_get (mode_standings numbers view) q ≡ Some z) × (identity_among (mode_standings numbers view) z ≡ y)
  other = map_get (identity_among (mode_standings numbers view)) (mode_standings numbers view) q y f

  equal : identity_among (mode_standings numbers view) one.0 ≡ identity_among (mode_standings numbers view) other.0
  equal = one.2 ∙ same ∙ sym other.2

  definitions : one.0.definition ≡ other.0.definition
  definitions = ap (λ (i : Identity). i.definition) equal

  ranks : rank_among (mode_standings numbers view) one.0 ≡ rank_among (mode_standings numbers view) other.0
  ranks = ap (λ (i : Identity). i.rank) equal

  by_order : (o : Ordering) → ahead_cmp one.0 other.0 ≡ o → p ≡ q
  by_order Less h =
      let below = rank_below (mode_standings numbers view) p one.0 other.0 one.1 definitions h in
      absurd (omega (arith, ranks))
  by_order Equal h =
      let parts = both_equal (slice_cmp nat_cmp one.0.name other.0.name) (nat_cmp one.0.place other.0.place) h in
      let places : one.0.place ≡ other.0.place = exact_unsigned one.0.place other.0.place parts.1 in
      let here = place_is numbers view.arrivals 0 view.mode.clocks view.waves p one.0 one.1 in
      let there = place_is numbers view.arrivals 0 view.mode.clocks view.waves q other.0 other.1 in
      omega arith
  by_order Greater h =
      let back : ahead_cmp other.0 one.0 ≡ Less = ahead_total.antisymm other.0 one.0 ∙ ap ordering_reverse h in
      let below = rank_below (mode_standings numbers view) q other.0 one.0 other.1 (sym definitions) back in
      absurd (omega (arith, ranks))
