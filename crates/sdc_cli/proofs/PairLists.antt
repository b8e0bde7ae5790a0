-- The list of all exclusive pairs rises, and has just the pairs of clocks that some command parts.
use Rattle.std.proofs.Common.{◌≡◌, ◌<◌, ◌≤◌, ◌==◌, ◌+◌, ◌⊎◌, inl, inr, ℕ, zero, suc, Bool, true, false, cond, List, [], ◌∷◌, ◌++◌, refl, sym, ◌∙◌, ap, arith}
use Rattle.std.proofs.lemmas.Bool.Decides.{Decides-eqb, nat_tests}
use Rattle.timing_types.specs.declared.clocks.Pair.{Pair}
use Rattle.mode_model.specs.ClockGroups.{Groups, is_parted, pairs_with, pairs_from}
use Rattle.clock_map.proofs.RisingPairs.{Before, AllAfter, Rising, Among}

-- lists of pairs
all_after : (p : Pair) (qs : List Pair) → ((q : Pair) → Among q qs → Before p q) → AllAfter p qs
all_after p [] before = tt
all_after p (q ∷ qs) before = (before q (inl refl), all_after p qs (λ r among. before r (inr among)))

after_append : (p : Pair) (ps qs : List Pair) → AllAfter p ps → AllAfter p qs → AllAfter p (ps ++ qs)
after_append p [] qs first second = second
after_append p (q ∷ ps) qs first second = (first.0, after_append p ps qs first.1 second)

Rising-append : (ps qs : List Pair) → Rising ps → Rising qs → ((p q : Pair) → Among p ps → Among q qs → Before p q) → Rising (ps ++ qs)
Rising-append [] qs first second apart = second
Rising-append (p ∷ ps) qs first second apart = (
  after_append p ps qs first.0 (all_after p qs (λ q among. apart p q (inl refl) among)),
  Rising-append ps qs first.1 second (λ r q here there. apart r q (inr here) there),
)

Among-append : (p : Pair) (ps qs : List Pair) → Among p (ps ++ qs) → Among p ps ⊎ Among p qs
Among-append p [] qs among = inr among
Among-append p (q ∷ ps) qs (inl same) = inl (inl same)
Among-append p (q ∷ ps) qs (inr among) = elim (Among-append p ps qs among) [ inl here ↦ inl (inr here) | inr there ↦ inr there ]

among_first : (p : Pair) (ps qs : List Pair) → Among p ps → Among p (ps ++ qs)
among_first p [] qs among = absurd among
among_first p (q ∷ ps) qs (inl same) = inl same
among_first p (q ∷ ps) qs (inr among) = inr (among_first p ps qs among)

among_second : (p : Pair) (ps qs : List Pair) → Among p qs → Among p (ps ++ qs)
among_second p [] qs among = among
among_second p (q ∷ ps) qs among = inr (among_second p ps qs among)

above : (a b : ℕ) → a ≤ b → (b == a) ≡ false → a + 1 ≤ b
above a b low other = grind (arith, nat_tests)

pair_is : (p : Pair) (i j : ℕ) → p.first ≡ i → p.second ≡ j → p ≡ record { first = i; second = j }
pair_is p i j first second = ap (λ a. record { first = a; second = p.second }) first ∙ ap (λ b. record { first = i; second = b }) second

-- a pair of a clock with one of the next so many clocks
record IsWith (groups : List Groups) (i j more : ℕ) (p : Pair) : Type 0 where
  first : p.first ≡ i
  low : j ≤ p.second
  high : p.second < j + more
  parted : is_parted groups p.first p.second ≡ true

with_later : (groups : List Groups) (i j more : ℕ) (p : Pair) → IsWith groups i (j + 1) more p → IsWith groups i j (suc more) p
with_later groups i j more p later = record { first = later.first; low = let a = later.low in omega arith; high = let a = later.high in omega arith; parted = later.parted }

with_here : (groups : List Groups) (i j more : ℕ) (p : Pair) → is_parted groups i j ≡ true → p ≡ record { first = i; second = j } → IsWith groups i j (suc more) p
with_here groups i j more p parted same =
    let first : p.first ≡ i = ap (λ (q : Pair). q.first) same in
    let second : p.second ≡ j = ap (λ (q : Pair). q.second) same in
    record { first = first; low = omega arith; high = omega arith; parted = rw (first, second) parted }

with_step : (groups : List Groups) (i j more : ℕ) (others : List Pair) (p : Pair) → (Among p others → IsWith groups i (j + 1) more p)
    → (t : Bool) → is_parted groups i j ≡ t → Among p (cond t (record { first = i; second = j } ∷ others) others) → IsWith groups i j (suc more) p
with_step groups i j more others p later true e (inl same) = with_here groups i j more p e same
with_step groups i j more others p later true e (inr among) = with_later groups i j more p (later among)
with_step groups i j more others p later false e among = with_later groups i j more p (later among)

with_sound : (groups : List Groups) (i j more : ℕ) (p : Pair) → Among p (pairs_with groups i j more) → IsWith groups i j more p
with_sound groups i j zero p among = absurd among
with_sound groups i j (suc more) p among =
    with_step groups i j more (pairs_with groups i (j + 1) more) p (with_sound groups i (j + 1) more p) (is_parted groups i j) refl among

with_rest : (groups : List Groups) (i j more : ℕ) (others : List Pair) (p : Pair) → Among p others
    → (t : Bool) → Among p (cond t (record { first = i; second = j } ∷ others) others)
with_rest groups i j more others p among true = inr among
with_rest groups i j more others p among false = among

with_first : (groups : List Groups) (i j : ℕ) (others : List Pair) (p : Pair) → p ≡ record { first = i; second = j }
    → (t : Bool) → t ≡ true → Among p (cond t (record { first = i; second = j } ∷ others) others)
with_first groups i j others p same true e = inl same
with_first groups i j others p same false e = cc

with_found : (groups : List Groups) (i j more : ℕ) (p : Pair) → (IsWith groups i (j + 1) more p → Among p (pairs_with groups i (j + 1) more))
    → IsWith groups i j (suc more) p → (t : Bool) → (p.second == j) ≡ t → Among p (pairs_with groups i j (suc more))
with_found groups i j more p later is true e =
    let second : p.second ≡ j = (Decides-eqb p.second j).0 e in
    let parted : is_parted groups i j ≡ true = rw (is.first, second) at is.parted in
    with_first groups i j (pairs_with groups i (j + 1) more) p (pair_is p i j is.first second) (is_parted groups i j) parted
with_found groups i j more p later is false e =
    let low = is.low in
    let high = is.high in
    let next : j + 1 ≤ p.second = above j p.second low e in
    with_rest groups i j more (pairs_with groups i (j + 1) more) p
    (later (record { first = is.first; low = next; high = omega arith; parted = is.parted })) (is_parted groups i j)

with_complete : (groups : List Groups) (i j more : ℕ) (p : Pair) → IsWith groups i j more p → Among p (pairs_with groups i j more)
with_complete groups i j zero p is = let low = is.low in let high = is.high in absurd (omega arith)
with_complete groups i j (suc more) p is = with_found groups i j more p (with_complete groups i (j + 1) more p) is (p.second == j) refl

before_next : (groups : List Groups) (i j more : ℕ) (q : Pair) → IsWith groups i (j + 1) more q → Before (record { first = i; second = j }) q
unfolding Before
before_next groups i j more q is = inr (sym is.first, let low = is.low in omega arith)

rising_step : (groups : List Groups) (i j more : ℕ) (others : List Pair) → Rising others → ((q : Pair) → Among q others → IsWith groups i (j + 1) more q)
    → (t : Bool) → Rising (cond t (record { first = i; second = j } ∷ others) others)
rising_step groups i j more others rising is true = (all_after (record { first = i; second = j }) others (λ q among. before_next groups i j more q (is q among)), rising)
rising_step groups i j more others rising is false = rising

rising_with : (groups : List Groups) (i j more : ℕ) → Rising (pairs_with groups i j more)
rising_with groups i j zero = tt
rising_with groups i j (suc more) =
    rising_step groups i j more (pairs_with groups i (j + 1) more) (rising_with groups i (j + 1) more) (with_sound groups i (j + 1) more) (is_parted groups i j)

-- a pair among so many clocks, from a place on
pub record IsFrom (groups : List Groups) (i more : ℕ) (p : Pair) : Type 0 where
  pub low : i ≤ p.first
  pub ordered : p.first < p.second
  pub high : p.second < i + more
  pub parted : is_parted groups p.first p.second ≡ true

from_with : (groups : List Groups) (i more : ℕ) (p : Pair) → IsWith groups i (i + 1) more p → IsFrom groups i (suc more) p
from_with groups i more p is =
    let first = is.first in
    let low = is.low in
    let high = is.high in
    record { low = omega arith; ordered = omega arith; high = omega arith; parted = is.parted }

from_later : (groups : List Groups) (i more : ℕ) (p : Pair) → IsFrom groups (i + 1) more p → IsFrom groups i (suc more) p
from_later groups i more p is =
    let low = is.low in
    let high = is.high in
    record { low = omega arith; ordered = is.ordered; high = omega arith; parted = is.parted }

pub from_sound : (groups : List Groups) (i more : ℕ) (p : Pair) → Among p (pairs_from groups i more) → IsFrom groups i more p
from_sound groups i zero p among = absurd among
from_sound groups i (suc more) p among =
    elim (Among-append p (pairs_with groups i (i + 1) more) (pairs_from groups (i + 1) more) among)
    [ inl here ↦ from_with groups i more p (with_sound groups i (i + 1) more p here) | inr there ↦ from_later groups i more p (from_sound groups (i + 1) more p there) ]

from_found : (groups : List Groups) (i more : ℕ) (p : Pair) → (IsFrom groups (i + 1) more p → Among p (pairs_from groups (i + 1) more))
    → IsFrom groups i (suc more) p → (t : Bool) → (p.first == i) ≡ t → Among p (pairs_from groups i (suc more))
from_found groups i more p later is true e =
    let first : p.first ≡ i = (Decides-eqb p.first i).0 e in
    let ordered = is.ordered in
    let high = is.high in
    among_first p (pairs_with groups i (i + 1) more) (pairs_from groups (i + 1) more)
    (with_complete groups i (i + 1) more p (record { first = first; low = omega arith; high = omega arith; parted = is.parted }))
from_found groups i more p later is false e =
    let low = is.low in
    let high = is.high in
    let next : i + 1 ≤ p.first = above i p.first low e in
    among_second p (pairs_with groups i (i + 1) more) (pairs_from groups (i + 1) more)
    (later (record { low = next; ordered = is.ordered; high = omega arith; parted = is.parted }))

pub from_complete : (groups : List Groups) (i more : ℕ) (p : Pair) → IsFrom groups i more p → Among p (pairs_from groups i more)
from_complete groups i zero p is = let low = is.low in let ordered = is.ordered in let high = is.high in absurd (omega arith)
from_complete groups i (suc more) p is = from_found groups i more p (from_complete groups (i + 1) more p) is (p.first == i) refl

before_later : (groups : List Groups) (i more : ℕ) (p q : Pair) → IsWith groups i (i + 1) more p → IsFrom groups (i + 1) more q → Before p q
unfolding Before
before_later groups i more p q here there = inl (let first = here.first in let low = there.low in omega arith)

pub rising_from : (groups : List Groups) (i more : ℕ) → Rising (pairs_from groups i more)
rising_from groups i zero = tt
rising_from groups i (suc more) =
    Rising-append (pairs_with groups i (i + 1) more) (pairs_from groups (i + 1) more) (rising_with groups i (i + 1) more) (rising_from groups (i + 1) more)
    (λ p q here there. before_later groups i more p q (with_sound groups i (i + 1) more p here) (from_sound groups (i + 1) more q there))
