-- The groups and attributes of a library's text have rising numbers, and so have its cells.
use Rattle.std.proofs.Common.{◌≡◌, ◌+◌, ◌<◌, ◌≤◌, ℕ, zero, suc, Bool, true, false, List, [], ◌∷◌, ◌++◌, Some, refl, sym, subst, arith, slice_get}
use Rattle.std.specs.Prelude.{◌==◌, codes, nat_lt, if◌then◌else◌}
use Rattle.std.specs.List.{filter, flat_map}
use Rattle.std.proofs.lemmas.Bool.{eqb-false, eqb-true, ltb-false, ltb-true}
use Rattle.std.proofs.lemmas.Option.{none-some, same_Some}
use Rattle.sdc_base.proofs.CaseFacts.{by_bool}
use Rattle.library_model.specs.LibertyFaults.{cells_of}
use Rattle.library_model.specs.LibertyStatements.{Member, Place, Statement, begins, cut, first_place, groups, is_group, members, place_after, statements_of, within}
use Rattle.library_model.specs.LibertyTokens.{Token}

-- ---- lists of rising numbers

-- the numbers of things rise, from a number on and below another
abbrev pub Rises : {A : Type 0} → (A → ℕ) → ℕ → ℕ → List A → Type 0
Rises number low high [] = low ≤ high
Rises number low high (x ∷ xs) = (low ≤ number x) × Rises number (number x + 1) high xs

lower : {A : Type 0} (number : A → ℕ) (low other high : ℕ) (xs : List A) → other ≤ low → Rises number low high xs → Rises number other high xs
lower number low other high [] below h = omega (arith, below, h)
lower number low other high (x ∷ xs) below h = (omega (arith, below, h.0), h.1)

joined : {A : Type 0} (number : A → ℕ) (low mid high : ℕ) (xs ys : List A) → Rises number low mid xs → Rises number mid high ys → Rises number low high (xs ++ ys)
joined number low mid high [] ys h k = lower number mid low high ys h k
joined number low mid high (x ∷ xs) ys h k = (h.0, joined number (number x + 1) mid high xs ys h.1 k)

kept : {A : Type 0} (number : A → ℕ) (test : A → Bool) (low high : ℕ) (xs : List A) → Rises number low high xs → Rises number low high (filter test xs)
kept number test low high [] h = h
kept number test low high (x ∷ xs) h =
    by_bool (λ b. Rises number low high (if b then x ∷ filter test xs else filter test xs)) (test x)
    (λ is. (h.0, kept number test (number x + 1) high xs h.1))
    (λ is. lower number (number x + 1) low high (filter test xs) (omega (arith, h.0)) (kept number test (number x + 1) high xs h.1))

at_least : {A : Type 0} (number : A → ℕ) (low high : ℕ) (xs : List A) (i : ℕ) (x : A) → Rises number low high xs → slice_get xs i ≡ Some x → low ≤ number x
at_least number low high [] i x h is = absurd (none-some x is)
at_least number low high (y ∷ ys) zero x h is = subst (λ z. low ≤ number z) (same_Some y x is) h.0
at_least number low high (y ∷ ys) (suc i) x h is =
    let more = at_least number (number y + 1) high ys i x h.1 is in omega (arith, more, h.0)

-- what stands earlier has the lower number
pub in_order : {A : Type 0} (number : A → ℕ) (low high : ℕ) (xs : List A) (i j : ℕ) (x y : A) → Rises number low high xs → i < j → slice_get xs i ≡ Some x → slice_get xs j ≡ Some y → number x < number y
in_order number low high [] i j x y h less is are = absurd (none-some x is)
in_order number low high (z ∷ zs) i zero x y h less is are = absurd (omega (arith, less))
in_order number low high (z ∷ zs) zero (suc j) x y h less is are =
    let more = at_least number (number z + 1) high zs j y h.1 are in
    subst (λ w. number w < number y) (same_Some z x is) (omega (arith, more))
in_order number low high (z ∷ zs) (suc i) (suc j) x y h less is are = in_order number (number z + 1) high zs i j x y h.1 (omega (arith, less)) is are

-- ---- statements

abbrev number_of : Statement → ℕ
number_of s = s.number

abbrev pub member_number : Member → ℕ
member_number m = m.statement.number

-- a token and what is cut after it: a statement, or more of the one before
abbrev pub cut_if : Bool → Statement → Token → List Token × List Statement → List Token × List Statement
cut_if b s t after = if b then ([], s ∷ after.1) else (t ∷ after.0, after.1)

cut_once : (b : Bool) (low high : ℕ) (s : Statement) (t : Token) (after : List Token × List Statement) → s.number ≡ low → Rises number_of (if b then low + 1 else low) high after.1
    → Rises number_of low high (cut_if b s t after).1
cut_once true low high s t after is h = (omega (arith, is), subst (λ n. Rises number_of (n + 1) high after.1) (sym is) h)
cut_once false low high s t after is h = h

cut_rises : (place : Place) (tokens : List Token) → (high : ℕ) × Rises number_of place.number high (cut place tokens).1
cut_rises place [] = (place.number, omega arith)
cut_rises place (t ∷ ts) =
    let more = cut_rises (place_after place t) ts in
    let s : Statement = record { level = place.level; number = place.number; name = t; rest = (cut (place_after place t) ts).0 } in
    (more.0, cut_once (begins place t) place.number more.0 s t (cut (place_after place t) ts) refl more.1)

-- ---- what stands in groups

members_rise : (level low high : ℕ) (ss : List Statement) → Rises number_of low high ss → Rises member_number low high (members level ss)
members_rise level low high [] h = h
members_rise level low high (s ∷ ss) h =
    let rest = members_rise level (s.number + 1) high ss h.1 in
    by_bool (λ b. Rises member_number low high (if b then record { statement = s; inside = within level ss } ∷ members level ss else members level ss)) (s.level == level)
    (λ is. (h.0, rest))
    (λ is. lower member_number (s.number + 1) low high (members level ss) (omega (arith, h.0)) rest)

-- the cells of a library
abbrev pub cells_in : Member → List Member
cells_in library = groups (codes "cell") (members 1 library.inside)

-- of statements: those in a library that they go on, and after them the cells of the libraries that they begin
record Halves (low high : ℕ) (inner : List Statement) (cells : List Member) : Type 0 where
  mid : ℕ
  front : Rises number_of low mid inner
  back : Rises member_number mid high cells

in_halves : (low high : ℕ) (ss : List Statement) → Rises number_of low high ss → Halves low high (within 0 ss) (flat_map cells_in (members 0 ss))
in_halves low high [] h = record { mid = low; front = omega arith; back = h }
in_halves low high (s ∷ ss) h =
    let more = in_halves (s.number + 1) high ss h.1 in
    let library : Member = record { statement = s; inside = within 0 ss } in
    let cells = kept member_number (λ (m : Member). is_group (codes "cell") m.statement) (s.number + 1) more.mid (members 1 (within 0 ss)) (members_rise 1 (s.number + 1) more.mid (within 0 ss) more.front) in
    by_bool (λ b. Halves low high (if nat_lt 0 s.level then s ∷ within 0 ss else []) (flat_map cells_in (if b then library ∷ members 0 ss else members 0 ss))) (s.level == 0)
    (λ begun. by_bool (λ c. Halves low high (if c then s ∷ within 0 ss else []) (cells_in library ++ flat_map cells_in (members 0 ss))) (nat_lt 0 s.level)
    (λ inner. absurd (omega (arith, eqb-true s.level 0 begun, ltb-true 0 s.level inner)))
    (λ outer. record {
      mid = low;
      front = omega arith;
      back = joined member_number low more.mid high (cells_in library) (flat_map cells_in (members 0 ss)) (lower member_number (s.number + 1) low more.mid (cells_in library) (omega (arith, h.0)) cells) more.back;
    }))
    (λ other. by_bool (λ c. Halves low high (if c then s ∷ within 0 ss else []) (flat_map cells_in (members 0 ss))) (nat_lt 0 s.level)
    (λ inner. record { mid = more.mid; front = (h.0, more.front); back = more.back })
    (λ outer. absurd (eqb-false s.level 0 other (omega (arith, ltb-false 0 s.level outer)))))

-- the cells of a text
pub cells_rise : (tokens : List Token) → (low : ℕ) × (high : ℕ) × Rises member_number low high (cells_of (statements_of tokens))
cells_rise tokens =
    let all = cut_rises first_place tokens in
    let halves = in_halves 0 all.0 (statements_of tokens) all.1 in (halves.mid, all.0, halves.back)
