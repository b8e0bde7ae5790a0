-- What drives a net, as the table of sources has it.
use Rattle.std.proofs.Common.{◌≡◌, ◌+◌, ◌-◌, ◌<◌, ◌≤◌, get_or, inl, inr, ℕ, zero, suc, Bool, true, false, cond, List, [], ◌∷◌, ◌++◌, filter, length, map, nat_eq, nat_lt, set, slice_get, take, Some, None, refl, sym, ◌∙◌, ap, subst, arith}
use Rattle.std.proofs.lemmas.Bool.{true≢false, cases_eq, eq-eqb, ne_eqb}
use Rattle.std.proofs.lemmas.Bool.Decides.{nat_tests}
use Rattle.std.proofs.lemmas.List.{length-append}
use Rattle.std.proofs.lemmas.List.Elements.{All-weaker}
use Rattle.std.proofs.lemmas.Option.{get_or_from_slice_get, slice_get_read, slice_get_within}
use Rattle.std.specs.List.{Contains}
use Rattle.flat_design.specs.declared.drivers.driver_edges.DriverEdge.{DriverEdge}
use Rattle.flat_design.specs.declared.drivers.driver_edges.Driver.{Driver}
use Rattle.flat_design.specs.declared.drivers.driver_edges.Driver.TheVariants as driver
use Rattle.flat_design.specs.Sources.{AreWithin, IsDriverWithin, IsRowWithin, LeadsTo, driven_by, has_two}
use Rattle.flat_design.specs.SourceTable.{AreNetRows, IsLast, IsNetRow, IsNetWithin}
use Rattle.flat_design.proofs.PlaceFacts.{get_push}

-- ---- rows within nets and pins

net_within : (nets pins : ℕ) (from : Driver) → IsDriverWithin nets pins from → IsNetWithin nets from
net_within nets pins (driver.Net net) is = is
net_within nets pins (driver.Value value) is = tt
net_within nets pins (driver.Pin pin) is = tt

pub nets_within : (nets pins : ℕ) (rows : List DriverEdge) → AreWithin nets pins rows → AreNetRows nets rows
nets_within nets pins rows all = All-weaker (IsRowWithin nets pins) (IsNetRow nets) (λ row is. (is.0, net_within nets pins row.from is.1)) rows all

-- ---- what drives a net, row by row

put_map : (b : Bool) (r : DriverEdge) (kept : List DriverEdge)
    → map (λ (row : DriverEdge). row.from) (cond b (r ∷ kept) kept)
    ≡ cond b (r.from ∷ map (λ (row : DriverEdge). row.from) kept) (map (λ (row : DriverEdge). row.from) kept)
put_map true r kept = refl
put_map false r kept = refl

pub driven_cons : (r : DriverEdge) (rows : List DriverEdge) (net : ℕ) → driven_by (r ∷ rows) net ≡ cond (nat_eq r.to net) (r.from ∷ driven_by rows net) (driven_by rows net)
driven_cons r rows net = put_map (nat_eq r.to net) r (filter (λ (row : DriverEdge). nat_eq row.to net) rows)

put_last : (b : Bool) (f x : Driver) (fs : List Driver) → cond b (f ∷ (fs ++ x ∷ [])) (fs ++ x ∷ []) ≡ cond b (f ∷ fs) fs ++ x ∷ []
put_last true f x fs = refl
put_last false f x fs = refl

driven_first : (r : DriverEdge) (net : ℕ) (b : Bool) → nat_eq r.to net ≡ b → driven_by (r ∷ []) net ≡ cond b (r.from ∷ []) []
driven_first r net b is = driven_cons r [] net ∙ ap (λ (x : Bool). cond x (r.from ∷ []) []) is

-- an edge to another net adds nothing
driven_skip : (rows : List DriverEdge) (place net : ℕ) (row : DriverEdge) → slice_get rows place ≡ Some row → (row.to ≡ net → ⊥)
    → driven_by (take (suc place) rows) net ≡ driven_by (take place rows) net
driven_skip [] place net row is distinct = let bad : None ≡ Some row = is in cc
driven_skip (r ∷ rows) zero net row is distinct =
    let e : Some r ≡ Some row = is in
    let same : r ≡ row = cc in
    driven_first r net false (ap (λ (x : DriverEdge). nat_eq x.to net) same ∙ ne_eqb row.to net distinct)
driven_skip (r ∷ rows) (suc place) net row is distinct =
    driven_cons r (take (suc place) rows) net
    ∙ (ap (λ (fs : List Driver). cond (nat_eq r.to net) (r.from ∷ fs) fs) (driven_skip rows place net row is distinct)
    ∙ sym (driven_cons r (take place rows) net))

-- an edge to the net adds its driver
driven_one : (rows : List DriverEdge) (place net : ℕ) (row : DriverEdge) → slice_get rows place ≡ Some row → row.to ≡ net
    → driven_by (take (suc place) rows) net ≡ driven_by (take place rows) net ++ row.from ∷ []
driven_one [] place net row is to = let bad : None ≡ Some row = is in cc
driven_one (r ∷ rows) zero net row is to =
    let e : Some r ≡ Some row = is in
    let same : r ≡ row = cc in
    driven_first r net true (ap (λ (x : DriverEdge). nat_eq x.to net) same ∙ eq-eqb row.to net to) ∙ ap (λ (x : DriverEdge). x.from ∷ []) same
driven_one (r ∷ rows) (suc place) net row is to =
    driven_cons r (take (suc place) rows) net
    ∙ (ap (λ (fs : List Driver). cond (nat_eq r.to net) (r.from ∷ fs) fs) (driven_one rows place net row is to)
    ∙ (put_last (nat_eq r.to net) r.from row.from (driven_by (take place rows) net)
    ∙ ap (λ (fs : List Driver). fs ++ row.from ∷ []) (sym (driven_cons r (take place rows) net))))

take_whole : (rows : List DriverEdge) → take (length rows) rows ≡ rows
take_whole [] = refl
take_whole (r ∷ rows) = ap (λ (rs : List DriverEdge). r ∷ rs) (take_whole rows)

-- ---- the last row of a net

pub last_whole : (rows : List DriverEdge) (net last : ℕ) → IsLast rows net (length rows) last → driven_by rows net ≡ driven_by (take last rows) net
last_whole rows net last is = ap (λ (rs : List DriverEdge). driven_by rs net) (sym (take_whole rows)) ∙ is.whole

-- what is driven by the rows up to the last one, with that row
pub last_some : (rows : List DriverEdge) (net count place : ℕ) (row : DriverEdge) → IsLast rows net count (suc place) → slice_get rows place ≡ Some row
    → (row.to ≡ net) × (driven_by (take (suc place) rows) net ≡ driven_by (take place rows) net ++ row.from ∷ [])
last_some rows net count place row is here =
    let e : Some is.drivers.0 ≡ Some row = sym is.drivers.1 ∙ here in
    let same : is.drivers.0 ≡ row = cc in
    let to : row.to ≡ net = ap (λ (x : DriverEdge). x.to) (sym same) ∙ is.drivers.2 in
    (to, driven_one rows place net row here to)

set_same : (xs : List ℕ) (i v : ℕ) → i < length xs → slice_get (set xs i v) i ≡ Some v
set_same [] i v h = absurd (omega arith)
set_same (x ∷ xs) zero v h = refl
set_same (x ∷ xs) (suc i) v h = set_same xs i v (omega arith)

set_other : (xs : List ℕ) (i j v : ℕ) → (i ≡ j → ⊥) → slice_get (set xs i v) j ≡ slice_get xs j
set_other [] i j v distinct = refl
set_other (x ∷ xs) zero zero v distinct = absurd (distinct refl)
set_other (x ∷ xs) zero (suc j) v distinct = refl
set_other (x ∷ xs) (suc i) zero v distinct = refl
set_other (x ∷ xs) (suc i) (suc j) v distinct = set_other xs i j v (λ e. distinct (ap suc e))

-- one more row
pub lasts_more : (rows : List DriverEdge) (last : List ℕ) (place n : ℕ) (row : DriverEdge) → n ≡ suc place → slice_get rows place ≡ Some row → row.to < length last
    → ((net at : ℕ) → slice_get last net ≡ Some at → IsLast rows net place at)
    → (net at : ℕ) → slice_get (set last row.to n) net ≡ Some at → IsLast rows net n at
lasts_more rows last place n row one is inside before net at there =
    elim (cases_eq row.to net) [
      | inl to ↦
          let e : Some n ≡ Some at = sym (set_same last row.to n inside) ∙ (ap (slice_get (set last row.to n)) to ∙ there) in
          let same : suc place ≡ at = cc in
          subst (IsLast rows net n) same (record {
            within = omega arith;
            drivers = (row, is, to);
            whole = ap (λ (k : ℕ). driven_by (take k rows) net) one;
          })
      | inr distinct ↦
          let old : IsLast rows net place at = before net at (sym (set_other last row.to net n distinct) ∙ there) in
          record {
            within = omega (arith, old.within);
            drivers = old.drivers;
            whole = ap (λ (k : ℕ). driven_by (take k rows) net) one ∙ (driven_skip rows place net row is distinct ∙ old.whole);
          }
    ]

pub before_more : (rows : List DriverEdge) (earlier : List ℕ) (count last : ℕ) (row : DriverEdge) → length earlier ≡ count → slice_get rows count ≡ Some row
    → IsLast rows row.to count last
    → ((place at : ℕ) (r : DriverEdge) → slice_get rows place ≡ Some r → slice_get earlier place ≡ Some at → IsLast rows r.to place at)
    → (place at : ℕ) (r : DriverEdge) → slice_get rows place ≡ Some r → slice_get (earlier ++ last ∷ []) place ≡ Some at → IsLast rows r.to place at
before_more rows earlier count last row size is own before place at r here there =
    elim (get_push earlier last place at there) [
      | inl old ↦ before place at r here old
      | inr new ↦
          let k : count ≡ place = omega (arith, size, new.0) in
          let e : Some row ≡ Some r = sym is ∙ (ap (slice_get rows) k ∙ here) in
          let same : row ≡ r = cc in
          subst (λ (x : DriverEdge). IsLast rows x.to place at) same (subst (IsLast rows row.to place) new.1 (subst (λ (n : ℕ). IsLast rows row.to n last) k own))
    ]

-- ---- two sources, or one

some_true : (n : ℕ) → 0 < n → nat_lt 0 n ≡ true
some_true n some = grind (arith, nat_tests)

one_or_two : (before : List Driver) (f : Driver) → nat_lt 1 (length (before ++ f ∷ [])) ≡ nat_lt 0 (length before)
one_or_two [] f = refl
one_or_two (b ∷ before) f = let e : length (before ++ f ∷ []) ≡ length before + 1 = length-append before (f ∷ []) in grind (arith, nat_tests)

two_none : (rows : List DriverEdge) (net : ℕ) → IsLast rows net (length rows) 0 → driven_by rows net ≡ []
two_none rows net is = last_whole rows net 0 is

alone : (before : List Driver) (f : Driver) → nat_lt 1 (length (before ++ f ∷ [])) ≡ false → before ++ f ∷ [] ≡ f ∷ []
alone [] f is = refl
alone (b ∷ before) f is =
    absurd (true≢false (sym (some_true (length (b ∷ before)) (omega arith)) ∙ (sym (one_or_two (b ∷ before) f) ∙ is)))

one_source : (rows : List DriverEdge) (net place : ℕ) (row : DriverEdge) → IsLast rows net (length rows) (suc place) → slice_get rows place ≡ Some row
    → has_two rows net ≡ false → driven_by rows net ≡ row.from ∷ []
one_source rows net place row is here one =
    let s = last_some rows net (length rows) place row is here in
    let all : driven_by rows net ≡ driven_by (take place rows) net ++ row.from ∷ [] = last_whole rows net (suc place) is ∙ s.1 in
    all ∙ alone (driven_by (take place rows) net) row.from (ap (λ (fs : List Driver). nat_lt 1 (length fs)) (sym all) ∙ one)

more_than_none : (fs before : List Driver) (f : Driver) (at : ℕ) → fs ≡ before ++ f ∷ [] → nat_lt 0 (length fs) ≡ nat_lt 0 (suc at)
more_than_none fs before f at is =
    let e : length fs ≡ length before + 1 = ap length is ∙ length-append before (f ∷ []) in
    grind (arith, nat_tests)

some_before : (rows : List DriverEdge) (net place before : ℕ) → IsLast rows net place before → nat_lt 0 (length (driven_by (take before rows) net)) ≡ nat_lt 0 before
some_before rows net place zero own = refl
some_before rows net place (suc at) own =
    let s = last_some rows net place at own.drivers.0 own own.drivers.1 in
    more_than_none (driven_by (take (suc at) rows) net) (driven_by (take at rows) net) own.drivers.0.from at s.1

two_sources : (rows : List DriverEdge) (net place before : ℕ) (row : DriverEdge) → IsLast rows net (length rows) (suc place) → slice_get rows place ≡ Some row
    → IsLast rows row.to place before → has_two rows net ≡ nat_lt 0 before
two_sources rows net place before row is here own =
    let s = last_some rows net (length rows) place row is here in
    let all : driven_by rows net ≡ driven_by (take place rows) net ++ row.from ∷ [] = last_whole rows net (suc place) is ∙ s.1 in
    let mine : IsLast rows net place before = subst (λ (n : ℕ). IsLast rows n place before) s.0 own in
    ap (λ (fs : List Driver). nat_lt 1 (length fs)) all
    ∙ (one_or_two (driven_by (take place rows) net) row.from
    ∙ (ap (λ (fs : List Driver). nat_lt 0 (length fs)) mine.whole ∙ some_before rows net place before mine))

-- ---- ways along sources

-- a way that goes on to a source of its end
pub leads_more : (rows : List DriverEdge) (net : ℕ) (nets : List ℕ) (from end : ℕ) → LeadsTo rows net nets from → Contains (driven_by rows from) (driver.Net end)
    → LeadsTo rows net (nets ++ from ∷ []) end
leads_more rows net [] from end leads last = (leads, last)
leads_more rows net (n ∷ nets) from end leads last = (leads.0, leads_more rows n nets from end leads.1 last)

-- ---- for the code

pub within_at : (rows : List DriverEdge) (nets place : ℕ) (row : DriverEdge) → AreNetRows nets rows → slice_get rows place ≡ Some row → row.to < nets
within_at rows nets place row all is =
    let own = subst (IsNetRow nets) (get_or_from_slice_get rows place row row is) (all place row (slice_get_within rows place row is)) in
    own.0

pub from_at : (rows : List DriverEdge) (nets place : ℕ) (row : DriverEdge) → AreNetRows nets rows → slice_get rows place ≡ Some row → IsNetWithin nets row.from
from_at rows nets place row all is =
    let own = subst (IsNetRow nets) (get_or_from_slice_get rows place row row is) (all place row (slice_get_within rows place row is)) in
    own.1

pub own_last : (rows : List DriverEdge) (last : List ℕ) (net place at : ℕ) → net < length last → at ≡ get_or last net at
    → ((n k : ℕ) → slice_get last n ≡ Some k → IsLast rows n place k) → IsLast rows net place at
own_last rows last net place at inside is all = all net at (slice_get_read last (length last) net at refl inside is)

-- the row that is counted so, as code reads it
pub row_inside : (rows : List DriverEdge) (net at : ℕ) → IsLast rows net (length rows) at → 0 < at → at - 1 < length rows
row_inside rows net at is some = omega (arith, is.within)

pub counted : (at : ℕ) → 0 < at → at ≡ suc (at - 1)
counted at some = omega arith

pub two_of : (rows : List DriverEdge) (net at before : ℕ) → IsLast rows net (length rows) at → 0 < at
    → ((row : DriverEdge) → slice_get rows (at - 1) ≡ Some row → IsLast rows row.to (at - 1) before) → nat_lt 0 before ≡ has_two rows net
two_of rows net at before is some own =
    let here : IsLast rows net (length rows) (suc (at - 1)) = subst (IsLast rows net (length rows)) (counted at some) is in
    sym (two_sources rows net (at - 1) before here.drivers.0 here here.drivers.1 (own here.drivers.0 here.drivers.1))

pub two_not : (rows : List DriverEdge) (net at : ℕ) → IsLast rows net (length rows) at → at ≤ 0 → nat_lt 0 at ≡ has_two rows net
two_not rows net zero is none = ap (λ (fs : List Driver). nat_lt 1 (length fs)) (sym (two_none rows net is))
two_not rows net (suc at) is none = absurd (omega arith)

pub one_of : (rows : List DriverEdge) (net at : ℕ) (row : DriverEdge) → IsLast rows net (length rows) at → 0 < at → slice_get rows (at - 1) ≡ Some row
    → has_two rows net ≡ false → driven_by rows net ≡ row.from ∷ []
one_of rows net at row is some there =
    one_source rows net (at - 1) row (subst (IsLast rows net (length rows)) (counted at some) is) there

pub none_of : (rows : List DriverEdge) (net at : ℕ) → IsLast rows net (length rows) at → at ≤ 0 → driven_by rows net ≡ []
none_of rows net zero is none = two_none rows net is
none_of rows net (suc at) is none = absurd (omega arith)

pub same_at : (xs ys : List ℕ) (place at : ℕ) → xs ≡ ys → slice_get xs place ≡ Some at → slice_get ys place ≡ Some at
same_at xs ys place at same is = ap (λ (zs : List ℕ). slice_get zs place) (sym same) ∙ is
