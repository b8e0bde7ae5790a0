-- What a search along sources has reached, and what that tells.
use Rattle.std.proofs.Common.{◌≡◌, ◌+◌, ◌-◌, ◌<◌, ◌≤◌, ◌||◌, ◌&&◌, ◌==◌, inl, inr, ℕ, zero, suc, Bool, true, false, not, cond, List, [], ◌∷◌, ◌++◌, get_or, length, set, slice_get, take, Some, refl, sym, ◌∙◌, ap, subst, arith}
use Rattle.std.proofs.Math.Bool.{or-false}
use Rattle.std.proofs.lemmas.Bool.{false≢true, true≢false, cases_eq, or_cases, or_left, or_right, eq-eqb, eqb-true, ne_eqb}
use Rattle.std.proofs.lemmas.List.{get_or-set_other, get_or-set_same, length-append, length-set}
use Rattle.std.proofs.lemmas.List.Folds.{list_any-append}
use Rattle.std.proofs.lemmas.List.Sums.{sum_by-set}
use Rattle.std.specs.List.{Contains, count_by, list_any}
use Rattle.flat_design.specs.declared.drivers.driver_edges.DriverEdge.{DriverEdge}
use Rattle.flat_design.specs.declared.drivers.driver_edges.Driver.{Driver}
use Rattle.flat_design.specs.declared.drivers.driver_edges.Driver.TheVariants as driver
use Rattle.flat_design.specs.declared.drivers.returning.Search.{Search}
use Rattle.flat_design.specs.Sources.{driven_by}
use Rattle.flat_design.specs.SourceTable.{IsLast, IsRowOf}
use Rattle.flat_design.specs.Searches.{ReachesMore, has_net, is_left, is_net, is_reached, to_search}
use Rattle.flat_design.proofs.SourceFacts.{counted, last_some, last_whole}

-- ---- truth values

-- what one more step gives stands in front of what is left
or_passed : (r x h : Bool) → ((r || x) || h) ≡ (r || (h || x))
or_passed true x h = refl
or_passed false true true = refl
or_passed false true false = refl
or_passed false false true = refl
or_passed false false false = refl

stays : (l r : Bool) → l ≡ (l || (r && not r))
stays true r = refl
stays false true = refl
stays false false = refl

grows : (l old r x : Bool) → (old ≡ true → r ≡ true)
    → ((l || (r && not old)) || ((r || x) && not r)) ≡ (l || ((r || x) && not old))
grows true old r x kept = refl
grows false true true x kept = refl
grows false true false x kept = absurd (false≢true (kept refl))
grows false false true x kept = refl
grows false false false true kept = refl
grows false false false false kept = refl

-- whether one more of a list passes a test
pub any_push : {X : Type 0} (test : X → Bool) (xs : List X) (x : X) → list_any test (xs ++ x ∷ []) ≡ (list_any test xs || test x)
any_push test xs x = list_any-append test xs (x ∷ []) ∙ ap (λ (b : Bool). list_any test xs || b) (or-false (test x))

-- ---- nets among sources

net_is : (net : ℕ) (source : Driver) → is_net net source ≡ true → source ≡ driver.Net net
net_is net (driver.Net other) is = ap (λ (n : ℕ). driver.Net n) (eqb-true other net is)
net_is net (driver.Value value) is = absurd (false≢true is)
net_is net (driver.Pin pin) is = absurd (false≢true is)

pub has_contains : (sources : List Driver) (net : ℕ) → has_net sources net ≡ true → Contains sources (driver.Net net)
has_contains [] net is = absurd (false≢true is)
has_contains (source ∷ sources) net is =
    elim (or_cases (is_net net source) (has_net sources net) is) [
      | inl here ↦ (0, omega arith, net_is net source here)
      | inr later ↦ let r = has_contains sources net later in (suc r.0, omega (arith, r.1), r.2)
    ]

has_at : (sources : List Driver) (net k : ℕ) → k < length sources → get_or sources k (driver.Net net) ≡ driver.Net net → has_net sources net ≡ true
has_at [] net k inside is = absurd (omega arith)
has_at (source ∷ sources) net zero inside is =
    or_left (is_net net source) (has_net sources net) (ap (is_net net) is ∙ eq-eqb net net refl)
has_at (source ∷ sources) net (suc k) inside is =
    or_right (is_net net source) (has_net sources net) (has_at sources net k (omega arith) is)

pub contains_has : (sources : List Driver) (net : ℕ) → Contains sources (driver.Net net) → has_net sources net ≡ true
contains_has sources net there = has_at sources net there.0 there.1 there.2

-- ---- reaching nets

reached_set : (marks : List Bool) (net other : ℕ) → net < length marks
    → get_or (set marks net true) other false ≡ (get_or marks other false || (net == other))
reached_set marks net other inside =
    elim (cases_eq net other) [
      | inl same ↦
          subst (λ (n : ℕ). get_or (set marks net true) n false ≡ true) same (get_or-set_same marks net true false inside)
          ∙ sym (or_right (get_or marks other false) (net == other) (eq-eqb net other same))
      | inr distinct ↦
          get_or-set_other marks net other true false (λ e. distinct (sym e))
          ∙ (sym (or-false (get_or marks other false)) ∙ ap (λ (b : Bool). get_or marks other false || b) (sym (ne_eqb net other distinct)))
    ]

unreached_set : (marks : List Bool) (net : ℕ) → net < length marks → get_or marks net false ≡ false
    → count_by not (set marks net true) + 1 ≡ count_by not marks
unreached_set marks net inside fresh =
    let sums = sum_by-set (λ (mark : Bool). cond (not mark) 1 0) marks net true false inside in
    let one : ◌≡◌ {A = ℕ} (cond (not (get_or marks net false)) 1 0) 1 = ap (λ (mark : Bool). cond (not mark) 1 0) fresh in
    omega (arith, sums, one)

-- a net that is left is one that is newly reached
left_new : (l old x : Bool) → (x ≡ true → old ≡ false) → (l || x) ≡ (l || ((old || x) && not old))
left_new true old x new = refl
left_new false true true new = absurd (true≢false (new refl))
left_new false true false new = refl
left_new false false true new = refl
left_new false false false new = refl

pub reach_new : (old new : Search) (net : ℕ) → new.reached.items ≡ set old.reached.items net true
    → new.left.items ≡ old.left.items ++ net ∷ [] → net < length old.reached.items → is_reached old net ≡ false
    → ReachesMore (λ (other : ℕ). net == other) old new
reach_new old new net marks left inside fresh =
    let reached : (other : ℕ) → is_reached new other ≡ (is_reached old other || (net == other)) =
    λ other. ap (λ (xs : List Bool). get_or xs other false) marks ∙ reached_set old.reached.items net other inside in
    record {
      count = ap length marks ∙ length-set old.reached.items net true;
      reached = reached;
      left = λ other.
          ap (λ (xs : List ℕ). list_any (λ (one : ℕ). one == other) xs) left
          ∙ (any_push (λ (one : ℕ). one == other) old.left.items net
          ∙ (left_new (is_left old other) (is_reached old other) (net == other)
          (λ same. ap (is_reached old) (sym (eqb-true net other same)) ∙ fresh)
          ∙ ap (λ (r : Bool). is_left old other || (r && not (is_reached old other))) (sym (reached other))));
      weight =
          let fewer = unreached_set old.reached.items net inside fresh in
          let a : count_by not new.reached.items ≡ count_by not (set old.reached.items net true) = ap (count_by not) marks in
          let b : length new.left.items ≡ length old.left.items + 1 = ap length left ∙ length-append old.left.items (net ∷ []) in
          omega (arith, fewer, a, b);
    }

-- ---- reaching the sources of a net, from its last row back

pub record Reaching (rows : List DriverEdge) (net wanted last : ℕ) (found : Bool) (old now : Search) : Type 0 where
  pub within : last ≤ length rows
  pub drivers : IsRowOf rows net last
  pub wanted_too : (found || has_net (driven_by (take last rows) net) wanted) ≡ has_net (driven_by rows net) wanted
  pub count : length now.reached.items ≡ length old.reached.items
  pub kept : (m : ℕ) → is_reached old m ≡ true → is_reached now m ≡ true
  pub reached : (m : ℕ) → (is_reached now m || has_net (driven_by (take last rows) net) m) ≡ (is_reached old m || has_net (driven_by rows net) m)
  pub left : (m : ℕ) → is_left now m ≡ (is_left old m || (is_reached now m && not (is_reached old m)))
  pub weight : to_search now ≡ to_search old

pub reaching_start : (rows : List DriverEdge) (net wanted last : ℕ) (old : Search) → IsLast rows net (length rows) last
    → Reaching rows net wanted last false old old
reaching_start rows net wanted last old is =
    let all : driven_by (take last rows) net ≡ driven_by rows net = sym (last_whole rows net last is) in
    record {
      within = is.within;
      drivers = is.drivers;
      wanted_too = ap (λ (fs : List Driver). has_net fs wanted) all;
      count = refl;
      kept = λ m h. h;
      reached = λ m. ap (λ (fs : List Driver). is_reached old m || has_net fs m) all;
      left = λ m. stays (is_left old m) (is_reached old m);
      weight = refl;
    }

reaching_more : (rows : List DriverEdge) (net wanted place at : ℕ) (row : DriverEdge) (found : Bool) (old now new : Search)
    → Reaching rows net wanted (suc place) found old now → slice_get rows place ≡ Some row → IsLast rows row.to place at
    → ReachesMore (λ (m : ℕ). is_net m row.from) now new
    → Reaching rows net wanted at (found || is_net wanted row.from) old new
reaching_more rows net wanted place at row found old now new so is own more =
    let e : Some so.drivers.0 ≡ Some row = sym so.drivers.1 ∙ is in
    let same : so.drivers.0 ≡ row = cc in
    let to : row.to ≡ net = ap (λ (x : DriverEdge). x.to) (sym same) ∙ so.drivers.2 in
    let before : IsLast rows net place at = subst (λ (n : ℕ). IsLast rows n place at) to own in
    let here : IsLast rows net (suc place) (suc place) = record { within = omega arith; drivers = so.drivers; whole = refl } in
    let split : driven_by (take (suc place) rows) net ≡ driven_by (take at rows) net ++ row.from ∷ [] =
    (last_some rows net (suc place) place row here is).1 ∙ ap (λ (fs : List Driver). fs ++ row.from ∷ []) before.whole in
    let has : (m : ℕ) → has_net (driven_by (take (suc place) rows) net) m ≡ (has_net (driven_by (take at rows) net) m || is_net m row.from) =
    λ m. ap (λ (fs : List Driver). has_net fs m) split ∙ any_push (λ (source : Driver). is_net m source) (driven_by (take at rows) net) row.from in
    record {
      within = omega (arith, so.within, own.within);
      drivers = before.drivers;
      wanted_too =
          or_passed found (is_net wanted row.from) (has_net (driven_by (take at rows) net) wanted)
          ∙ (ap (λ (b : Bool). found || b) (sym (has wanted)) ∙ so.wanted_too);
      count = more.count ∙ so.count;
      kept = λ m h. more.reached m ∙ or_left (is_reached now m) (is_net m row.from) (so.kept m h);
      reached = λ m.
          ap (λ (b : Bool). b || has_net (driven_by (take at rows) net) m) (more.reached m)
          ∙ (or_passed (is_reached now m) (is_net m row.from) (has_net (driven_by (take at rows) net) m)
          ∙ (ap (λ (b : Bool). is_reached now m || b) (sym (has m)) ∙ so.reached m));
      left = λ m.
          more.left m
          ∙ (ap (λ (l : Bool). l || (is_reached new m && not (is_reached now m))) (so.left m)
          ∙ (ap (λ (r : Bool). (is_left old m || (is_reached now m && not (is_reached old m))) || (r && not (is_reached now m))) (more.reached m)
          ∙ (grows (is_left old m) (is_reached old m) (is_reached now m) (is_net m row.from) (so.kept m)
          ∙ ap (λ (r : Bool). is_left old m || (r && not (is_reached old m))) (sym (more.reached m)))));
      weight = more.weight ∙ so.weight;
    }

pub reaching_next : (rows : List DriverEdge) (net wanted last at : ℕ) (row : DriverEdge) (found later : Bool) (old now new : Search)
    → Reaching rows net wanted last found old now → 0 < last → slice_get rows (last - 1) ≡ Some row → IsLast rows row.to (last - 1) at
    → ReachesMore (λ (m : ℕ). is_net m row.from) now new → later ≡ (found || is_net wanted row.from)
    → Reaching rows net wanted at later old new
reaching_next rows net wanted last at row found later old now new so some is own more same =
    subst (λ (f : Bool). Reaching rows net wanted at f old new) (sym same)
    (reaching_more rows net wanted (last - 1) at row found old now new
    (subst (λ (n : ℕ). Reaching rows net wanted n found old now) (counted last some) so) is own more)

reaching_end : (rows : List DriverEdge) (net wanted : ℕ) (found : Bool) (old now : Search) → Reaching rows net wanted 0 found old now
    → (found ≡ has_net (driven_by rows net) wanted) × ReachesMore (has_net (driven_by rows net)) old now
reaching_end rows net wanted found old now so = (
  sym (or-false found) ∙ so.wanted_too,
  record {
    count = so.count;
    reached = λ m. sym (or-false (is_reached now m)) ∙ so.reached m;
    left = so.left;
    weight = so.weight;
  },
)

pub reaching_done : (rows : List DriverEdge) (net wanted last : ℕ) (found : Bool) (old now : Search) → Reaching rows net wanted last found old now → last ≤ 0
    → (found ≡ has_net (driven_by rows net) wanted) × ReachesMore (has_net (driven_by rows net)) old now
reaching_done rows net wanted zero found old now so none = reaching_end rows net wanted found old now so
reaching_done rows net wanted (suc last) found old now so none = absurd (omega arith)
