-- What the walk over nets keeps, and why sources come back to no net whose sources have other numbers than it has.
use Rattle.std.proofs.Common.{◌≡◌, ◌+◌, ◌<◌, ◌≤◌, ◌||◌, ◌&&◌, ◌==◌, inl, inr, ℕ, Bool, true, false, List, [], ◌∷◌, ◌++◌, filter, get_or, length, nat_eq, set, Some, refl, sym, ◌∙◌, ap, subst, arith}
use Rattle.std.proofs.lemmas.Bool.{true≢false, cases_Bool, cases_lt, eq-eqb, eqb-true, lt-ltb, or_parts}
use Rattle.std.proofs.lemmas.List.{length-set}
use Rattle.std.proofs.lemmas.List.Elements.{All-contains, All-filter, All-map, All-pop, All-set, filter_passes}
use Rattle.std.proofs.lemmas.List.Folds.{list_any_at}
use Rattle.std.proofs.lemmas.List.Sums.{sum_by-set}
use Rattle.std.proofs.lemmas.Option.{slice_get-get_or}
use Rattle.std.specs.List.{All, Contains, list_any, sum}
use Rattle.flat_design.specs.declared.drivers.cycles.Components.{Components}
use Rattle.flat_design.specs.declared.drivers.driver_edges.DriverEdge.{DriverEdge}
use Rattle.flat_design.specs.declared.drivers.driver_edges.Driver.{Driver}
use Rattle.flat_design.specs.declared.drivers.driver_edges.Driver.TheVariants as driver
use Rattle.flat_design.specs.declared.drivers.source_table.SourceTable.{SourceTable}
use Rattle.flat_design.specs.Cycles.{AreComponents, falls, is_level_at}
use Rattle.flat_design.specs.Sources.{LeadsTo, Returns, driven_by}
use Rattle.flat_design.specs.SourceTable.{IsLinked}

-- ---- components

pub lasts_within : (table : SourceTable) → IsLinked table → All (λ (at : ℕ). at ≤ length table.rows.now) table.last
lasts_within table linked = λ net d inside. (linked.lasts net (get_or table.last net d) (slice_get-get_or table.last net d inside)).within

pub path_within : (nets rows : ℕ) (components : Components) → AreComponents nets rows components → All (λ (net : ℕ). net < length components.numbers.items) components.path.items
path_within nets rows components is = subst (λ (n : ℕ). All (λ (net : ℕ). net < n) components.path.items) (sym is.numbers) is.path

-- fewer rows are left of a net
pub row_followed : (nets rows net at : ℕ) (old new : Components) → AreComponents nets rows old → at ≤ rows
    → new.numbers.items ≡ old.numbers.items → new.last.items ≡ set old.last.items net at → new.path.items ≡ old.path.items
    → new.waiting.items ≡ old.waiting.items → AreComponents nets rows new
row_followed nets rows net at old new is low numbers last path waiting = record {
  numbers = ap length numbers ∙ is.numbers;
  count = ap length last ∙ (length-set old.last.items net at ∙ is.count);
  last = subst (All (λ (n : ℕ). n ≤ rows)) (sym last) (All-set (λ (n : ℕ). n ≤ rows) old.last.items net at low is.last);
  path = subst (All (λ (n : ℕ). n < nets)) (sym path) is.path;
  waiting = subst (All (λ (n : ℕ). n < nets)) (sym waiting) is.waiting;
}

pub row_falls : (net place at : ℕ) (last : List ℕ) → net < length last → get_or last net 0 ≡ place + 1 → at ≤ place
    → sum (set last net at) + 1 ≤ sum last
row_falls net place at last inside here low =
    let e = sum_by-set (λ (n : ℕ). n) last net at 0 inside in
    omega (arith, e, here, low)

-- one of those that wait is taken, and has a number
pub taken : (nets rows net number : ℕ) (old new : Components) → AreComponents nets rows old → new.numbers.items ≡ set old.numbers.items net number
    → new.last.items ≡ old.last.items → new.path.items ≡ old.path.items → old.waiting.items ≡ new.waiting.items ++ net ∷ []
    → AreComponents nets rows new
taken nets rows net number old new is numbers last path waiting = record {
  numbers = ap length numbers ∙ (length-set old.numbers.items net number ∙ is.numbers);
  count = ap length last ∙ is.count;
  last = subst (All (λ (n : ℕ). n ≤ rows)) (sym last) is.last;
  path = subst (All (λ (n : ℕ). n < nets)) (sym path) is.path;
  waiting = (All-pop (λ (n : ℕ). n < nets) old.waiting.items new.waiting.items (Some net) waiting is.waiting).0;
}

-- ---- numbers

-- a test that no row passes, none passes that has a source of a net
none_driven : (test : DriverEdge → Bool) (rows : List DriverEdge) (net : ℕ) (source : Driver) → list_any test rows ≡ false
    → Contains (driven_by rows net) source → test (record { to = net; from = source }) ≡ false
none_driven test rows net source none there =
    let fails : All (λ (row : DriverEdge). test row ≡ false) rows = λ k d inside.
    elim (cases_Bool (test (get_or rows k d))) [
      | inl passes ↦ absurd (true≢false (sym (list_any_at test rows k d inside passes) ∙ none))
      | inr fails ↦ fails
    ] in
    let drivers = λ (row : DriverEdge). nat_eq row.to net in
    let says = λ (one : Driver). test (record { to = net; from = one }) ≡ false in
    All-contains says (driven_by rows net) source
    (All-map says (λ (row : DriverEdge). row.from) (filter drivers rows)
    (λ k d inside.
    let row = get_or (filter drivers rows) k d in
    subst (λ (n : ℕ). test (record { to = n; from = row.from }) ≡ false) (eqb-true row.to net (filter_passes drivers rows k d inside))
    (All-filter drivers (λ (one : DriverEdge). test one ≡ false) rows fails k d inside))) there

rises : (numbers : List ℕ) (rows : List DriverEdge) (net source : ℕ) → list_any (falls numbers) rows ≡ false
    → Contains (driven_by rows net) (driver.Net source) → get_or numbers net 0 ≤ get_or numbers source 0
rises numbers rows net source none there =
    let not_below = none_driven (falls numbers) rows net (driver.Net source) none there in
    elim (cases_lt (get_or numbers source 0) (get_or numbers net 0)) [
      | inl below ↦ absurd (true≢false (sym (lt-ltb (get_or numbers source 0) (get_or numbers net 0) below) ∙ not_below))
      | inr not ↦ not
    ]

led_up : (numbers : List ℕ) (rows : List DriverEdge) (net : ℕ) (nets : List ℕ) (end : ℕ) → list_any (falls numbers) rows ≡ false
    → LeadsTo rows net nets end → get_or numbers net 0 ≤ get_or numbers end 0
led_up numbers rows net [] end none leads = rises numbers rows net end none leads
led_up numbers rows net (next ∷ nets) end none leads =
    let first = rises numbers rows net next none leads.0 in
    let rest = led_up numbers rows next nets end none leads.1 in
    omega (arith, first, rest)

differs : (numbers : List ℕ) (rows : List DriverEdge) (net source : ℕ) → list_any (is_level_at numbers net) rows ≡ false
    → Contains (driven_by rows net) (driver.Net source) → get_or numbers source 0 ≡ get_or numbers net 0 → ⊥
differs numbers rows net source none there same =
    let level : is_level_at numbers net (record { to = net; from = driver.Net source }) ≡ true =
    ap (λ (b : Bool). b && (get_or numbers source 0 == get_or numbers net 0)) (eq-eqb net net refl)
    ∙ eq-eqb (get_or numbers source 0) (get_or numbers net 0) same in
    true≢false (sym level ∙ none_driven (is_level_at numbers net) rows net (driver.Net source) none there)

no_way_back : (numbers : List ℕ) (rows : List DriverEdge) (net : ℕ) (nets : List ℕ) → list_any (falls numbers) rows ≡ false
    → list_any (is_level_at numbers net) rows ≡ false → LeadsTo rows net nets net → ⊥
no_way_back numbers rows net [] none distinct leads = differs numbers rows net net distinct leads refl
no_way_back numbers rows net (next ∷ nets) none distinct leads =
    let first = rises numbers rows net next none leads.0 in
    let rest = led_up numbers rows next nets net none leads.1 in
    differs numbers rows net next distinct leads.0 (omega (arith, first, rest))

-- sources do not come back to a net that has no number with one of its sources, where no number falls
pub never_returns : (numbers : List ℕ) (rows : List DriverEdge) (net : ℕ)
    → (list_any (falls numbers) rows || list_any (is_level_at numbers net) rows) ≡ false → Returns rows net → ⊥
never_returns numbers rows net none returns =
    let both = or_parts (list_any (falls numbers) rows) (list_any (is_level_at numbers net) rows) none in
    no_way_back numbers rows net returns.0 both.0 both.1 returns.1
