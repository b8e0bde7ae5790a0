-- Nets to which following sources may come back, by numbers of nets. This project's own words.
-- It reads: a way along sources that comes back keeps to one number, where no source has a lower one than its net.
use Rattle.std.specs.Prelude.{◌≡◌, ◌+◌, ◌*◌, ◌<◌, ◌≤◌, ◌==◌, ◌||◌, ◌&&◌, ℕ, Bool, false, List, get_or, length, nat_lt}
use Rattle.std.specs.List.{All, list_any, sum}
use Rattle.flat_design.specs.declared.drivers.cycles.Components.{Components}
use Rattle.flat_design.specs.declared.drivers.driver_edges.DriverEdge.{DriverEdge}
use Rattle.flat_design.specs.declared.drivers.driver_edges.Driver.{Driver}
use Rattle.flat_design.specs.declared.drivers.driver_edges.Driver.TheVariants as driver
use Rattle.flat_design.specs.declared.drivers.source_table.SourceTable.{SourceTable}
use Rattle.flat_design.specs.Sources.{Returns}

-- sources come back to no net of so many that is not marked
abbrev pub AreReturning : List DriverEdge → ℕ → List Bool → Type 0
AreReturning rows nets marks = (net : ℕ) → net < nets → get_or marks net false ≡ false → Returns rows net → ⊥

-- ---- numbers of nets

abbrev pub is_below : List ℕ → ℕ → Driver → Bool
is_below numbers net (driver.Net source) = nat_lt (get_or numbers source 0) (get_or numbers net 0)
is_below numbers net (driver.Value value) = false
is_below numbers net (driver.Pin pin) = false

abbrev pub is_level : List ℕ → ℕ → Driver → Bool
is_level numbers net (driver.Net source) = get_or numbers source 0 == get_or numbers net 0
is_level numbers net (driver.Value value) = false
is_level numbers net (driver.Pin pin) = false

-- the source of a row has a lower number than its net
abbrev pub falls : List ℕ → DriverEdge → Bool
falls numbers row = is_below numbers row.to row.from

-- a row's net is this one, and has one number with its source
abbrev pub is_level_at : List ℕ → ℕ → DriverEdge → Bool
is_level_at numbers net row = (row.to == net) && is_level numbers row.to row.from

-- each net is marked that has one number with a source of its own, or where some source has a lower number than its net
abbrev pub AreCompared : List ℕ → List DriverEdge → List Bool → Type 0
AreCompared numbers rows marks = (net : ℕ) → net < length numbers
    → get_or marks net false ≡ (list_any (falls numbers) rows || list_any (is_level_at numbers net) rows)

-- ---- components

-- components of so many nets that so many rows drive
pub record AreComponents (nets rows : ℕ) (components : Components) : Type 0 where
  pub numbers : length components.numbers.items ≡ nets
  pub count : length components.last.items ≡ nets
  pub last : All (λ (at : ℕ). at ≤ rows) components.last.items
  pub path : All (λ (net : ℕ). net < nets) components.path.items
  pub waiting : All (λ (net : ℕ). net < nets) components.waiting.items

abbrev pub AreComponentsOf : SourceTable → Components → Type 0
AreComponentsOf table components = AreComponents (length table.last) (length table.rows.now) components

-- components of any nets and rows stay such
abbrev pub Keeps : Components → Components → Type 0
Keeps old new = (nets rows : ℕ) → AreComponents nets rows old → AreComponents nets rows new

-- how much is still to be followed
abbrev pub to_follow : Components → ℕ
to_follow components = 2 * sum components.last.items + length components.path.items
