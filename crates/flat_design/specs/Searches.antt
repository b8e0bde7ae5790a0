-- A search along sources. This project's own words.
-- It reads: nets that were reached are marked, and those of them that are left are listed.
use Rattle.std.specs.Prelude.{◌≡◌, ◌+◌, ◌==◌, ◌||◌, ◌&&◌, ℕ, Bool, true, false, not, List, [], get_or, length}
use Rattle.std.specs.List.{count_by, list_any}
use Rattle.flat_design.specs.declared.drivers.driver_edges.DriverEdge.{DriverEdge}
use Rattle.flat_design.specs.declared.drivers.driver_edges.Driver.{Driver}
use Rattle.flat_design.specs.declared.drivers.driver_edges.Driver.TheVariants as driver
use Rattle.flat_design.specs.declared.drivers.returning.Search.{Search}
use Rattle.flat_design.specs.Sources.{Returns}

abbrev pub TellsReturn : List DriverEdge → ℕ → Bool → Type 0
TellsReturn rows net true = Returns rows net
TellsReturn rows net false = Returns rows net → ⊥

abbrev pub is_reached : Search → ℕ → Bool
is_reached search net = get_or search.reached.items net false

abbrev pub is_left : Search → ℕ → Bool
is_left search net = list_any (λ (other : ℕ). other == net) search.left.items

-- a search among so many nets that has reached nothing
pub record IsBegun (nets : ℕ) (search : Search) : Type 0 where
  pub count : length search.reached.items ≡ nets
  pub none : (net : ℕ) → is_reached search net ≡ false
  pub left : search.left.items ≡ []

-- how much a search may still have to look at
abbrev pub to_search : Search → ℕ
to_search search = count_by not search.reached.items + length search.left.items

-- ---- sources

abbrev pub is_net : ℕ → Driver → Bool
is_net net (driver.Net other) = other == net
is_net net (driver.Value value) = false
is_net net (driver.Pin pin) = false

abbrev pub has_net : List Driver → ℕ → Bool
has_net sources net = list_any (λ (source : Driver). is_net net source) sources

-- ---- steps of a search: the nets that `says` tells are reached, and those of them are left that were not before
pub record ReachesMore (says : ℕ → Bool) (old new : Search) : Type 0 where
  pub count : length new.reached.items ≡ length old.reached.items
  pub reached : (net : ℕ) → is_reached new net ≡ (is_reached old net || says net)
  pub left : (net : ℕ) → is_left new net ≡ (is_left old net || (is_reached new net && not (is_reached old net)))
  pub weight : to_search new ≡ to_search old
