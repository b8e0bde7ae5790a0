-- The sources of nets, and following them, by the numbers of nets and pins. This project's own words.
-- It reads: the sources of a net are what drives it, each as often as it stands; following them goes from net to net.
use Rattle.std.specs.Prelude.{◌≡◌, ◌<◌, ◌⊎◌, ℕ, Bool, true, false, List, [], ◌∷◌, filter, length, map, nat_eq, nat_lt}
use Rattle.std.specs.List.{All, Contains}
use Rattle.timing_types.specs.declared.designs.Source.{Source}
use Rattle.timing_types.specs.declared.designs.Source.TheVariants as source
use Rattle.flat_design.specs.declared.drivers.driver_edges.DriverEdge.{DriverEdge}
use Rattle.flat_design.specs.declared.drivers.driver_edges.Driver.{Driver}
use Rattle.flat_design.specs.declared.drivers.driver_edges.Driver.TheVariants as driver

-- what drives a net, by its number, in the order of the rows
abbrev pub driven_by : List DriverEdge → ℕ → List Driver
driven_by rows net = map (λ (row : DriverEdge). row.from) (filter (λ (row : DriverEdge). nat_eq row.to net) rows)

abbrev pub has_two : List DriverEdge → ℕ → Bool
has_two rows net = nat_lt 1 (length (driven_by rows net))

-- ---- rows are of these nets and pins

abbrev pub IsDriverWithin : ℕ → ℕ → Driver → Type 0
IsDriverWithin nets pins (driver.Net net) = net < nets
IsDriverWithin nets pins (driver.Value value) = Unit {0}
IsDriverWithin nets pins (driver.Pin pin) = pin < pins

abbrev pub IsRowWithin : ℕ → ℕ → DriverEdge → Type 0
IsRowWithin nets pins row = (row.to < nets) × IsDriverWithin nets pins row.from

abbrev pub AreWithin : ℕ → ℕ → List DriverEdge → Type 0
AreWithin nets pins rows = All (IsRowWithin nets pins) rows

-- ---- following sources

-- sources lead from a net over these nets to another one
abbrev pub LeadsTo : List DriverEdge → ℕ → List ℕ → ℕ → Type 0
LeadsTo rows net [] end = Contains (driven_by rows net) (driver.Net end)
LeadsTo rows net (next ∷ nets) end = Contains (driven_by rows net) (driver.Net next) × LeadsTo rows next nets end

-- following sources from a net can come back to it
abbrev pub Returns : List DriverEdge → ℕ → Type 0
Returns rows net = (nets : List ℕ) × LeadsTo rows net nets net

-- a net is another, or sources lead to that
abbrev pub ReachesNet : List DriverEdge → ℕ → ℕ → Type 0
ReachesNet rows net end = (net ≡ end) ⊎ ((nets : List ℕ) × LeadsTo rows net nets end)

-- a net has this source, which is no net, or it has none
abbrev pub EndsAt : List DriverEdge → ℕ → Source → Type 0
EndsAt rows net source.Nothing = driven_by rows net ≡ []
EndsAt rows net source.Zero = Contains (driven_by rows net) (driver.Value false)
EndsAt rows net source.One = Contains (driven_by rows net) (driver.Value true)
EndsAt rows net (source.Pin pin) = Contains (driven_by rows net) (driver.Pin pin.0)

-- the source that is found by following sources from a net
abbrev pub IsEndOf : List DriverEdge → ℕ → Source → Type 0
IsEndOf rows net found = (end : ℕ) × ReachesNet rows net end × EndsAt rows end found

-- no net has two sources
abbrev pub HaveOne : List DriverEdge → Type 0
HaveOne rows = (net : ℕ) → has_two rows net ≡ false
