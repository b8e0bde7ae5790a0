-- The ends of following sources, where no net has two. This project's own words.
-- It reads: each net has the end that following sources from it finds, unless sources come back to some net.
use Rattle.std.specs.Prelude.{◌≡◌, ◌<◌, ℕ, Bool, true, false, List, [], ◌∷◌, get_or, length, slice_get, Option, Some, None}
use Rattle.timing_types.specs.declared.designs.Source.{Source}
use Rattle.timing_types.specs.declared.designs.Source.TheVariants as source
use Rattle.flat_design.specs.declared.drivers.ends.Mark.{Mark}
use Rattle.flat_design.specs.declared.drivers.ends.Mark.TheVariants as mark
use Rattle.flat_design.specs.declared.drivers.ends.Next.{Next}
use Rattle.flat_design.specs.declared.drivers.ends.Next.TheVariants as next
use Rattle.flat_design.specs.declared.drivers.driver_edges.DriverEdge.{DriverEdge}
use Rattle.flat_design.specs.declared.drivers.driver_edges.Driver.{Driver}
use Rattle.flat_design.specs.declared.drivers.driver_edges.Driver.TheVariants as driver
use Rattle.flat_design.specs.Sources.{IsEndOf, Returns}

-- following sources from a net of so many comes back to it
abbrev pub SomeReturns : List DriverEdge → ℕ → Type 0
SomeReturns rows nets = (net : ℕ) × (net < nets) × Returns rows net

-- each net has its end, and sources come back to none
pub record HaveEnds (rows : List DriverEdge) (nets : ℕ) (ends : List Source) : Type 0 where
  pub count : length ends ≡ nets
  pub each : (net : ℕ) (end : Source) → slice_get ends net ≡ Some end → IsEndOf rows net end
  pub none : (net : ℕ) → Returns rows net → ⊥

abbrev pub AreEnds : List DriverEdge → ℕ → Option (List Source) → Type 0
AreEnds rows nets None = SomeReturns rows nets
AreEnds rows nets (Some ends) = HaveEnds rows nets ends

-- ---- marks of nets

abbrev pub mark_of : List Mark → ℕ → Mark
mark_of marks net = get_or marks net mark.New

abbrev pub is_open : Mark → Bool
is_open mark.New = false
is_open mark.Open = true
is_open (mark.Done end) = false

abbrev pub is_done : Mark → Bool
is_done mark.New = false
is_done mark.Open = false
is_done (mark.Done end) = true

-- the end that a net has, where sources do not come back to it
abbrev pub IsSettled : List DriverEdge → ℕ → Source → Type 0
IsSettled rows net end = IsEndOf rows net end × (Returns rows net → ⊥)

-- so many nets, of each of which it is settled what is done, and of which none is being followed
pub record AreSettled (rows : List DriverEdge) (nets : ℕ) (marks : List Mark) : Type 0 where
  pub count : length marks ≡ nets
  pub quiet : (net : ℕ) → is_open (mark_of marks net) ≡ false
  pub settled : (net : ℕ) (end : Source) → mark_of marks net ≡ mark.Done end → IsSettled rows net end

-- nets that were done are done
abbrev pub AreKept : List Mark → List Mark → Type 0
AreKept old new = (net : ℕ) → is_done (mark_of old net) ≡ true → is_done (mark_of new net) ≡ true

-- what a walk from a net answers
abbrev pub WalksFrom : List DriverEdge → ℕ → ℕ → List Mark → List Mark → Bool → Type 0
WalksFrom rows nets net old new false = SomeReturns rows nets
WalksFrom rows nets net old new true = AreSettled rows nets new × AreKept old new × (is_done (mark_of new net) ≡ true)

-- ---- what is next for a net

abbrev pub value_end : Bool → Source
value_end false = source.Zero
value_end true = source.One

abbrev pub next_at : ℕ → Mark → Next
next_at from mark.New = next.Follow from
next_at from mark.Open = next.Back
next_at from (mark.Done end) = next.End end

abbrev pub next_by : List Mark → Driver → Next
next_by marks (driver.Net from) = next_at from (mark_of marks from)
next_by marks (driver.Value value) = next.End (value_end value)
next_by marks (driver.Pin pin) = next.End (source.Pin (record { 0 = pin }))

abbrev pub next_of : List Mark → List Driver → Next
next_of marks [] = next.End source.Nothing
next_of marks (first ∷ rest) = next_by marks first

-- ---- the end of a net that is done

abbrev pub end_of : Mark → Source
end_of mark.New = source.Nothing
end_of mark.Open = source.Nothing
end_of (mark.Done end) = end
