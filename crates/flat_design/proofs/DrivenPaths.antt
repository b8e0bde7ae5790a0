-- Following sources from net to net, and following what drives nets by their numbers, lead to the same.
use Rattle.std.proofs.Common.{◌≡◌, inl, inr, ℕ, false, true, Bool, List, [], ◌∷◌, map, refl, sym, ap, subst}
use Rattle.std.specs.List.{AllZip, Contains}
use Rattle.timing_types.specs.declared.designs.Source.{Source}
use Rattle.timing_types.specs.declared.designs.Source.TheVariants as source
use Rattle.flat_model.specs.FlatDesign.{ComesBack, EndsIn, FlatPin, IsSourceOf, Leads, Reaches}
use Rattle.flat_model.specs.FlatNets.{NetDriver, NetBit, Origin, PinPlace, from_net, from_pin, from_value, sources}
use Rattle.flat_design.specs.declared.drivers.driver_edges.DriverEdge.{DriverEdge}
use Rattle.flat_design.specs.declared.drivers.driver_edges.Driver.{Driver}
use Rattle.flat_design.specs.declared.drivers.driver_edges.Driver.TheVariants as driver
use Rattle.flat_design.specs.declared.elaborate.hierarchy.Hierarchy.{Hierarchy}
use Rattle.flat_design.specs.Drivers.{IsDriverEdge, IsDriverByNumber, IsPinNumber}
use Rattle.flat_design.specs.Hierarchy.{IsHierarchy, pins_of_design, scopes_in}
use Rattle.flat_design.specs.NetNumbers.{IsNumber}
use Rattle.flat_design.specs.Sources.{EndsAt, IsEndOf, LeadsTo, ReachesNet, Returns, driven_by}
use Rattle.flat_design.proofs.DrivenNumbers.{bit_once, driven_there, numbered_once, source_there, sources_driven}

-- ---- what one source is

-- what stands for a net is a net of its number
net_as_driver : (design : Hierarchy) (net : NetBit) (own : Driver) → IsDriverByNumber design (from_net net) own
    → (number : ℕ) × (own ≡ driver.Net number) × IsNumber (scopes_in design) number net
net_as_driver design net (driver.Net number) is = (number, refl, is)
net_as_driver design net (driver.Value value) is = absurd is
net_as_driver design net (driver.Pin pin) is = absurd is

net_origin : (design : Hierarchy) (origin : Origin) (number : ℕ) → IsDriverByNumber design origin (driver.Net number)
    → (net : NetBit) × (origin ≡ from_net net) × IsNumber (scopes_in design) number net
net_origin design (from_net net) number is = (net, refl, is)
net_origin design (from_value value) number is = absurd is
net_origin design (from_pin place) number is = absurd is

value_origin : (design : Hierarchy) (origin : Origin) (value : Bool) → IsDriverByNumber design origin (driver.Value value) → origin ≡ from_value value
value_origin design (from_net net) value is = absurd is
value_origin design (from_value own) value is = ap from_value (sym is)
value_origin design (from_pin place) value is = absurd is

pin_origin : (design : Hierarchy) (origin : Origin) (number : ℕ) → IsDriverByNumber design origin (driver.Pin number)
    → (place : PinPlace) × (origin ≡ from_pin place) × IsPinNumber design number place
pin_origin design (from_net net) number is = absurd is
pin_origin design (from_value value) number is = absurd is
pin_origin design (from_pin place) number is = (place, refl, is)

-- a net drives another one, by their numbers
net_driven : (design : Hierarchy) (drivers : List NetDriver) (rows : List DriverEdge) (n : ℕ) (bit next : NetBit) → IsHierarchy design → AllZip (IsDriverEdge design) drivers rows
    → IsNumber (scopes_in design) n bit → Contains (sources drivers bit) (from_net next)
    → (number : ℕ) × Contains (driven_by rows n) (driver.Net number) × IsNumber (scopes_in design) number next
net_driven design drivers rows n bit next is all at has =
    let own = driven_there design drivers rows n bit (from_net next) is all at has in
    let known = net_as_driver design next own.0 own.2 in
    (known.0, subst (Contains (driven_by rows n)) known.1 own.1, known.2)

net_source : (design : Hierarchy) (drivers : List NetDriver) (rows : List DriverEdge) (n next : ℕ) (bit : NetBit) → IsHierarchy design → AllZip (IsDriverEdge design) drivers rows
    → IsNumber (scopes_in design) n bit → Contains (driven_by rows n) (driver.Net next)
    → (net : NetBit) × Contains (sources drivers bit) (from_net net) × IsNumber (scopes_in design) next net
net_source design drivers rows n next bit is all at has =
    let own = source_there design drivers rows n bit (driver.Net next) is all at has in
    let known = net_origin design own.0 next own.2 in
    (known.0, subst (Contains (sources drivers bit)) known.1 own.1, known.2)

-- ---- along sources

-- sources lead on by numbers
leads_by_number : (design : Hierarchy) (drivers : List NetDriver) (rows : List DriverEdge) (n m : ℕ) (bit : NetBit) (nets : List NetBit) (end : NetBit) → IsHierarchy design
    → AllZip (IsDriverEdge design) drivers rows → IsNumber (scopes_in design) n bit → IsNumber (scopes_in design) m end → Leads drivers bit nets end
    → (numbers : List ℕ) × LeadsTo rows n numbers m
leads_by_number design drivers rows n m bit [] end is all at last leads =
    let own = net_driven design drivers rows n bit end is all at leads in
    ([], subst (λ (k : ℕ). Contains (driven_by rows n) (driver.Net k)) (numbered_once design own.0 m end is own.2 last) own.1)
leads_by_number design drivers rows n m bit (next ∷ nets) end is all at last leads =
    let own = net_driven design drivers rows n bit next is all at leads.0 in
    let rest = leads_by_number design drivers rows own.0 m next nets end is all own.2 last leads.1 in
    (own.0 ∷ rest.0, (own.1, rest.1))

-- and numbers lead on as sources do
leads_by_bit : (design : Hierarchy) (drivers : List NetDriver) (rows : List DriverEdge) (n m : ℕ) (bit : NetBit) (numbers : List ℕ) → IsHierarchy design
    → AllZip (IsDriverEdge design) drivers rows → IsNumber (scopes_in design) n bit → LeadsTo rows n numbers m
    → (end : NetBit) × IsNumber (scopes_in design) m end × ((nets : List NetBit) × Leads drivers bit nets end)
leads_by_bit design drivers rows n m bit [] is all at leads =
    let own = net_source design drivers rows n m bit is all at leads in
    (own.0, own.2, ([], own.1))
leads_by_bit design drivers rows n m bit (next ∷ numbers) is all at leads =
    let own = net_source design drivers rows n next bit is all at leads.0 in
    let rest = leads_by_bit design drivers rows next m own.0 numbers is all own.2 leads.1 in
    (rest.0, rest.1, (own.0 ∷ rest.2.0, (own.1, rest.2.1)))

-- ---- coming back

pub returns_by_number : (design : Hierarchy) (drivers : List NetDriver) (rows : List DriverEdge) (n : ℕ) (bit : NetBit) → IsHierarchy design
    → AllZip (IsDriverEdge design) drivers rows → IsNumber (scopes_in design) n bit → ComesBack drivers bit → Returns rows n
returns_by_number design drivers rows n bit is all at back = leads_by_number design drivers rows n n bit back.0 bit is all at at back.1

pub comes_back_by_bit : (design : Hierarchy) (drivers : List NetDriver) (rows : List DriverEdge) (n : ℕ) (bit : NetBit) → IsHierarchy design
    → AllZip (IsDriverEdge design) drivers rows → IsNumber (scopes_in design) n bit → Returns rows n → ComesBack drivers bit
comes_back_by_bit design drivers rows n bit is all at back =
    let own = leads_by_bit design drivers rows n n bit back.0 is all at back.1 in
    (own.2.0, subst (Leads drivers bit own.2.0) (bit_once design n own.0 bit own.1 at) own.2.1)

-- ---- where it ends

reached : (design : Hierarchy) (drivers : List NetDriver) (rows : List DriverEdge) (n end : ℕ) (bit : NetBit) → IsHierarchy design → AllZip (IsDriverEdge design) drivers rows
    → IsNumber (scopes_in design) n bit → ReachesNet rows n end → (net : NetBit) × IsNumber (scopes_in design) end net × Reaches drivers bit net
reached design drivers rows n end bit is all at (inl same) = (bit, subst (λ (k : ℕ). IsNumber (scopes_in design) k bit) same at, inl refl)
reached design drivers rows n end bit is all at (inr path) =
    let own = leads_by_bit design drivers rows n end bit path.0 is all at path.1 in
    (own.0, own.1, inr own.2)

none_there : {A B : Type 0} (R : A → B → Type 0) (xs : List A) (ys : List B) → AllZip R xs ys → ys ≡ [] → xs ≡ []
none_there R [] ys all none = refl
none_there R (x ∷ xs) ys all none = absurd (subst (AllZip R (x ∷ xs)) none all)

value_there : (design : Hierarchy) (drivers : List NetDriver) (rows : List DriverEdge) (n : ℕ) (bit : NetBit) (value : Bool) → IsHierarchy design
    → AllZip (IsDriverEdge design) drivers rows → IsNumber (scopes_in design) n bit → Contains (driven_by rows n) (driver.Value value)
    → Contains (sources drivers bit) (from_value value)
value_there design drivers rows n bit value is all at has =
    let own = source_there design drivers rows n bit (driver.Value value) is all at has in
    subst (Contains (sources drivers bit)) (value_origin design own.0 value own.2) own.1

pub ends_in : (design : Hierarchy) (drivers : List NetDriver) (rows : List DriverEdge) (n : ℕ) (bit : NetBit) (found : Source) → IsHierarchy design
    → AllZip (IsDriverEdge design) drivers rows → IsNumber (scopes_in design) n bit → EndsAt rows n found
    → EndsIn (map (λ (pin : FlatPin). pin.place) (pins_of_design design)) drivers bit found
ends_in design drivers rows n bit source.Nothing is all at ends =
    none_there (IsDriverByNumber design) (sources drivers bit) (driven_by rows n) (sources_driven design drivers rows n bit is all at) ends
ends_in design drivers rows n bit source.Zero is all at ends = value_there design drivers rows n bit false is all at ends
ends_in design drivers rows n bit source.One is all at ends = value_there design drivers rows n bit true is all at ends
ends_in design drivers rows n bit (source.Pin pin) is all at ends =
    let own = source_there design drivers rows n bit (driver.Pin pin.0) is all at ends in
    let known = pin_origin design own.0 pin.0 own.2 in
    (known.0, known.2, subst (Contains (sources drivers bit)) known.1 own.1)

-- what is found by numbers is the source of a net
pub source_by_number : (design : Hierarchy) (drivers : List NetDriver) (rows : List DriverEdge) (n : ℕ) (bit : NetBit) (found : Source) → IsHierarchy design
    → AllZip (IsDriverEdge design) drivers rows → IsNumber (scopes_in design) n bit → IsEndOf rows n found
    → IsSourceOf (map (λ (pin : FlatPin). pin.place) (pins_of_design design)) drivers bit found
source_by_number design drivers rows n bit found is all at end =
    let own = reached design drivers rows n end.0 bit is all at end.1 in
    (own.0, own.2, ends_in design drivers rows end.0 own.0 found is all own.1 end.2)
