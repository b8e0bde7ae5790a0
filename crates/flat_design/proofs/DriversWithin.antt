-- The driver edges of a design are of its nets and pins.
use Rattle.std.proofs.Common.{◌≡◌, ◌<◌, ℕ, List, [], ◌∷◌, length, map, arith}
use Rattle.std.proofs.lemmas.List.{length-map}
use Rattle.std.proofs.lemmas.List.Elements.{All-cons, All-nil}
use Rattle.std.proofs.lemmas.Option.{slice_get_within}
use Rattle.std.specs.List.{AllZip, flat_map}
use Rattle.flat_model.specs.FlatDesign.{FlatPin}
use Rattle.flat_model.specs.FlatNets.{NetDriver, NetBit, Origin, PinPlace, bit_of, from_net, from_pin, from_value, nets_in}
use Rattle.flat_design.specs.declared.drivers.driver_edges.DriverEdge.{DriverEdge}
use Rattle.flat_design.specs.declared.drivers.driver_edges.Driver.{Driver}
use Rattle.flat_design.specs.declared.drivers.driver_edges.Driver.TheVariants as driver
use Rattle.flat_design.specs.declared.elaborate.hierarchy.Hierarchy.{Hierarchy}
use Rattle.flat_design.specs.Drivers.{IsDriverEdge, IsDriverByNumber, IsPinNumber}
use Rattle.flat_design.specs.Hierarchy.{IsHierarchy, pins_of_design, scopes_in}
use Rattle.flat_design.specs.NetNumbers.{IsNumber}
use Rattle.flat_design.specs.Sources.{AreWithin, IsDriverWithin, IsRowWithin}
use Rattle.flat_design.proofs.PinCounts.{pins_length}

pub number_within : (design : Hierarchy) (number : ℕ) (bit : NetBit) → IsHierarchy design → IsNumber (scopes_in design) number bit → number < design.elaboration.nets
number_within design number bit is at =
    let low = slice_get_within (map bit_of (flat_map nets_in (scopes_in design))) number bit at in
    let count = length-map (flat_map nets_in (scopes_in design)) bit_of in
    let all = is.elaboration.nets in
    omega (arith, low, count, all)

pub pin_within : (design : Hierarchy) (number : ℕ) (place : PinPlace) → IsHierarchy design → IsPinNumber design number place → number < design.elaboration.pins
pin_within design number place is at =
    let low = slice_get_within (map (λ (pin : FlatPin). pin.place) (pins_of_design design)) number place at in
    let count : length (map (λ (pin : FlatPin). pin.place) (pins_of_design design)) ≡ length (pins_of_design design) =
    length-map (pins_of_design design) (λ (pin : FlatPin). pin.place) in
    let all = pins_length design.modules.now design.library.now design.top.now in
    let own = is.elaboration.pins in
    omega (arith, low, count, all, own)

driver_within : (design : Hierarchy) (origin : Origin) (own : Driver) → IsHierarchy design → IsDriverByNumber design origin own
    → IsDriverWithin design.elaboration.nets design.elaboration.pins own
driver_within design (from_net net) (driver.Net number) is one = number_within design number net is one
driver_within design (from_value value) (driver.Value own) is one = tt
driver_within design (from_pin place) (driver.Pin number) is one = pin_within design number place is one
driver_within design (from_net net) (driver.Value own) is one = absurd one
driver_within design (from_net net) (driver.Pin number) is one = absurd one
driver_within design (from_value value) (driver.Net number) is one = absurd one
driver_within design (from_value value) (driver.Pin number) is one = absurd one
driver_within design (from_pin place) (driver.Net number) is one = absurd one
driver_within design (from_pin place) (driver.Value own) is one = absurd one

pub rows_within : (design : Hierarchy) (drivers : List NetDriver) (rows : List DriverEdge) → IsHierarchy design → AllZip (IsDriverEdge design) drivers rows
    → AreWithin design.elaboration.nets design.elaboration.pins rows
rows_within design [] [] is all = All-nil (IsRowWithin design.elaboration.nets design.elaboration.pins)
rows_within design [] (row ∷ rows) is all = absurd all
rows_within design (one ∷ drivers) [] is all = absurd all
rows_within design (one ∷ drivers) (row ∷ rows) is all =
    All-cons (IsRowWithin design.elaboration.nets design.elaboration.pins) row rows
    (number_within design row.to one.to is all.0.net, driver_within design one.from row.from is all.0.origin)
    (rows_within design drivers rows is all.1)
