-- The ports of the top module: their nets, and the numbers of their pins.
use Rattle.std.proofs.Common.{◌≡◌, ◌+◌, ◌≤◌, ℕ, List, [], length, map, take, slice_get, Option, Some, refl, ◌∙◌, ap, arith}
use Rattle.std.proofs.lemmas.List.{length-map}
use Rattle.std.specs.List.{flat_map}
use Rattle.pin_types.specs.declared.library_cells.Direction.TheVariants as direction
use Rattle.source_types.specs.declared.netlists.Port.{Port}
use Rattle.source_types.specs.declared.netlists.Wire.{Wire}
use Rattle.flat_model.specs.FlatDesign.{FlatPin, port_pin, port_pins}
use Rattle.flat_model.specs.FlatNets.{port_bit, top_port_drivers}
use Rattle.flat_model.specs.Instances.{top_scope}
use Rattle.netlist_model.specs.Ranges.{indices, width}
use Rattle.netlist_model.specs.WellFormedNetlist.{IsNetOfPort, IsWellFormedModule}
use Rattle.text_model.proofs.ListFacts.{contains_at, front_at}
use Rattle.netlist_model.proofs.RangeFacts.{indices_length}
use Rattle.flat_design.specs.declared.elaborate.hierarchy.Hierarchy.{Hierarchy}
use Rattle.flat_design.specs.Drivers.{HasPort, IsPinNumber, input_drive}
use Rattle.flat_design.specs.Hierarchy.{IsHierarchy, pins_of_design}
use Rattle.flat_design.proofs.NumberFacts.{flat_at}
use Rattle.flat_design.proofs.PinCounts.{parts_le}
use Rattle.flat_design.proofs.PlaceFacts.{parts_more}
use Rattle.flat_design.proofs.RangeFacts.{map_at}
use Rattle.flat_design.proofs.TerminalFacts.{zip_at}

-- the pins of a port
abbrev pub pins_of_port : Port → List FlatPin
pins_of_port port = map (port_pin port) (indices port.range)

-- a port of the top is one of its nets
pub top_port : (design : Hierarchy) (place : ℕ) (port : Port) → IsHierarchy design → slice_get design.top.now.ports place ≡ Some port → HasPort design 0 port
top_port design place port is at =
    let formed : IsWellFormedModule design.top.now = is.formed 0 (top_scope design.top.now) refl in
    let own = formed.ports in
    let found = zip_at IsNetOfPort design.top.now.ports own.0 own.3 place port at in
    let net_at : slice_get design.top.now.nets place ≡ Some found.0 =
    ap (λ (nets : List Wire). slice_get nets place) own.2 ∙ front_at own.0 own.1 place found.0 found.1 in
    (top_scope design.top.now, refl, (found.0, contains_at design.top.now.nets place found.0 net_at, found.2.0, found.2.1))

-- the number of a port bit
pub top_number : (design : Hierarchy) (n first : ℕ) (port : Port) → slice_get design.top.now.ports n ≡ Some port
    → first ≡ length (flat_map pins_of_port (take n design.top.now.ports)) → (place : ℕ) (index : Option ℕ) → slice_get (indices port.range) place ≡ Some index
    → IsPinNumber design (first + place) (port_bit port.name index)
top_number design n first port at first_is place index found =
    let one : FlatPin = port_pin port index in
    let among : slice_get (flat_map pins_of_port design.top.now.ports) (length (flat_map pins_of_port (take n design.top.now.ports)) + place) ≡ Some one =
    flat_at pins_of_port design.top.now.ports n place port one at (map_at (port_pin port) (indices port.range) place index found) in
    let whole = front_at (port_pins design.top.now) _ (length (flat_map pins_of_port (take n design.top.now.ports)) + place) one among in
    map_at (λ (pin : FlatPin). pin.place) (pins_of_design design) (first + place) one
    (ap (λ (k : ℕ). slice_get (pins_of_design design) (k + place)) first_is ∙ whole)

-- one more port
pub pins_passed : (ports : List Port) (n first w : ℕ) (port : Port) → slice_get ports n ≡ Some port → w ≡ width port.range
    → first ≡ length (flat_map pins_of_port (take n ports)) → first + w ≡ length (flat_map pins_of_port (take (n + 1) ports))
pins_passed ports n first w port at same so_far =
    let more = parts_more pins_of_port ports n port at in
    let own = length-map (indices port.range) (port_pin port) in
    let count = indices_length port.range in
    omega (arith, more, own, count, same, so_far)

pub pins_passed_few : (design : Hierarchy) (n : ℕ) → IsHierarchy design → length (flat_map pins_of_port (take n design.top.now.ports)) ≤ 1000000
pins_passed_few design n is =
    let part = parts_le pins_of_port design.top.now.ports n in
    let own = is.elaboration.pins in
    let few = is.elaboration.few_pins in
    omega (arith, part, own, few)

pub input_drives : (port : Port) → port.direction ≡ direction.Input → top_port_drivers port ≡ map (input_drive port) (indices port.range)
input_drives port is = rw (top_port_drivers, is) refl

pub output_drives : (port : Port) → port.direction ≡ direction.Output → top_port_drivers port ≡ []
output_drives port is = rw (top_port_drivers, is) refl

pub driven_other : (port : Port) → port.direction ≡ direction.Other → top_port_drivers port ≡ []
driven_other port is = rw (top_port_drivers, is) refl
