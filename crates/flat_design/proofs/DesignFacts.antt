-- The nets and pins of a design, made of their names and what is beside these.
use Rattle.std.proofs.Common.{◌≡◌, ℕ, suc, List, [], ◌∷◌, length, map, slice_get, Some, refl, sym, ◌∙◌, ap, subst, arith}
use Rattle.std.proofs.lemmas.List.{length-map}
use Rattle.std.proofs.lemmas.Slice.Zip.{AllZip-long}
use Rattle.std.specs.List.{AllZip, flat_map}
use Rattle.timing_types.specs.declared.designs.NetInfo.{NetInfo}
use Rattle.timing_types.specs.declared.designs.PinInfo.{PinInfo}
use Rattle.timing_types.specs.declared.designs.Source.{Source}
use Rattle.flat_model.specs.FlatDesign.{Flat, FlatPin, IsNet, IsPin, IsSourceOf, pin_places}
use Rattle.flat_model.specs.FlatFaults.{flat_pin_name}
use Rattle.flat_model.specs.FlatNets.{FlatNet, bit_of, net_name, nets_in}
use Rattle.flat_design.specs.declared.elaborate.hierarchy.Hierarchy.{Hierarchy}
use Rattle.flat_design.specs.declared.assemble.pin_rows.PinRow.{PinRow}
use Rattle.flat_design.specs.DesignParts.{net_infos, pin_infos}
use Rattle.flat_design.specs.Hierarchy.{IsHierarchy, pins_of_design, scopes_in}
use Rattle.flat_design.specs.NamedFaults.{flat_of}
use Rattle.flat_design.specs.PinRows.{AreEnds, IsPinRow}
use Rattle.flat_design.proofs.RangeFacts.{map_at}

pub nets_named : (f : Flat) (nets : List FlatNet) (ends : List Source) → length nets ≡ length ends
    → ((n : ℕ) (net : FlatNet) (end : Source) → slice_get nets n ≡ Some net → slice_get ends n ≡ Some end → IsSourceOf (pin_places f) f.drivers (bit_of net) end)
    → AllZip (IsNet f) nets (net_infos (map net_name nets) ends)
nets_named f [] ends same each = tt
nets_named f (net ∷ nets) [] same each = absurd (omega (arith, same))
nets_named f (net ∷ nets) (end ∷ ends) same each = (
  record { name = refl; source = each 0 net end refl refl },
  nets_named f nets ends (omega (arith, same)) (λ n one other at found. each (suc n) one other at found),
)

pub pins_named : (design : Hierarchy) (pins : List FlatPin) (rows : List PinRow) → AllZip (IsPinRow design) pins rows
    → AllZip (IsPin (flat_of design)) pins (pin_infos (map flat_pin_name pins) rows)
pins_named design [] [] all = tt
pins_named design [] (row ∷ rows) all = absurd all
pins_named design (pin ∷ pins) [] all = absurd all
pins_named design (pin ∷ pins) (row ∷ rows) all = (
  record { name = refl; role = all.0.role; cell = all.0.cell; lib_pin = all.0.lib_pin; driver = all.0.driver.is },
  pins_named design pins rows all.1,
)

-- ---- all of a design

-- each net has its source
pub nets_are : (design : Hierarchy) (names : List (List ℕ)) (ends : List Source) (nets : List NetInfo) → IsHierarchy design → AreEnds design ends
    → names ≡ map net_name (flat_map nets_in (scopes_in design)) → nets ≡ net_infos names ends → AllZip (IsNet (flat_of design)) (flat_of design).nets nets
nets_are design names ends nets is own named made =
    let all = flat_map nets_in (scopes_in design) in
    let count : length all ≡ length ends = sym is.elaboration.nets ∙ sym own.count in
    subst (AllZip (IsNet (flat_of design)) all) (sym (made ∙ ap (λ (ns : List (List ℕ)). net_infos ns ends) named))
    (nets_named (flat_of design) all ends count (λ n net end at found. own.each n (bit_of net) end (map_at bit_of all n net at) found))

-- as many sources as names
pub ends_named : (design : Hierarchy) (names : List (List ℕ)) (ends : List Source) → IsHierarchy design → AreEnds design ends
    → names ≡ map net_name (flat_map nets_in (scopes_in design)) → length names ≡ length ends
ends_named design names ends is own named =
    let all = flat_map nets_in (scopes_in design) in
    let count : length all ≡ length ends = sym is.elaboration.nets ∙ sym own.count in
    let a : length names ≡ length (map net_name all) = ap length named in
    let b : length (map net_name all) ≡ length all = length-map all net_name in
    omega (arith, count, a, b)

-- as many rows as names
pub rows_named : (design : Hierarchy) (names : List (List ℕ)) (rows : List PinRow) → names ≡ map flat_pin_name (pins_of_design design)
    → AllZip (IsPinRow design) (pins_of_design design) rows → length names ≡ length rows
rows_named design names rows named all =
    let count = AllZip-long (IsPinRow design) (pins_of_design design) rows all in
    let a : length names ≡ length (map flat_pin_name (pins_of_design design)) = ap length named in
    let b : length (map flat_pin_name (pins_of_design design)) ≡ length (pins_of_design design) = length-map (pins_of_design design) flat_pin_name in
    omega (arith, count, a, b)

pub pins_are : (design : Hierarchy) (names : List (List ℕ)) (rows : List PinRow) (pins : List PinInfo) → names ≡ map flat_pin_name (pins_of_design design)
    → AllZip (IsPinRow design) (pins_of_design design) rows → pins ≡ pin_infos names rows → AllZip (IsPin (flat_of design)) (flat_of design).pins pins
pins_are design names rows pins named all made =
    subst (AllZip (IsPin (flat_of design)) (pins_of_design design)) (sym (made ∙ ap (λ (ns : List (List ℕ)). pin_infos ns rows) named))
    (pins_named design (pins_of_design design) rows all)
