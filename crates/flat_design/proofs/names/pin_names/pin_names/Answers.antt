use Rattle.std.proofs.Common.{◌≡◌, ◌++◌, ◌<◌, ◌≤◌, List, ℕ, length, slice_get, sym, ◌∙◌, ap, arith}
use Rattle.std.proofs.lemmas.List.{append-nil, length-map, take_all}
use Rattle.std.specs.List.{flat_map}
use Rattle.pin_types.specs.declared.library_cells.LibCell.{LibCell}
use Rattle.source_types.specs.declared.netlists.Port.{Port}
use Rattle.flat_model.specs.Instances.{PlacedCell}
use Rattle.text_model.proofs.ListFacts.{element_at}
use Rattle.flat_design.specs.Hierarchy.{cell_name, cells_in, port_names}
use Rattle.flat_design.proofs.HierarchyFacts.{one_at}
use Rattle.flat_design.proofs.PinFacts.{all_names_are, names_of_pins, pins_more}
use Rattle.flat_design.proofs.RangeFacts.{map_at}
use Rattle.flat_design.proofs.names.pin_names.pin_names.Goals as goal

pub loop-place-init : goal.loop-place-init
loop-place-init c =
    c.in_ok-names.ensures ∙ (ap (λ (ports : List Port). port_names ports) c.as_slice.ensures ∙ sym (append-nil (port_names c.args.design.now.top.now.ports)))

pub kind_at-kind-requires-clause-within : goal.kind_at-kind-requires-clause-within
kind_at-kind-requires-clause-within c =
    let same = ap length c.requires.cells in
    let count = length-map (cells_in c.args.design.now) cell_name in
    omega (arith, c.loop-place-test.true, same, count, c.requires.is.elaboration.cell_count)

pub loop-place-preserved : goal.loop-place-preserved
loop-place-preserved c =
    let cells = cells_in c.args.design.now in
    let n = c.loop-place.place in
    let same = ap length c.requires.cells in
    let count = length-map cells cell_name in
    let low : n < length cells = omega (arith, c.loop-place-test.true, same, count) in
    let here = element_at cells n low in
    let name : c.item_at-cell.result.now ≡ cell_name here.0 =
    one_at c.args.cell_names.now n c.item_at-cell.result.now (cell_name here.0) c.item_at-cell.ensures
    (ap (λ (xs : List (List ℕ)). slice_get xs n) c.requires.cells ∙ map_at cell_name cells n here.0 here.1) in
    c.in_ok-add_pin_names.ensures ∙ pins_more (port_names c.args.design.now.top.now.ports) cells n here.0 c.loop-place.names c.as_str.result.now c.as_slice-in-loop-place.result.now here.1
    (c.as_str.ensures ∙ name) (c.as_slice-in-loop-place.ensures ∙ ap (λ (kind : LibCell). kind.pins) (c.kind_at-kind.ensures here.0 here.1)) c.loop-place.invariant

pub returns : goal.returns
returns c =
    let cells = cells_in c.args.design.now in
    let same = ap length c.requires.cells in
    let count = length-map cells cell_name in
    let all : length cells ≤ c.loop-place.place = omega (arith, c.loop-place-test.false, same, count) in
    c.loop-place.invariant
    ∙ (ap (λ (xs : List PlacedCell). port_names c.args.design.now.top.now.ports ++ flat_map names_of_pins xs) (take_all c.loop-place.place cells all)
    ∙ all_names_are c.args.design.now.modules.now c.args.design.now.library.now c.args.design.now.top.now)
