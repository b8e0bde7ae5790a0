-- A cell by what is known of it.
use Rattle.std.proofs.Common.{◌≡◌, ◌∙◌, ◌||◌, ◌&&◌, ◌++◌, ◌+◌, ◌≤◌, ℕ, suc, Bool, true, false, cond, List, [], ◌∷◌, filter, length, length-append, map, not, Option, Some, None, Result, Ok, Err, refl, sym, ap, arith}
use Rattle.std.specs.List.{filter_map, fold, list_any}
use Rattle.pin_types.specs.declared.functions.Expr.{Expr}
use Rattle.source_types.specs.declared.kinds.LibKind.{LibKind}
use Rattle.pin_types.specs.declared.library_cells.LibArc.{LibArc}
use Rattle.pin_types.specs.declared.library_cells.LibCell.{LibCell}
use Rattle.pin_types.specs.declared.library_cells.LibCheck.{LibCheck}
use Rattle.pin_types.specs.declared.library_cells.LibPin.{LibPin}
use Rattle.library_model.specs.LibertyArcs as liberty
use Rattle.library_model.specs.LibertyCells as cells
use Rattle.library_model.specs.LibertyStatements.{Member}
use Rattle.lib_cells.specs.CellFacts.{Describes}
use Rattle.lib_cells.specs.CellValues.{has_wide, pin_value, refused}
use Rattle.lib_cells.specs.FunctionNames.{function_value, is_wide_text, names_of, placed_if}
use Rattle.lib_cells.specs.RelatedPins.{related_all}
use Rattle.lib_cells.specs.declared.cell.cell_names.CellNames.{CellNames}
use Rattle.lib_cells.proofs.RelatedFacts.{related_same}

-- ---- names that functions are read with

filter_few : {X : Type 0} (test : X → Bool) (xs : List X) → length (filter test xs) ≤ length xs
filter_few test [] = omega arith
filter_few test (x ∷ xs) = by_test (test x) (filter_few test xs) where
  by_test : (t : Bool) → length (filter test xs) ≤ length xs → length (cond t (x ∷ filter test xs) (filter test xs)) ≤ length (x ∷ xs)
  by_test true h = omega (arith, h)
  by_test false h = omega (arith, h)

filter_join : {X : Type 0} (test : X → Bool) (xs ys : List X) → filter test (xs ++ ys) ≡ filter test xs ++ filter test ys
filter_join test [] ys = refl
filter_join test (x ∷ xs) ys = by_test (test x) (filter_join test xs ys) where
  by_test : (t : Bool) → filter test (xs ++ ys) ≡ filter test xs ++ filter test ys
      → cond t (x ∷ filter test (xs ++ ys)) (filter test (xs ++ ys)) ≡ cond t (x ∷ filter test xs) (filter test xs) ++ filter test ys
  by_test true h = ap (λ zs. x ∷ zs) h
  by_test false h = h

abbrev pub names_in : List cells.NamedPin → List (List ℕ)
names_in ps = map (λ (pin : cells.NamedPin). pin.name) ps

names_length : (ps : List cells.NamedPin) → length (names_in ps) ≡ length ps
names_length [] = refl
names_length (pin ∷ ps) = let h = names_length ps in omega (arith, h)

inputs_step : (t n m : Bool) (pin : cells.NamedPin) (inputs others : List cells.NamedPin) (k : ℕ)
    → length inputs + length (filter cells.is_named (names_in others)) ≤ k
    → cells.is_named pin.name ≡ m
    → length (cond (t && n) (pin ∷ inputs) inputs) + length (filter cells.is_named (names_in (cond (not t) (pin ∷ others) others))) ≤ 1 + k
inputs_step true true m pin inputs others k h e = omega arith
inputs_step true false m pin inputs others k h e = omega arith
inputs_step false n true pin inputs others k h e =
    let g : length (filter cells.is_named (names_in (pin ∷ others))) ≡ suc (length (filter cells.is_named (names_in others))) =
    ap (λ t. length (cond t (pin.name ∷ filter cells.is_named (names_in others)) (filter cells.is_named (names_in others)))) e in
    omega (arith, h, g)
inputs_step false n false pin inputs others k h e =
    let g : length (filter cells.is_named (names_in (pin ∷ others))) ≡ length (filter cells.is_named (names_in others)) =
    ap (λ t. length (cond t (pin.name ∷ filter cells.is_named (names_in others)) (filter cells.is_named (names_in others)))) e in
    omega (arith, h, g)

-- an input is no other pin
inputs_and_others : (ps : List cells.NamedPin) → length (filter cells.is_named_input ps) + length (filter cells.is_named (cells.other_names ps)) ≤ length ps
inputs_and_others [] = omega arith
inputs_and_others (pin ∷ ps) =
    let h = inputs_step (cells.is_input (cells.direction_of pin)) (cells.is_named pin.name) (cells.is_named pin.name) pin (filter cells.is_named_input ps)
    (filter (λ one. not (cells.is_input (cells.direction_of one))) ps) (length ps) (inputs_and_others ps) refl in
    omega (arith, h)

pub names_few : (ps : List cells.NamedPin) (states : List (List ℕ)) → length ps + length states ≤ 60000 → length (names_of ps states) ≤ 60001
names_few ps states few =
    let joined = length-append (names_in (filter cells.is_named_input ps)) ([] ∷ filter cells.is_named (states ++ cells.other_names ps)) in
    let mapped = names_length (filter cells.is_named_input ps) in
    let split = ap length (filter_join cells.is_named states (cells.other_names ps)) in
    let parted = length-append (filter cells.is_named states) (filter cells.is_named (cells.other_names ps)) in
    let pins_few = inputs_and_others ps in
    let states_few = filter_few cells.is_named states in
    omega (arith, joined, mapped, split, parted, pins_few, states_few)

-- ---- a refused cell, or a whole one

any_same : (f g : Member → Bool) → ((m : Member) → f m ≡ g m) → (ms : List Member) → list_any f ms ≡ list_any g ms
any_same f g same [] = refl
any_same f g same (m ∷ ms) = ap (λ t. t || list_any f ms) (same m) ∙ ap (λ t. g m || t) (any_same f g same ms)

wide_text : (cell : Member) (text : Option (List ℕ)) → is_wide_text (cells.function_names cell) text ≡ cells.is_wide_text cell text
wide_text cell None = refl
wide_text cell (Some text) = refl

wide_same : (known : CellNames) (cell : Member) → Describes known cell → has_wide known.function_names (cells.pin_groups cell) ≡ cells.has_wide_function cell
wide_same known cell described =
    ap (λ names. has_wide names (cells.pin_groups cell)) described.function_names
    ∙ any_same (λ (group : Member). is_wide_text (cells.function_names cell) (cells.function_text group)) (λ (group : Member). cells.is_wide_text cell (cells.function_text group))
    (λ group. wide_text cell (cells.function_text group)) (cells.pin_groups cell)

-- the related pins of a cell
pub related_known : (known : CellNames) (cell : Member) → Describes known cell
    → related_all known.places (length known.pins.items) 0 known.pins.items ≡ liberty.related_pins cell
related_known known cell described =
    ap (λ ps. related_all known.places (length ps) 0 ps) described.pins
    ∙ (ap (λ n. related_all known.places n 0 (cells.pins cell)) (sym (names_length (cells.pins cell)))
    ∙ related_same known.places (cells.pin_names cell) (cells.state_variables cell) described.places 0 (cells.pins cell))

arcs_known : (known : CellNames) (cell : Member) (related : List liberty.Related) → Describes known cell → related ≡ liberty.related_pins cell
    → fold liberty.with_arc [] (filter_map (liberty.arc_if known.pins.items) related) ≡ liberty.arcs_of cell
arcs_known known cell related described is =
    ap (λ ps. fold liberty.with_arc [] (filter_map (liberty.arc_if ps) related)) described.pins
    ∙ ap (λ rs. fold liberty.with_arc [] (filter_map (liberty.arc_if (cells.pins cell)) rs)) is

-- what a cell is, by whether it is refused
abbrev pub whole : Member → LibCell
whole cell = record {
  name = cells.name_of cell;
  pins = map (cells.lib_pin cell) (cells.pins cell);
  arcs = liberty.arcs_of cell;
  checks = liberty.checks_of cell;
  refused = false;
}

by_tests : (cell : Member) (left_out wide twice : Bool) → cells.is_left_out cell ≡ left_out → cells.has_wide_function cell ≡ wide → liberty.has_two_launches cell ≡ twice
    → liberty.lib_cell cell ≡ cond (left_out || wide || twice) (refused (cells.name_of cell)) (whole cell)
by_tests cell left_out wide twice e f g =
    ap (λ t. cond (t || cells.has_wide_function cell || liberty.has_two_launches cell) (refused (cells.name_of cell)) (whole cell)) e
    ∙ (ap (λ t. cond (left_out || t || liberty.has_two_launches cell) (refused (cells.name_of cell)) (whole cell)) f
    ∙ ap (λ t. cond (left_out || wide || t) (refused (cells.name_of cell)) (whole cell)) g)

pub cell_left_out : (cell : Member) (name : List ℕ) (is : LibCell) → name ≡ cells.name_of cell → cells.is_left_out cell ≡ true → is ≡ refused name
    → is ≡ liberty.lib_cell cell
cell_left_out cell name is named left_out e =
    e ∙ (ap refused named ∙ sym (by_tests cell true (cells.has_wide_function cell) (liberty.has_two_launches cell) left_out refl refl))

-- a test of the code, of all `pin` groups
narrow_or_wide : (known : CellNames) (cell : Member) (groups : List Member) (wide : Bool) → Describes known cell → groups ≡ cells.pin_groups cell
    → wide ≡ has_wide known.function_names groups → wide ≡ cells.has_wide_function cell
narrow_or_wide known cell groups wide described are e =
    e ∙ (ap (has_wide known.function_names) are ∙ wide_same known cell described)

pub cell_wide : (known : CellNames) (cell : Member) (name : List ℕ) (groups : List Member) (wide : Bool) (is : LibCell)
    → name ≡ cells.name_of cell → cells.is_left_out cell ≡ false → Describes known cell → groups ≡ cells.pin_groups cell
    → wide ≡ has_wide known.function_names groups → wide ≡ true → is ≡ refused name → is ≡ liberty.lib_cell cell
cell_wide known cell name groups wide is named taken described are e yes_wide r =
    r ∙ (ap refused named
    ∙ sym (by_tests cell false true (liberty.has_two_launches cell) taken (sym (narrow_or_wide known cell groups wide described are e) ∙ yes_wide) refl))

-- an output of these pins is launched from two pins
abbrev pub twice : List cells.NamedPin → List LibArc → Bool
twice ps arcs = list_any (λ (arc : LibArc). liberty.is_output (liberty.direction_at ps arc.to) && liberty.is_launched_twice arcs arc.to) arcs

twice_same : (known : CellNames) (cell : Member) (related : List liberty.Related) (arcs : List LibArc) → Describes known cell
    → related ≡ related_all known.places (length known.pins.items) 0 known.pins.items
    → arcs ≡ fold liberty.with_arc [] (filter_map (liberty.arc_if known.pins.items) related)
    → twice known.pins.items arcs ≡ liberty.has_two_launches cell
twice_same known cell related arcs described is are =
    ap (λ ps. twice ps arcs) described.pins
    ∙ ap (twice (cells.pins cell)) (are ∙ arcs_known known cell related described (is ∙ related_known known cell described))

pub cell_launched : (known : CellNames) (cell : Member) (name : List ℕ) (groups : List Member) (wide : Bool) (related : List liberty.Related) (arcs : List LibArc)
    (two : Bool) (is : LibCell)
    → name ≡ cells.name_of cell → cells.is_left_out cell ≡ false → Describes known cell → groups ≡ cells.pin_groups cell
    → wide ≡ has_wide known.function_names groups → wide ≡ false
    → related ≡ related_all known.places (length known.pins.items) 0 known.pins.items
    → arcs ≡ fold liberty.with_arc [] (filter_map (liberty.arc_if known.pins.items) related)
    → two ≡ twice known.pins.items arcs → two ≡ true → is ≡ refused name → is ≡ liberty.lib_cell cell
cell_launched known cell name groups wide related arcs two is named taken described are e narrow related_are arcs_are two_is launched r =
    r ∙ (ap refused named
    ∙ sym (by_tests cell false false true taken (sym (narrow_or_wide known cell groups wide described are e) ∙ narrow)
    (sym (twice_same known cell related arcs described related_are arcs_are) ∙ (sym two_is ∙ launched))))

placed_same : (cell : Member) (meaning : Result (Option Expr) LibKind) → placed_if (cells.input_places 0 (cells.pins cell)) meaning ≡ cells.function_if cell meaning
placed_same cell (Ok e) = refl
placed_same cell (Err kind) = refl

function_same : (cell : Member) (text : Option (List ℕ)) → function_value (cells.function_names cell) (cells.input_places 0 (cells.pins cell)) text ≡ cells.function_of cell text
function_same cell None = refl
function_same cell (Some text) = placed_same cell (cells.function_meaning cell text)

pins_same : (cell : Member) (ps : List cells.NamedPin)
    → map (pin_value (cells.function_names cell) (cells.input_places 0 (cells.pins cell))) ps ≡ map (cells.lib_pin cell) ps
pins_same cell [] = refl
pins_same cell (pin ∷ ps) =
    ap (λ f. record { name = pin.name; direction = cells.direction_of pin; function = f } ∷ map (pin_value (cells.function_names cell) (cells.input_places 0 (cells.pins cell))) ps)
    (function_same cell (cells.function_text pin.group))
    ∙ ap (λ qs. cells.lib_pin cell pin ∷ qs) (pins_same cell ps)

pins_known : (known : CellNames) (cell : Member) → Describes known cell
    → map (pin_value known.function_names known.input_places.items) known.pins.items ≡ map (cells.lib_pin cell) (cells.pins cell)
pins_known known cell described =
    ap (λ ps. map (pin_value known.function_names known.input_places.items) ps) described.pins
    ∙ (ap (λ names. map (pin_value names known.input_places.items) (cells.pins cell)) described.function_names
    ∙ (ap (λ places. map (pin_value (cells.function_names cell) places) (cells.pins cell)) described.input_places
    ∙ pins_same cell (cells.pins cell)))

-- a cell of a name, pins, arcs and checks that is not refused
abbrev pub taken_cell : List ℕ → List LibPin → List LibArc → List LibCheck → LibCell
taken_cell name ps arcs checks = record { name = name; pins = ps; arcs = arcs; checks = checks; refused = false }

pub cell_whole : (known : CellNames) (cell : Member) (name : List ℕ) (groups : List Member) (wide : Bool) (related : List liberty.Related) (arcs : List LibArc)
    (two : Bool) (ps : List LibPin) (checks : List LibCheck)
    → name ≡ cells.name_of cell → cells.is_left_out cell ≡ false → Describes known cell → groups ≡ cells.pin_groups cell
    → wide ≡ has_wide known.function_names groups → wide ≡ false
    → related ≡ related_all known.places (length known.pins.items) 0 known.pins.items
    → arcs ≡ fold liberty.with_arc [] (filter_map (liberty.arc_if known.pins.items) related)
    → two ≡ twice known.pins.items arcs → two ≡ false
    → ps ≡ map (pin_value known.function_names known.input_places.items) known.pins.items
    → checks ≡ fold liberty.with_check [] (filter_map liberty.check_if related)
    → taken_cell name ps arcs checks ≡ liberty.lib_cell cell
cell_whole known cell name groups wide related arcs two ps checks named taken described groups_are e narrow is are two_is launched pins_are checks_are =
    ap (λ n. taken_cell n ps arcs checks) named
    ∙ (ap (λ qs. taken_cell (cells.name_of cell) qs arcs checks) (pins_are ∙ pins_known known cell described)
    ∙ (ap (λ bs. taken_cell (cells.name_of cell) (map (cells.lib_pin cell) (cells.pins cell)) bs checks) (are ∙ arcs_known known cell related described all)
    ∙ (ap (λ cs. taken_cell (cells.name_of cell) (map (cells.lib_pin cell) (cells.pins cell)) (liberty.arcs_of cell) cs) (checks_are ∙ ap (λ rs. fold liberty.with_check [] (filter_map liberty.check_if rs)) all)
    ∙ sym (by_tests cell false false false taken (sym (narrow_or_wide known cell groups wide described groups_are e) ∙ narrow)
    (sym (twice_same known cell related arcs described is are) ∙ (sym two_is ∙ launched)))))) where
      all : related ≡ liberty.related_pins cell
      all = is ∙ related_known known cell described

-- ---- few names

pub known_few : (known : CellNames) (cell : Member) → Describes known cell → length known.function_names ≤ 60001
known_few known cell described =
    let is = ap length described.function_names in
    let few = names_few (cells.pins cell) (cells.state_variables cell) described.few in
    omega (arith, is, few)

pub pins_few : (known : CellNames) (cell : Member) → Describes known cell → length known.pins.items ≤ 60000
pins_few known cell described =
    let is = ap length described.pins in
    let few = described.few in
    omega (arith, is, few)
