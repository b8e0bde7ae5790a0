-- How the expansion of a design begins, and what it has where it ends: all rows, or too large a design.
use Rattle.std.proofs.Common.{◌≡◌, ◌+◌, ◌-◌, ◌*◌, ◌<◌, ◌≤◌, ◌||◌, inl, inr, ℕ, zero, suc, min, true, false, List, [], ◌∷◌, ◌++◌, map, length, take, slice_get, nat_lt, Option, Some, None, refl, sym, ◌∙◌, ap, subst, arith}
use Rattle.std.proofs.lemmas.Bool.{le-ltb, lt-ltb, ltb-true, or_cases, or_from, or_left, or_right}
use Rattle.std.proofs.lemmas.List.{append-nil, length-append, length-map, length_push}
use Rattle.std.proofs.lemmas.List.Folds.{list_any-append}
use Rattle.std.proofs.lemmas.Option.{slice_get_within}
use Rattle.std.proofs.Math.Seq.{take-length}
use Rattle.std.specs.List.{filter_map, list_any}
use Rattle.source_types.specs.declared.libraries.Library.{Library}
use Rattle.source_types.specs.declared.netlists.Module.{Module}
use Rattle.flat_model.specs.FlatDesign.{flat, port_pins}
use Rattle.flat_model.specs.FlatFaults as faults
use Rattle.flat_model.specs.FlatNets.{nets_in}
use Rattle.flat_model.specs.Flattening.{NoneOfInstances}
use Rattle.flat_model.specs.Instances.{Placed, PlacedCell, ModuleInstance, cell_at, cells_of, entered, instances_of, level, scopes_of, top_scope}
use Rattle.flat_design.specs.declared.elaborate.expansion.Opened.{Opened}
use Rattle.flat_design.specs.declared.elaborate.expansion.NextStep.TheVariants as next_step
use Rattle.flat_design.specs.declared.elaborate.elaboration.CellRow.{CellRow}
use Rattle.flat_design.specs.declared.elaborate.elaboration.Elaboration.{Elaboration}
use Rattle.flat_design.specs.declared.elaborate.elaboration.Outer.{Outer}
use Rattle.flat_design.specs.declared.elaborate.elaboration.ModuleInstanceRow.{ModuleInstanceRow}
use Rattle.flat_design.specs.declared.elaborate.walk.Step.{Step}
use Rattle.flat_design.specs.Expansion.{HasElaboration, begun, next_step_at}
use Rattle.flat_design.specs.Elaboration.{AreModuleInstances, IsModuleInstance, capped, is_too_large, kind_pins, net_count, nets_of, pins_in, port_count, top_elaboration, with_cell, with_scope}
use Rattle.flat_design.specs.Steps.{all_steps, steps_in}
use Rattle.flat_design.proofs.CountFacts.{nets_length, ports_length}
use Rattle.flat_design.proofs.ExpansionSteps.{Expanding, IsSmall, is_deep, small, stepped_in}
use Rattle.flat_design.proofs.PinCounts.{parts_le, pins_length}
use Rattle.flat_design.proofs.RangeFacts.{map_at}
use Rattle.flat_design.proofs.LeftOver.{IsOpen, Stepped, below_first, below_from}
use Rattle.flat_design.proofs.PlaceFacts.{take_none}

-- ---- too large a design

seen_few : (modules : List Module) (library : Library) (top : Module) (elaboration : Elaboration) (stack : List Opened)
    → (e : Expanding modules library top elaboration stack) → length e.seen + length e.left ≡ length (instances_of modules top)
seen_few modules library top elaboration stack e = sym (length-append e.seen e.left) ∙ ap length e.whole

more_pins : (modules : List Module) (library : Library) (top : Module) (elaboration : Elaboration) (stack : List Opened) → Expanding modules library top elaboration stack
    → 1000000 < elaboration.pins → 1000000 < length (flat modules library top).pins
more_pins modules library top elaboration stack e high =
    let whole = pins_length modules library top in
    let part = parts_le kind_pins (cells_of modules library top) (length elaboration.cells) in
    omega (arith, high, whole, part, e.pins)

more_nets : (modules : List Module) (library : Library) (top : Module) (elaboration : Elaboration) (stack : List Opened) → Expanding modules library top elaboration stack
    → 4000000 < elaboration.nets → 4000000 < length (flat modules library top).nets
more_nets modules library top elaboration stack e high =
    let part = parts_le nets_in (scopes_of modules top) (length elaboration.scopes) in
    omega (arith, high, part, e.nets)

more_instances : (modules : List Module) (library : Library) (top : Module) (elaboration : Elaboration) (stack : List Opened) → Expanding modules library top elaboration stack
    → 4000001 < min (length elaboration.scopes + length elaboration.cells) 4000002 → 4000000 < length (instances_of modules top)
more_instances modules library top elaboration stack e high =
    let few = seen_few modules library top elaboration stack e in
    omega (arith, high, few, e.count)

pub large : (modules : List Module) (library : Library) (top : Module) (elaboration : Elaboration) (stack : List Opened) → Expanding modules library top elaboration stack
    → is_too_large elaboration ≡ true → faults.is_too_large (flat modules library top) ≡ true
large modules library top elaboration stack e is =
    let f = flat modules library top in
    elim (or_cases (nat_lt 1000000 elaboration.pins || nat_lt 4000000 elaboration.nets) (nat_lt 4000001 (capped (length elaboration.scopes) (length elaboration.cells))) is) [
      | inl two ↦ elim (or_cases (nat_lt 1000000 elaboration.pins) (nat_lt 4000000 elaboration.nets) two) [
        | inl pins ↦ or_left (nat_lt 1000000 (length f.pins)) _ (lt-ltb 1000000 (length f.pins)
            (more_pins modules library top elaboration stack e (ltb-true 1000000 elaboration.pins pins)))
        | inr nets ↦ or_right (nat_lt 1000000 (length f.pins)) _ (or_right (nat_lt 4000000 (length f.instances)) _
            (or_left (nat_lt 4000000 (length f.nets)) _ (lt-ltb 4000000 (length f.nets)
            (more_nets modules library top elaboration stack e (ltb-true 4000000 elaboration.nets nets)))))
      ]
      | inr things ↦ or_right (nat_lt 1000000 (length f.pins)) _ (or_left (nat_lt 4000000 (length f.instances)) _ (lt-ltb 4000000 (length f.instances)
          (more_instances modules library top elaboration stack e (ltb-true 4000001 (capped (length elaboration.scopes) (length elaboration.cells)) things))))
    ]

deep_at : (seen : List Placed) (placed : Placed) (rest all : List Placed) → seen ++ placed ∷ rest ≡ all → 100 < level placed → list_any is_deep all ≡ true
deep_at seen placed rest all whole high =
    ap (list_any is_deep) (sym whole)
    ∙ (list_any-append is_deep seen (placed ∷ rest)
    ∙ or_right (list_any is_deep seen) _ (or_left (is_deep placed) (list_any is_deep rest) (lt-ltb 100 (level placed) high)))

pub deep : (modules : List Module) (library : Library) (top : Module) (elaboration : Elaboration) (f : Opened) (outer : List Opened)
    → Expanding modules library top elaboration (f ∷ outer) → NoneOfInstances modules library (flat modules library top)
    → next_step_at (all_steps modules library) f ≡ next_step.Deep → faults.is_too_large (flat modules library top) ≡ true
deep modules library top elaboration f outer e none is =
    let all = flat modules library top in
    let t : Stepped modules library (scopes_of modules top) f outer e.left next_step.Deep = stepped_in modules library top elaboration f outer next_step.Deep e none is in
    or_right (nat_lt 1000000 (length all.pins)) _ (or_right (nat_lt 4000000 (length all.instances)) _ (or_right (nat_lt 4000000 (length all.nets)) _
    (deep_at e.seen t.0 t.1 (instances_of modules top) (ap (λ (things : List Placed). e.seen ++ things) (sym t.2) ∙ e.whole) t.3)))

-- ---- how it ends

pub finish : (modules : List Module) (library : Library) (top : Module) (elaboration : Elaboration) → Expanding modules library top elaboration []
    → is_too_large elaboration ≡ false → HasElaboration modules library top (Some elaboration)
finish modules library top elaboration e is =
    let f = flat modules library top in
    let low : IsSmall elaboration = small elaboration is in
    let all : e.seen ≡ instances_of modules top =
    sym (append-nil e.seen) ∙ (ap (λ (things : List Placed). e.seen ++ things) (sym e.waiting) ∙ e.whole) in
    let scopes : length elaboration.scopes ≡ length (scopes_of modules top) =
    e.scope_count ∙ ap (λ (things : List Placed). suc (length (filter_map (entered modules) things))) all in
    let cells : length elaboration.cells ≡ length (cells_of modules library top) =
    e.cell_count ∙ ap (λ (things : List Placed). length (filter_map (cell_at modules library) things)) all in
    let nets : elaboration.nets ≡ min (nets_of (scopes_of modules top)) 4000002 =
    e.nets ∙ ap (λ (things : List ModuleInstance). min (nets_of things) 4000002) (ap (λ (n : ℕ). take n (scopes_of modules top)) scopes ∙ take-length (scopes_of modules top)) in
    let pins : elaboration.pins ≡ min (length (port_pins top) + pins_in (cells_of modules library top)) 4000002 =
    e.pins ∙ ap (λ (things : List PlacedCell). min (length (port_pins top) + pins_in things) 4000002)
    (ap (λ (n : ℕ). take n (cells_of modules library top)) cells ∙ take-length (cells_of modules library top)) in
    let whole = pins_length modules library top in
    let count = ap length all in (
      or_from (nat_lt 1000000 (length f.pins)) _ (le-ltb 1000000 (length f.pins) (omega (arith, whole, pins, low.pins)))
          (or_from (nat_lt 4000000 (length f.instances)) _ (le-ltb 4000000 (length f.instances) (omega (arith, count, e.count, low.things)))
          (or_from (nat_lt 4000000 (length f.nets)) _ (le-ltb 4000000 (length f.nets) (omega (arith, nets, low.nets)))
          (sym (ap (list_any is_deep) all) ∙ e.shallow))),
      record {
        scope_count = scopes;
        cell_count = cells;
        scopes = e.scopes;
        cells = e.cells;
        nets = omega (arith, nets, low.nets);
        pins = omega (arith, pins, low.pins);
        few_nets = low.nets;
        few_pins = low.pins;
      },
    )

-- ---- how it begins

top_row : (modules : List Module) (body : Module) (t : ℕ) (row : ModuleInstanceRow) → slice_get modules t ≡ Some body
    → row ≡ record { body = t; outer = None; first_net = 0 } → IsModuleInstance modules (scopes_of modules body) 0 row
top_row modules body t row at is =
    subst (IsModuleInstance modules (scopes_of modules body) 0) (sym is) (record { scope = top_scope body; at = refl; body = at; opened = (refl, refl, refl); earlier = tt; first = refl })

top_rows : (modules : List Module) (body : Module) (t : ℕ) → slice_get modules t ≡ Some body
    → AreModuleInstances modules (scopes_of modules body) (record { body = t; outer = None; first_net = 0 } ∷ [])
top_rows modules body t at zero row found =
    let e : Some (record { body = t; outer = None; first_net = 0 }) ≡ Some row = found in
    let same : row ≡ record { body = t; outer = None; first_net = 0 } = cc in
    top_row modules body t row at same
top_rows modules body t at (suc place) row found = let bad : None ≡ Some row = found in cc

no_row : (place : ℕ) (row : CellRow) → slice_get [] place ≡ Some row → ⊥
no_row place row found = let bad : None ≡ Some row = found in cc

pub begins : (modules : List Module) (library : Library) (body : Module) (t nets ports : ℕ) → slice_get modules t ≡ Some body
    → nets ≡ net_count body.nets → ports ≡ port_count body.ports
    → Expanding modules library body (top_elaboration t nets ports) (begun 0 t 0 ∷ [])
begins modules library body t nets ports at nets_are ports_are =
    let none : length modules ≡ length modules - 0 = omega arith in
    let own = nets_length (top_scope body) in
    let front = length-append (nets_in (top_scope body)) [] in
    let all = ports_length body in
    let cells = ap (λ (things : List PlacedCell). pins_in things) (take_none (cells_of modules library body)) in
    record {
      seen = [];
      left = instances_of modules body;
      whole = refl;
      waiting = (
        top_scope body,
        record { at = refl; body = at; level = refl },
        (
          [],
          below_first modules (length modules) (top_scope body)
              ∙ (ap (λ (n : ℕ). below_from modules n (top_scope body) 0) none ∙ sym (append-nil (below_from modules (length modules - 0) (top_scope body) 0))),
          refl,
        ),
      );
      early = (omega arith, tt);
      scope_count = refl;
      cell_count = refl;
      count = refl;
      scopes = top_rows modules body t at;
      cells = λ place row found. absurd (no_row place row found);
      nets = omega (arith, own, front, nets_are);
      pins = omega (arith, all, cells, ports_are);
      shallow = refl;
    }

-- ---- that it ends

-- twice the rows that are still to come, and the modules that are being expanded
abbrev pub rows_left : List Module → Module → Elaboration → List Opened → ℕ
rows_left modules top elaboration stack = 2 * (suc (length (instances_of modules top)) - (length elaboration.scopes + length elaboration.cells)) + length stack

-- there is room for one more row where an instance is next
room : (modules : List Module) (library : Library) (top : Module) (elaboration : Elaboration) (stack : List Opened) (e : Expanding modules library top elaboration stack)
    (placed : Placed) (rest : List Placed) → e.left ≡ placed ∷ rest → length elaboration.scopes + length elaboration.cells ≤ length (instances_of modules top)
room modules library top elaboration stack e placed rest is =
    let few = seen_few modules library top elaboration stack e in
    let one : length e.left ≡ suc (length rest) = ap length is in
    omega (arith, few, one, e.count)

pub room_cell : (modules : List Module) (library : Library) (top : Module) (elaboration : Elaboration) (f : Opened) (outer : List Opened) (kind : ℕ)
    → Expanding modules library top elaboration (f ∷ outer) → NoneOfInstances modules library (flat modules library top)
    → next_step_at (all_steps modules library) f ≡ next_step.Cell kind → length elaboration.scopes + length elaboration.cells ≤ length (instances_of modules top)
room_cell modules library top elaboration f outer kind e none is =
    let t : Stepped modules library (scopes_of modules top) f outer e.left (next_step.Cell kind) = stepped_in modules library top elaboration f outer (next_step.Cell kind) e none is in
    room modules library top elaboration (f ∷ outer) e t.0 t.1 t.2

pub room_enter : (modules : List Module) (library : Library) (top : Module) (elaboration : Elaboration) (f : Opened) (outer : List Opened) (p : ℕ)
    → Expanding modules library top elaboration (f ∷ outer) → NoneOfInstances modules library (flat modules library top)
    → next_step_at (all_steps modules library) f ≡ next_step.Enter p → length elaboration.scopes + length elaboration.cells ≤ length (instances_of modules top)
room_enter modules library top elaboration f outer p e none is =
    let t : Stepped modules library (scopes_of modules top) f outer e.left (next_step.Enter p) = stepped_in modules library top elaboration f outer (next_step.Enter p) e none is in
    room modules library top elaboration (f ∷ outer) e t.0 t.1 t.2

-- one more row is one fewer left, even with one more module that is being expanded
pub fewer : (n rows more depth deeper : ℕ) → rows ≤ n → more ≡ rows + 1 → deeper ≤ depth + 1 → 2 * (suc n - more) + deeper < 2 * (suc n - rows) + depth
fewer n rows more depth deeper low next level = omega (arith, low, next, level)

-- ---- what is within bounds

pub body_opened : (modules : List Module) (library : Library) (top : Module) (elaboration : Elaboration) (f : Opened) (outer : List Opened) (steps : List (List Step))
    → Expanding modules library top elaboration (f ∷ outer) → steps ≡ all_steps modules library → f.body < length steps
body_opened modules library top elaboration f outer steps e is =
    let own : IsOpen modules (scopes_of modules top) f e.waiting.0 = e.waiting.1 in
    let low = slice_get_within modules f.body e.waiting.0.body own.body in
    let count : length (all_steps modules library) ≡ length modules = length-map modules (steps_in modules library) in
    let same = ap length is in
    omega (arith, low, count, same)

pub kind_stepped : (modules : List Module) (library : Library) (top : Module) (elaboration : Elaboration) (f : Opened) (outer : List Opened) (kind : ℕ)
    → Expanding modules library top elaboration (f ∷ outer) → NoneOfInstances modules library (flat modules library top)
    → next_step_at (all_steps modules library) f ≡ next_step.Cell kind → kind < length library.cells
kind_stepped modules library top elaboration f outer kind e none is =
    let t : Stepped modules library (scopes_of modules top) f outer e.left (next_step.Cell kind) = stepped_in modules library top elaboration f outer (next_step.Cell kind) e none is in
    slice_get_within library.cells kind t.4.0 t.4.1

pub inner_stepped : (modules : List Module) (library : Library) (top : Module) (elaboration : Elaboration) (f : Opened) (outer : List Opened) (p : ℕ) (counts : List ℕ)
    → Expanding modules library top elaboration (f ∷ outer) → NoneOfInstances modules library (flat modules library top)
    → next_step_at (all_steps modules library) f ≡ next_step.Enter p → counts ≡ map (λ (m : Module). net_count m.nets) modules → p < length counts
inner_stepped modules library top elaboration f outer p counts e none is same =
    let t : Stepped modules library (scopes_of modules top) f outer e.left (next_step.Enter p) = stepped_in modules library top elaboration f outer (next_step.Enter p) e none is in
    let low = slice_get_within modules p t.4.0 t.4.1 in
    let count : length (map (λ (m : Module). net_count m.nets) modules) ≡ length modules = length-map modules (λ (m : Module). net_count m.nets) in
    let equal = ap length same in
    omega (arith, low, count, equal)

-- the count of the nets of a module
pub count_of : (modules : List Module) (counts : List ℕ) (p n : ℕ) (b : Module) → counts ≡ map (λ (m : Module). net_count m.nets) modules
    → slice_get counts p ≡ Some n → slice_get modules p ≡ Some b → n ≡ net_count b.nets
count_of modules counts p n b same at found =
    let e : Some n ≡ Some (net_count b.nets) =
    sym at ∙ (ap (λ (xs : List ℕ). slice_get xs p) same ∙ map_at (λ (m : Module). net_count m.nets) modules p b found) in
    cc

pub inner_count : (modules : List Module) (counts : List ℕ) (p n : ℕ) → counts ≡ map (λ (m : Module). net_count m.nets) modules → slice_get counts p ≡ Some n
    → (b : Module) (scope : ModuleInstance) → slice_get modules p ≡ Some b → scope.body ≡ b → n ≡ min (length (nets_in scope)) 4000002
inner_count modules counts p n same at b scope found is =
    count_of modules counts p n b same at found
    ∙ (ap (λ (m : Module). net_count m.nets) (sym is) ∙ ap (λ (k : ℕ). min k 4000002) (sym (nets_length scope)))

-- one more row
pub cell_adds : (elaboration : Elaboration) (at : Outer) (kind pins : ℕ)
    → length (with_cell elaboration at kind pins).scopes + length (with_cell elaboration at kind pins).cells ≡ length elaboration.scopes + length elaboration.cells + 1
cell_adds elaboration at kind pins =
    let e = length_push elaboration.cells (record { at = at; kind = kind; first_pin = elaboration.pins }) in
    omega (arith, e)

pub scope_adds : (elaboration : Elaboration) (p : ℕ) (outer : Option Outer) (nets : ℕ)
    → length (with_scope elaboration p outer nets).scopes + length (with_scope elaboration p outer nets).cells ≡ length elaboration.scopes + length elaboration.cells + 1
scope_adds elaboration p outer nets =
    let e = length_push elaboration.scopes (record { body = p; outer = outer; first_net = elaboration.nets }) in
    omega (arith, e)
