-- What holds of the expansion of a design at each of its steps.
use Rattle.std.proofs.Common.{◌≡◌, ◌+◌, ◌<◌, ◌≤◌, ◌||◌, ℕ, suc, min, Bool, false, List, [], ◌∷◌, ◌++◌, length, take, slice_get, nat_lt, Some, refl, sym, ◌∙◌, ap, subst, arith}
use Rattle.std.proofs.lemmas.Bool.{le-ltb, ltb-false, or_from, or_parts}
use Rattle.std.proofs.lemmas.List.{append_assoc, length_push}
use Rattle.std.proofs.lemmas.List.Folds.{list_any-append}
use Rattle.std.specs.List.{filter_map, list_any}
use Rattle.source_types.specs.declared.fault_kinds.DesignKind.{DesignKind}
use Rattle.source_types.specs.declared.libraries.Library.{Library}
use Rattle.pin_types.specs.declared.library_cells.LibCell.{LibCell}
use Rattle.source_types.specs.declared.netlists.Module.{Module}
use Rattle.flat_model.specs.Connections.{instance_fault}
use Rattle.flat_model.specs.FlatDesign.{flat, port_pins}
use Rattle.flat_model.specs.FlatNets.{nets_in}
use Rattle.flat_model.specs.Flattening.{NoneOfInstances}
use Rattle.flat_model.specs.Instances.{Placed, PlacedCell, ModuleInstance, cell_at, cells_of, entered, instances_of, level, scope_for, scopes_of}
use Rattle.flat_design.specs.declared.elaborate.expansion.Opened.{Opened}
use Rattle.flat_design.specs.declared.elaborate.expansion.NextStep.{NextStep}
use Rattle.flat_design.specs.declared.elaborate.expansion.NextStep.TheVariants as next_step
use Rattle.flat_design.specs.declared.elaborate.elaboration.CellRow.{CellRow}
use Rattle.flat_design.specs.declared.elaborate.elaboration.Elaboration.{Elaboration}
use Rattle.flat_design.specs.declared.elaborate.elaboration.ModuleInstanceRow.{ModuleInstanceRow}
use Rattle.flat_design.specs.Expansion.{begun, frame_after, outer_of, next_step_at}
use Rattle.flat_design.specs.Elaboration.{AreCells, AreModuleInstances, IsCell, IsModuleInstance, capped, is_too_large, kind_pins, nets_of, pins_in, with_cell, with_scope}
use Rattle.flat_design.specs.Steps.{all_steps}
use Rattle.flat_design.proofs.LeftOver.{IsNext, Left, Stepped, step_leaves}
use Rattle.flat_design.proofs.PlaceFacts.{each_push, filter_skip, filter_split, get_middle, kept_at, parts_more}
use Rattle.flat_design.proofs.StepMeanings.{cell_here}

abbrev pub is_deep : Placed → Bool
is_deep placed = nat_lt 100 (level placed)

-- the modules that are being expanded have rows
abbrev pub AreEarly : ℕ → List Opened → Type 0
AreEarly count [] = Unit {0}
AreEarly count (f ∷ outer) = (f.scope < count) × AreEarly count outer

early_more : (count more : ℕ) (stack : List Opened) → count ≤ more → AreEarly count stack → AreEarly more stack
early_more count more [] le early = tt
early_more count more (f ∷ outer) le early = (omega (arith, le, early.0), early_more count more outer le early.1)

-- some instances are seen, in rows, and others are left, in the modules that are being expanded
pub record Expanding (modules : List Module) (library : Library) (top : Module) (elaboration : Elaboration) (stack : List Opened) : Type 0 where
  pub seen : List Placed
  pub left : List Placed
  pub whole : seen ++ left ≡ instances_of modules top
  pub waiting : Left modules (scopes_of modules top) stack left
  pub early : AreEarly (length elaboration.scopes) stack
  pub scope_count : length elaboration.scopes ≡ suc (length (filter_map (entered modules) seen))
  pub cell_count : length elaboration.cells ≡ length (filter_map (cell_at modules library) seen)
  pub count : length elaboration.scopes + length elaboration.cells ≡ suc (length seen)
  pub scopes : AreModuleInstances modules (scopes_of modules top) elaboration.scopes
  pub cells : AreCells library (scopes_of modules top) (cells_of modules library top) (length (port_pins top)) elaboration.cells
  pub nets : elaboration.nets ≡ min (nets_of (take (length elaboration.scopes) (scopes_of modules top))) 4000002
  pub pins : elaboration.pins ≡ min (length (port_pins top) + pins_in (take (length elaboration.cells) (cells_of modules library top))) 4000002
  pub shallow : list_any is_deep seen ≡ false

-- ---- numbers

-- an elaboration that is not too large
pub record IsSmall (elaboration : Elaboration) : Type 0 where
  pub pins : elaboration.pins ≤ 1000000
  pub nets : elaboration.nets ≤ 4000000
  pub things : length elaboration.scopes + length elaboration.cells ≤ 4000001

pub small : (elaboration : Elaboration) → is_too_large elaboration ≡ false → IsSmall elaboration
small elaboration is =
    let all = or_parts (nat_lt 1000000 elaboration.pins || nat_lt 4000000 elaboration.nets) (nat_lt 4000001 (capped (length elaboration.scopes) (length elaboration.cells))) is in
    let two = or_parts (nat_lt 1000000 elaboration.pins) (nat_lt 4000000 elaboration.nets) all.0 in
    record {
      pins = ltb-false 1000000 elaboration.pins two.0;
      nets = ltb-false 4000000 elaboration.nets two.1;
      things = (let h : min (length elaboration.scopes + length elaboration.cells) 4000002 ≤ 4000001 = ltb-false 4000001 (capped (length elaboration.scopes) (length elaboration.cells)) all.1 in omega (arith, h));
    }

exact : (n all : ℕ) → n ≡ min all 4000002 → n ≤ 4000000 → n ≡ all
exact n all is low = omega (arith, is, low)

sum_capped : (n all more whole w : ℕ) → n ≡ min all 4000002 → whole ≡ all + more → w ≡ more → min (n + w) 4000002 ≡ min whole 4000002
sum_capped n all more whole w is next same = omega (arith, is, next, same)

-- a count of nets that is capped itself
pub sum_capped_twice : (n all more whole w : ℕ) → n ≡ min all 4000002 → whole ≡ all + more → w ≡ min more 4000002 → min (n + w) 4000002 ≡ min whole 4000002
sum_capped_twice n all more whole w is next same = omega (arith, is, next, same)

shallow_more : (seen : List Placed) (placed : Placed) → list_any is_deep seen ≡ false → level placed ≤ 100 → list_any is_deep (seen ++ placed ∷ []) ≡ false
shallow_more seen placed before low =
    list_any-append is_deep seen (placed ∷ [])
    ∙ or_from (list_any is_deep seen) (is_deep placed || false) before (or_from (is_deep placed) false (le-ltb 100 (level placed) low) refl)

-- ---- the steps

-- an instance that is left has no fault
pub sound_left : (modules : List Module) (library : Library) (top : Module) (seen left : List Placed) → seen ++ left ≡ instances_of modules top
    → NoneOfInstances modules library (flat modules library top)
    → (placed : Placed) (later : List Placed) (kind : DesignKind) → left ≡ placed ∷ later → instance_fault modules library placed ≡ Some kind → ⊥
sound_left modules library top seen left whole none placed later kind is has =
    none (length seen) placed kind
    (ap (λ (things : List Placed). slice_get things (length seen)) (sym whole ∙ ap (λ (things : List Placed). seen ++ things) is)
    ∙ get_middle seen placed later) has

-- what the step of a module leaves
pub stepped_in : (modules : List Module) (library : Library) (top : Module) (elaboration : Elaboration) (f : Opened) (outer : List Opened) (t : NextStep)
    → (e : Expanding modules library top elaboration (f ∷ outer)) → NoneOfInstances modules library (flat modules library top)
    → next_step_at (all_steps modules library) f ≡ t → Stepped modules library (scopes_of modules top) f outer e.left t
stepped_in modules library top elaboration f outer t e none is =
    subst (Stepped modules library (scopes_of modules top) f outer e.left) is
    (step_leaves modules library (scopes_of modules top) f outer e.left e.waiting (sound_left modules library top e.seen e.left e.whole none))

whole_next : (modules : List Module) (top : Module) (seen left : List Placed) (placed : Placed) (rest : List Placed) → seen ++ left ≡ instances_of modules top
    → left ≡ placed ∷ rest → seen ++ placed ∷ rest ≡ instances_of modules top
whole_next modules top seen left placed rest whole is = ap (λ (things : List Placed). seen ++ things) (sym is) ∙ whole

pub step_end : (modules : List Module) (library : Library) (top : Module) (elaboration : Elaboration) (f : Opened) (outer : List Opened)
    → Expanding modules library top elaboration (f ∷ outer) → NoneOfInstances modules library (flat modules library top)
    → next_step_at (all_steps modules library) f ≡ next_step.End → Expanding modules library top elaboration outer
step_end modules library top elaboration f outer e none is = record {
  seen = e.seen;
  left = e.left;
  whole = e.whole;
  waiting = stepped_in modules library top elaboration f outer next_step.End e none is;
  early = e.early.1;
  scope_count = e.scope_count;
  cell_count = e.cell_count;
  count = e.count;
  scopes = e.scopes;
  cells = e.cells;
  nets = e.nets;
  pins = e.pins;
  shallow = e.shallow;
}

pub step_cell : (modules : List Module) (library : Library) (top : Module) (elaboration : Elaboration) (f : Opened) (outer : List Opened) (kind pins : ℕ)
    → Expanding modules library top elaboration (f ∷ outer) → NoneOfInstances modules library (flat modules library top) → is_too_large elaboration ≡ false
    → next_step_at (all_steps modules library) f ≡ next_step.Cell kind → ((cell : LibCell) → slice_get library.cells kind ≡ Some cell → pins ≡ length cell.pins)
    → Expanding modules library top (with_cell elaboration (outer_of f) kind pins) (frame_after f ∷ outer)
step_cell modules library top elaboration f outer kind pins e none fit is counts =
    let t : Stepped modules library (scopes_of modules top) f outer e.left (next_step.Cell kind) = stepped_in modules library top elaboration f outer (next_step.Cell kind) e none is in
    let placed : Placed = t.0 in
    let rest : List Placed = t.1 in
    let next : IsNext (scopes_of modules top) f placed = t.3 in
    let cell : LibCell = t.4.0 in
    let here : PlacedCell = cell_here placed cell in
    let cells : List PlacedCell = cells_of modules library top in
    let ports : ℕ = length (port_pins top) in
    let whole : e.seen ++ placed ∷ rest ≡ instances_of modules top = whole_next modules top e.seen e.left placed rest e.whole t.2 in
    let at : slice_get cells (length elaboration.cells) ≡ Some here =
    ap (slice_get cells) e.cell_count ∙ kept_at (cell_at modules library) e.seen placed rest (instances_of modules top) here whole t.4.3 in
    let low : IsSmall elaboration = small elaboration fit in
    let row : CellRow = record { at = outer_of f; kind = kind; first_pin = elaboration.pins } in
    let longer : length (elaboration.cells ++ row ∷ []) ≡ length elaboration.cells + 1 = length_push elaboration.cells row in
    let own : pins ≡ length (kind_pins here) = counts cell t.4.1 in
    let more : pins_in (take (length elaboration.cells + 1) cells) ≡ pins_in (take (length elaboration.cells) cells) + length (kind_pins here) =
    parts_more kind_pins cells (length elaboration.cells) here at in
    let seen_more : length (e.seen ++ placed ∷ []) ≡ length e.seen + 1 = length_push e.seen placed in
    record {
      seen = e.seen ++ placed ∷ [];
      left = rest;
      whole = append_assoc e.seen (placed ∷ []) rest ∙ whole;
      waiting = t.5;
      early = e.early;
      scope_count = e.scope_count ∙ ap (λ (xs : List ModuleInstance). suc (length xs)) (sym (filter_skip (entered modules) e.seen placed t.4.2));
      cell_count = longer ∙ (let old = e.cell_count in
          let new = length_push (filter_map (cell_at modules library) e.seen) here in
          let kept = ap length (filter_split (cell_at modules library) e.seen placed [] here t.4.3) in
          omega (arith, old, new, kept));
      count = omega (arith, longer, seen_more, e.count);
      scopes = e.scopes;
      cells = each_push (IsCell library (scopes_of modules top) cells ports) elaboration.cells row e.cells (record {
        cell = here;
        at = at;
        is = next.is;
        kind = t.4.1;
        first = exact elaboration.pins (ports + pins_in (take (length elaboration.cells) cells)) e.pins (omega (arith, low.pins));
      });
      nets = e.nets;
      pins = sum_capped elaboration.pins (ports + pins_in (take (length elaboration.cells) cells)) (length (kind_pins here)) (ports + pins_in (take (length elaboration.cells + 1) cells)) pins
          e.pins (omega (arith, more)) own
          ∙ ap (λ (n : ℕ). min (ports + pins_in (take n cells)) 4000002) (sym longer);
      shallow = shallow_more e.seen placed e.shallow next.shallow;
    }

pub step_enter : (modules : List Module) (library : Library) (top : Module) (elaboration : Elaboration) (f : Opened) (outer : List Opened) (p nets : ℕ)
    → Expanding modules library top elaboration (f ∷ outer) → NoneOfInstances modules library (flat modules library top) → is_too_large elaboration ≡ false
    → next_step_at (all_steps modules library) f ≡ next_step.Enter p
    → ((b : Module) (scope : ModuleInstance) → slice_get modules p ≡ Some b → scope.body ≡ b → nets ≡ min (length (nets_in scope)) 4000002)
    → Expanding modules library top (with_scope elaboration p (Some (outer_of f)) nets) (begun (length elaboration.scopes) p (f.level + 1) ∷ frame_after f ∷ outer)
step_enter modules library top elaboration f outer p nets e none fit is counts =
    let t : Stepped modules library (scopes_of modules top) f outer e.left (next_step.Enter p) = stepped_in modules library top elaboration f outer (next_step.Enter p) e none is in
    let placed : Placed = t.0 in
    let rest : List Placed = t.1 in
    let next : IsNext (scopes_of modules top) f placed = t.3 in
    let b : Module = t.4.0 in
    let inner : ModuleInstance = scope_for placed b in
    let scopes : List ModuleInstance = scopes_of modules top in
    let whole : e.seen ++ placed ∷ rest ≡ instances_of modules top = whole_next modules top e.seen e.left placed rest e.whole t.2 in
    let at : slice_get scopes (length elaboration.scopes) ≡ Some inner =
    ap (slice_get scopes) e.scope_count ∙ kept_at (entered modules) e.seen placed rest (instances_of modules top) inner whole t.4.3 in
    let low : IsSmall elaboration = small elaboration fit in
    let row : ModuleInstanceRow = record { body = p; outer = Some (outer_of f); first_net = elaboration.nets } in
    let longer : length (elaboration.scopes ++ row ∷ []) ≡ length elaboration.scopes + 1 = length_push elaboration.scopes row in
    let more : nets_of (take (length elaboration.scopes + 1) scopes) ≡ nets_of (take (length elaboration.scopes) scopes) + length (nets_in inner) =
    parts_more nets_in scopes (length elaboration.scopes) inner at in
    let seen_more : length (e.seen ++ placed ∷ []) ≡ length e.seen + 1 = length_push e.seen placed in
    record {
      seen = e.seen ++ placed ∷ [];
      left = rest;
      whole = append_assoc e.seen (placed ∷ []) rest ∙ whole;
      waiting = t.4.4 (length elaboration.scopes) at;
      early = (
        omega (arith, longer),
        (omega (arith, longer, e.early.0), early_more (length elaboration.scopes) (length (elaboration.scopes ++ row ∷ [])) outer (omega (arith, longer)) e.early.1),
      );
      scope_count = longer ∙ (let old = e.scope_count in
          let new = length_push (filter_map (entered modules) e.seen) inner in
          let kept = ap length (filter_split (entered modules) e.seen placed [] inner t.4.3) in
          omega (arith, old, new, kept));
      cell_count = e.cell_count ∙ ap (λ (xs : List PlacedCell). length xs) (sym (filter_skip (cell_at modules library) e.seen placed t.4.2));
      count = omega (arith, longer, seen_more, e.count);
      scopes = each_push (IsModuleInstance modules scopes) elaboration.scopes row e.scopes (record {
        scope = inner;
        at = at;
        body = t.4.1;
        opened = record { placed = placed; is = next.is; path = refl; prefix = refl; opened = refl };
        earlier = e.early.0;
        first = exact elaboration.nets (nets_of (take (length elaboration.scopes) scopes)) e.nets low.nets;
      });
      cells = e.cells;
      nets = sum_capped_twice elaboration.nets (nets_of (take (length elaboration.scopes) scopes)) (length (nets_in inner)) (nets_of (take (length elaboration.scopes + 1) scopes)) nets
          e.nets more (counts b inner t.4.1 refl)
          ∙ ap (λ (n : ℕ). min (nets_of (take n scopes)) 4000002) (sym longer);
      pins = e.pins;
      shallow = shallow_more e.seen placed e.shallow next.shallow;
    }
