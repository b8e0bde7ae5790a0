-- What is counted of a module is no more than what stands in it and below it, wherever it stands without a fault.
use Rattle.std.proofs.Common.{◌≡◌, ◌+◌, ◌≤◌, ℕ, suc, List, [], ◌∷◌, ◌++◌, map, length, get_or, slice_get, true, false, Option, Some, None, refl, sym, ◌∙◌, ap, subst, arith}
use Rattle.std.proofs.lemmas.Bool.{false_from_ne_true}
use Rattle.std.proofs.lemmas.List.{length-append}
use Rattle.std.proofs.lemmas.List.Concat.{flat_map-append}
use Rattle.std.proofs.lemmas.List.Elements.{filter_map-append}
use Rattle.std.specs.List.{AllByRecursion, cons_option, filter_map, flat_map}
use Rattle.source_types.specs.declared.fault_kinds.DesignKind.{DesignKind}
use Rattle.source_types.specs.declared.fault_kinds.DesignKind.TheVariants as fault
use Rattle.source_types.specs.declared.libraries.Library.{Library}
use Rattle.pin_types.specs.declared.library_cells.LibCell.{LibCell}
use Rattle.source_types.specs.declared.netlists.Instance.{Instance}
use Rattle.source_types.specs.declared.netlists.Module.{Module}
use Rattle.flat_model.specs.Connections.{instance_fault}
use Rattle.flat_model.specs.FlatFaults.{HasNoFault, InstanceHas}
use Rattle.flat_model.specs.FlatNets.{nets_in}
use Rattle.flat_model.specs.Instances.{Placed, PlacedCell, ModuleInstance, below, cell_at, entered, scope_for, stands_in}
use Rattle.flat_design.specs.declared.elaborate.sizes.Size.{Size}
use Rattle.flat_design.specs.declared.elaborate.walk.Step.{Step}
use Rattle.flat_design.specs.declared.elaborate.walk.Step.TheVariants as step
use Rattle.flat_design.specs.Elaboration.{kind_pins, net_count, nets_of, pins_in}
use Rattle.flat_design.specs.Sizes.{inner_size, joined, module_size, no_size, pins_of_kind, step_size, with_steps}
use Rattle.flat_design.specs.Steps.{all_steps, step_of}
use Rattle.flat_design.specs.Walk.{IsOf, is_in, steps_of}
use Rattle.flat_design.proofs.CountFacts.{nets_length}
use Rattle.flat_design.proofs.InstanceFaults.{listed, placed_at, steps_at}
use Rattle.flat_design.proofs.LeftOver.{listed_alone, listed_entered, placed_from}
use Rattle.flat_design.proofs.StepMeanings.{Means, cell_here, step_means}

-- ---- sizes

pub record IsUpTo (a b : Size) : Type 0 where
  pub instances : a.instances ≤ b.instances
  pub nets : a.nets ≤ b.nets
  pub pins : a.pins ≤ b.pins

abbrev pub plus : Size → Size → Size
plus a b = record { instances = a.instances + b.instances; nets = a.nets + b.nets; pins = a.pins + b.pins }

both_up_to : (a b c d : Size) → IsUpTo a c → IsUpTo b d → IsUpTo (joined a b) (plus c d)
both_up_to a b c d one other = record {
  instances = omega (arith, one.instances, other.instances);
  nets = omega (arith, one.nets, other.nets);
  pins = omega (arith, one.pins, other.pins);
}

regrouped : (a b c d whole : Size) → IsUpTo a (plus (plus b c) d) → IsUpTo (plus c d) whole → IsUpTo a (plus b whole)
regrouped a b c d whole one other = record {
  instances = omega (arith, one.instances, other.instances);
  nets = omega (arith, one.nets, other.nets);
  pins = omega (arith, one.pins, other.pins);
}

-- ---- what stands there

-- instances, the nets of the modules that they enter, and the pins of the cells that they are
abbrev pub amount : List Module → Library → List Placed → Size
amount modules library things = record {
  instances = length things;
  nets = nets_of (filter_map (entered modules) things);
  pins = pins_in (filter_map (cell_at modules library) things);
}

-- the nets of a module alone
abbrev pub own_nets : ModuleInstance → Size
own_nets scope = record { instances = 0; nets = length (nets_in scope); pins = 0 }

parts_joined : {X Y : Type 0} (f : X → List Y) (xs ys : List X) → length (flat_map f (xs ++ ys)) ≡ length (flat_map f xs) + length (flat_map f ys)
parts_joined f xs ys = ap length (flat_map-append f xs ys) ∙ length-append (flat_map f xs) (flat_map f ys)

amounts_joined : (modules : List Module) (library : Library) (xs ys : List Placed)
    → IsUpTo (plus (amount modules library xs) (amount modules library ys)) (amount modules library (xs ++ ys))
amounts_joined modules library xs ys =
    let count = length-append xs ys in
    let scopes = ap nets_of (filter_map-append (entered modules) xs ys) ∙ parts_joined nets_in (filter_map (entered modules) xs) (filter_map (entered modules) ys) in
    let cells = ap pins_in (filter_map-append (cell_at modules library) xs ys)
    ∙ parts_joined kind_pins (filter_map (cell_at modules library) xs) (filter_map (cell_at modules library) ys) in
    record { instances = omega (arith, count); nets = omega (arith, scopes); pins = omega (arith, cells) }

-- ---- instances without a fault

abbrev pub AreFaultless : List Module → Library → List Placed → Type 0
AreFaultless modules library things = AllByRecursion (λ (placed : Placed). (kind : DesignKind) → instance_fault modules library placed ≡ Some kind → ⊥) things

pub each_faultless : (modules : List Module) (library : Library) (things : List Placed) → HasNoFault Placed (InstanceHas modules library) things
    → AreFaultless modules library things
each_faultless modules library [] none = tt
each_faultless modules library (x ∷ xs) none =
    (λ kind has. none 0 x kind refl has, each_faultless modules library xs (λ place thing kind at has. none (suc place) thing kind at has))

faultless_front : (modules : List Module) (library : Library) (xs ys : List Placed) → AreFaultless modules library (xs ++ ys) → AreFaultless modules library xs
faultless_front modules library [] ys all = tt
faultless_front modules library (x ∷ xs) ys all = (all.0, faultless_front modules library xs ys all.1)

faultless_back : (modules : List Module) (library : Library) (xs ys : List Placed) → AreFaultless modules library (xs ++ ys) → AreFaultless modules library ys
faultless_back modules library [] ys all = all
faultless_back modules library (x ∷ xs) ys all = faultless_back modules library xs ys all.1

-- ---- one instance

-- a size of a module is no more than what stands in it and below it for so many levels
abbrev pub IsCounted : List Module → Library → ℕ → ℕ → Size → Type 0
IsCounted modules library levels m size = (scope : ModuleInstance) → slice_get modules m ≡ Some scope.body → AreFaultless modules library (below modules levels scope)
    → IsUpTo size (plus (own_nets scope) (amount modules library (below modules levels scope)))

cell_counted : (modules : List Module) (library : Library) (placed : Placed) (kind : ℕ) (cell : LibCell) → slice_get library.cells kind ≡ Some cell
    → cell_at modules library placed ≡ Some (cell_here placed cell)
    → (things : List Placed) → things ≡ placed ∷ [] → IsUpTo (record { instances = 1; nets = 0; pins = pins_of_kind (slice_get library.cells kind) }) (amount modules library things)
cell_counted modules library placed kind cell at is things alone =
    let count = ap length alone in
    let own = ap pins_of_kind at in
    let kept : filter_map (cell_at modules library) (placed ∷ []) ≡ cell_here placed cell ∷ [] = ap (λ (o : Option PlacedCell). cons_option o []) is in
    let pins : pins_in (filter_map (cell_at modules library) things) ≡ length (kind_pins (cell_here placed cell) ++ []) =
    ap (λ (xs : List Placed). pins_in (filter_map (cell_at modules library) xs)) alone ∙ ap pins_in kept in
    let whole = length-append cell.pins [] in
    record { instances = omega (arith, count); nets = omega arith; pins = omega (arith, own, pins, whole) }

inner_counted : (modules : List Module) (library : Library) (placed : Placed) (inner : ModuleInstance) (after : List Placed) (size : Size) → entered modules placed ≡ Some inner
    → cell_at modules library placed ≡ None → IsUpTo size (plus (own_nets inner) (amount modules library after))
    → (things : List Placed) → things ≡ placed ∷ after → IsUpTo (inner_size size) (amount modules library things)
inner_counted modules library placed inner after size enters none known things is =
    let count = ap length is in
    let scopes : nets_of (filter_map (entered modules) things) ≡ length (nets_in inner ++ flat_map nets_in (filter_map (entered modules) after)) =
    ap (λ (xs : List Placed). nets_of (filter_map (entered modules) xs)) is
    ∙ ap (λ (o : Option ModuleInstance). nets_of (cons_option o (filter_map (entered modules) after))) enters in
    let both = length-append (nets_in inner) (flat_map nets_in (filter_map (entered modules) after)) in
    let cells : pins_in (filter_map (cell_at modules library) things) ≡ pins_in (filter_map (cell_at modules library) after) =
    ap (λ (xs : List Placed). pins_in (filter_map (cell_at modules library) xs)) is
    ∙ ap (λ (o : Option PlacedCell). pins_in (cons_option o (filter_map (cell_at modules library) after))) none in
    record {
      instances = omega (arith, count, known.instances);
      nets = omega (arith, scopes, both, known.nets);
      pins = omega (arith, cells, known.pins);
    }

one_counted : (modules : List Module) (library : Library) (levels : ℕ) (sizes : List Size) (before : List ℕ) (placed : Placed) (s : Step) → Means modules library placed s
    → IsOf before s → ((e : ℕ) → is_in before e ≡ true → IsCounted modules library levels e (get_or sizes e no_size))
    → AreFaultless modules library (listed modules levels placed) → IsUpTo (step_size library sizes s) (amount modules library (listed modules levels placed))
one_counted modules library levels sizes before placed (step.Fault kind) means is known sound = absurd is
one_counted modules library levels sizes before placed (step.Cell kind) means is known sound =
    cell_counted modules library placed kind means.0 means.1 means.3 (listed modules levels placed) (listed_alone modules levels placed means.2)
one_counted modules library levels sizes before placed (step.Enter e fits) means is known sound =
    let b : Module = means.0 in
    let inner : ModuleInstance = scope_for placed b in
    let free : stands_in b placed.scope ≡ false = false_from_ne_true (stands_in b placed.scope) (λ near. sound.0 fault.ModuleCycle (means.3 near)) in
    let enters : entered modules placed ≡ Some inner = means.4 free in
    let there : listed modules levels placed ≡ placed ∷ below modules levels inner = listed_entered modules levels placed inner enters in
    let all : AreFaultless modules library (placed ∷ below modules levels inner) = subst (AreFaultless modules library) there sound in
    inner_counted modules library placed inner (below modules levels inner) (get_or sizes e no_size) enters means.2
    (known e is.1 inner means.1 all.1) (listed modules levels placed) there

-- ---- the instances of a module

rest_counted : (modules : List Module) (library : Library) (levels : ℕ) (sizes : List Size) (before : List ℕ) (scope : ModuleInstance)
    → ((e : ℕ) → is_in before e ≡ true → IsCounted modules library levels e (get_or sizes e no_size))
    → (place : ℕ) (rest : List Instance) (size whole : Size) → IsUpTo size whole → AllByRecursion (IsOf before) (map (step_of modules library) rest)
    → AreFaultless modules library (flat_map (listed modules levels) (placed_from scope place rest))
    → IsUpTo (with_steps library sizes size (map (step_of modules library) rest))
    (plus whole (amount modules library (flat_map (listed modules levels) (placed_from scope place rest))))
rest_counted modules library levels sizes before scope known place [] size whole so_far of sound = record {
  instances = omega (arith, so_far.instances);
  nets = omega (arith, so_far.nets);
  pins = omega (arith, so_far.pins);
}
rest_counted modules library levels sizes before scope known place (one ∷ rest) size whole so_far of sound =
    let placed : Placed = placed_at scope place one in
    let here : List Placed = listed modules levels placed in
    let after : List Placed = flat_map (listed modules levels) (placed_from scope (place + 1) rest) in
    let own : Size = step_size library sizes (step_of modules library one) in
    let first : IsUpTo own (amount modules library here) =
    one_counted modules library levels sizes before placed (step_of modules library one) (step_means modules library placed) of.0 known
    (faultless_front modules library here after sound) in
    let more : IsUpTo (joined size own) (plus whole (amount modules library here)) = both_up_to size own whole (amount modules library here) so_far first in
    let all = rest_counted modules library levels sizes before scope known (place + 1) rest (joined size own) (plus whole (amount modules library here)) more of.1
    (faultless_back modules library here after sound) in
    regrouped (with_steps library sizes (joined size own) (map (step_of modules library) rest)) whole (amount modules library here) (amount modules library after)
    (amount modules library (here ++ after)) all (amounts_joined modules library here after)

-- the size that a module has by those of the modules that it instantiates
pub module_counted : (modules : List Module) (library : Library) (levels : ℕ) (sizes : List Size) (before : List ℕ) (m nets : ℕ)
    → ((e : ℕ) → is_in before e ≡ true → IsCounted modules library levels e (get_or sizes e no_size))
    → AllByRecursion (IsOf before) (steps_of (all_steps modules library) m)
    → ((body : Module) → slice_get modules m ≡ Some body → nets ≡ net_count body.nets)
    → IsCounted modules library (suc levels) m (module_size library sizes nets (steps_of (all_steps modules library) m))
module_counted modules library levels sizes before m nets known of nets_are scope at sound =
    let steps : steps_of (all_steps modules library) m ≡ map (step_of modules library) scope.body.instances = steps_at modules library m scope.body at in
    let count = nets_are scope.body at in
    let own = nets_length scope in
    let begun : IsUpTo (record { instances = 0; nets = nets; pins = 0 }) (own_nets scope) =
    record { instances = omega arith; nets = omega (arith, count, own); pins = omega arith } in
    subst (λ (all : List Step). IsUpTo (module_size library sizes nets all) (plus (own_nets scope) (amount modules library (below modules (suc levels) scope)))) (sym steps)
    (rest_counted modules library levels sizes before scope known 0 scope.body.instances (record { instances = 0; nets = nets; pins = 0 }) (own_nets scope) begun
    (subst (AllByRecursion (IsOf before)) steps of) sound)
