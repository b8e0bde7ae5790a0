-- What the walk answers is the first fault of the instances of the design, or that they have none.
use Rattle.std.proofs.Common.{◌≡◌, inl, inr, ℕ, zero, suc, List, [], ◌∷◌, map, length, slice_get, Option, Some, None, refl, sym, ◌∙◌, ap, arith}
use Rattle.std.proofs.lemmas.List.{length-map}
use Rattle.std.specs.List.{cons_option}
use Rattle.sdc_base.specs.declared.memory.At.{At}
use Rattle.source_types.specs.declared.fault_kinds.DesignKind.{DesignKind}
use Rattle.source_types.specs.declared.libraries.Library.{Library}
use Rattle.source_types.specs.declared.netlists.Module.{Module}
use Rattle.flat_model.specs.Connections.{instance_fault}
use Rattle.flat_model.specs.FlatDesign.{flat}
use Rattle.flat_model.specs.FlatFaults.{HasNoFault, InstanceHas, IsFirstFault, IsNoLater, instance_line, rank}
use Rattle.flat_model.specs.Flattening.{FirstOfInstances, NoneOfInstances, fault_of}
use Rattle.flat_model.specs.Instances.{Placed, instances_of, top_scope}
use Rattle.text_model.specs.Names.{AreDistinct}
use Rattle.flat_design.specs.declared.elaborate.walk.FaultAt.{FaultAt}
use Rattle.flat_design.specs.Elaborating.{denoted}
use Rattle.flat_design.specs.Steps.{all_steps, module_names, steps_in}
use Rattle.flat_design.specs.Walk.{faults_below, faults_from}
use Rattle.flat_design.proofs.InstanceFaults.{fault_if, placed_faults, same_faults}

-- an instance after another one
later : (place other : ℕ) (kind other_kind : DesignKind) → IsNoLater place kind other other_kind → IsNoLater (suc place) kind (suc other) other_kind
later place other kind other_kind (inl less) = inl (omega arith)
later place other kind other_kind (inr same) = inr (ap suc same.0, same.1)

-- nothing stands before the first instance
earliest_here : (modules : List Module) (library : Library) (x : Placed) (xs : List Placed) (kind : DesignKind) (first : At DesignKind)
    → instance_fault modules library x ≡ Some kind → first.kind ≡ kind
    → (other : ℕ) (thing : Placed) (k : DesignKind) → slice_get (x ∷ xs) other ≡ Some thing → instance_fault modules library thing ≡ Some k
    → IsNoLater 0 first.kind other k
earliest_here modules library x xs kind first has kinds zero thing k at its =
    let e : Some x ≡ Some thing = at in
    let one : x ≡ thing = cc in
    let f : Some kind ≡ Some k = sym has ∙ (ap (λ (y : Placed). instance_fault modules library y) one ∙ its) in
    let g : kind ≡ k = cc in
    let r : rank first.kind ≡ rank k = ap rank (kinds ∙ g) in
    inr (refl, omega arith)
earliest_here modules library x xs kind first has kinds (suc other) thing k at its = inl (omega arith)

-- the first instance has the fault
fault_here : (modules : List Module) (library : Library) (x : Placed) (xs : List Placed) (kind : DesignKind) (first : At DesignKind) (rest : List (At DesignKind))
    → instance_fault modules library x ≡ Some kind → fault_of x.instance.line kind ∷ placed_faults modules library xs ≡ first ∷ rest
    → IsFirstFault Placed (InstanceHas modules library) instance_line (x ∷ xs) first
fault_here modules library x xs kind first rest has all =
    let same : fault_of x.instance.line kind ≡ first = cc in
    let kinds : first.kind ≡ kind = ap (λ (f : At DesignKind). f.kind) (sym same) in
    record {
      place = 0;
      thing = x;
      is = refl;
      has = has ∙ ap (λ (k : DesignKind). Some k) (sym kinds);
      line_is = ap (λ (f : At DesignKind). f.line) (sym same);
      earliest = λ other thing k at its. earliest_here modules library x xs kind first has kinds other thing k at its;
    }

earliest_after : (modules : List Module) (library : Library) (x : Placed) (xs : List Placed) (first : At DesignKind)
    → instance_fault modules library x ≡ None → (found : IsFirstFault Placed (InstanceHas modules library) instance_line xs first)
    → (other : ℕ) (thing : Placed) (k : DesignKind) → slice_get (x ∷ xs) other ≡ Some thing → instance_fault modules library thing ≡ Some k
    → IsNoLater (suc found.place) first.kind other k
earliest_after modules library x xs first none found zero thing k at its =
    let e : Some x ≡ Some thing = at in
    let one : x ≡ thing = cc in
    let bad : None ≡ Some k = sym none ∙ (ap (λ (y : Placed). instance_fault modules library y) one ∙ its) in
    cc
earliest_after modules library x xs first none found (suc other) thing k at its = later found.place other first.kind k (found.earliest other thing k at its)

-- the first instance has none
fault_after : (modules : List Module) (library : Library) (x : Placed) (xs : List Placed) (first : At DesignKind)
    → instance_fault modules library x ≡ None → IsFirstFault Placed (InstanceHas modules library) instance_line xs first
    → IsFirstFault Placed (InstanceHas modules library) instance_line (x ∷ xs) first
fault_after modules library x xs first none found = record {
  place = suc found.place;
  thing = found.thing;
  is = found.is;
  has = found.has;
  line_is = found.line_is;
  earliest = λ other thing k at its. earliest_after modules library x xs first none found other thing k at its;
}

first_step : (modules : List Module) (library : Library) (x : Placed) (xs : List Placed) (first : At DesignKind) (rest : List (At DesignKind))
    → ((more : List (At DesignKind)) → placed_faults modules library xs ≡ first ∷ more → IsFirstFault Placed (InstanceHas modules library) instance_line xs first)
    → (o : Option DesignKind) → instance_fault modules library x ≡ o
    → cons_option (fault_if x.instance.line o) (placed_faults modules library xs) ≡ first ∷ rest
    → IsFirstFault Placed (InstanceHas modules library) instance_line (x ∷ xs) first
first_step modules library x xs first rest after None is all = fault_after modules library x xs first is (after rest all)
first_step modules library x xs first rest after (Some kind) is all = fault_here modules library x xs kind first rest is all

first_fault : (modules : List Module) (library : Library) (things : List Placed) (first : At DesignKind) (rest : List (At DesignKind))
    → placed_faults modules library things ≡ first ∷ rest → IsFirstFault Placed (InstanceHas modules library) instance_line things first
first_fault modules library [] first rest all = let bad : [] ≡ first ∷ rest = all in cc
first_fault modules library (x ∷ xs) first rest all =
    first_step modules library x xs first rest (λ more h. first_fault modules library xs first more h) (instance_fault modules library x) refl all

none_step : (modules : List Module) (library : Library) (x : Placed) (xs : List Placed) → ((k : DesignKind) → instance_fault modules library x ≡ Some k → ⊥)
    → HasNoFault Placed (InstanceHas modules library) xs → HasNoFault Placed (InstanceHas modules library) (x ∷ xs)
none_step modules library x xs here after zero thing k at its =
    let e : Some x ≡ Some thing = at in
    let one : x ≡ thing = cc in
    here k (ap (λ (y : Placed). instance_fault modules library y) one ∙ its)
none_step modules library x xs here after (suc place) thing k at its = after place thing k at its

none_here : (line : ℕ) (o : Option DesignKind) (more : List (At DesignKind)) → cons_option (fault_if line o) more ≡ [] → (o ≡ None) × (more ≡ [])
none_here line None more h = (refl, h)
none_here line (Some k) more h = let bad : fault_of line k ∷ more ≡ [] = h in cc

no_fault : (modules : List Module) (library : Library) (things : List Placed) → placed_faults modules library things ≡ []
    → HasNoFault Placed (InstanceHas modules library) things
no_fault modules library [] all = λ place thing kind at its. let bad : None ≡ Some thing = at in cc
no_fault modules library (x ∷ xs) all =
    let parts = none_here x.instance.line (instance_fault modules library x) (placed_faults modules library xs) all in
    none_step modules library x xs (λ k its. let bad : None ≡ Some k = sym parts.0 ∙ its in cc) (no_fault modules library xs parts.1)

-- ---- all instances of a design

whole : (modules : List Module) (library : Library) → AreDistinct (module_names modules) → (top : ℕ) (body : Module) → slice_get modules top ≡ Some body
    → placed_faults modules library (instances_of modules body) ≡ map (denoted modules) (faults_below (all_steps modules library) top)
whole modules library distinct top body is =
    same_faults modules library distinct (length modules) top (top ∷ []) (top_scope body) is ((body, is, refl), tt)
    ∙ ap (λ (n : ℕ). map (denoted modules) (faults_from (all_steps modules library) n (top ∷ []) top 0)) (sym (length-map modules (steps_in modules library)))

-- the first fault that the walk finds
pub walk_fault : (modules : List Module) (library : Library) → AreDistinct (module_names modules) → (top : ℕ) (body : Module) → slice_get modules top ≡ Some body
    → (found : FaultAt) (rest : List FaultAt) → faults_below (all_steps modules library) top ≡ found ∷ rest
    → FirstOfInstances modules library (flat modules library body) (denoted modules found)
walk_fault modules library distinct top body is found rest all =
    first_fault modules library (instances_of modules body) (denoted modules found) (map (denoted modules) rest)
    (whole modules library distinct top body is ∙ ap (map (denoted modules)) all)

-- no fault
pub walk_none : (modules : List Module) (library : Library) → AreDistinct (module_names modules) → (top : ℕ) (body : Module) → slice_get modules top ≡ Some body
    → faults_below (all_steps modules library) top ≡ [] → NoneOfInstances modules library (flat modules library body)
walk_none modules library distinct top body is all =
    no_fault modules library (instances_of modules body) (whole modules library distinct top body is ∙ ap (map (denoted modules)) all)
