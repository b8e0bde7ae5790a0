-- The faults that the walk finds by places are those of the instances of the design.
use Rattle.std.proofs.Common.{◌≡◌, ◌+◌, ◌||◌, ◌==◌, inl, inr, ℕ, zero, suc, Bool, true, false, cond, List, [], ◌∷◌, ◌++◌, map, drop, slice_get, Option, Some, None, refl, sym, ◌∙◌, ap, arith}
use Rattle.std.specs.Prelude.{⊤}
use Rattle.std.proofs.lemmas.Bool.{cases_eq, cond-false, cond-true, eq-eqb, false_from_ne_true, ne_eqb}
use Rattle.std.proofs.lemmas.List.{map-append}
use Rattle.std.proofs.lemmas.List.Elements.{filter_map-append}
use Rattle.std.proofs.lemmas.Option.{get_or_from_slice_get}
use Rattle.std.proofs.lemmas.Slice.Eq.{bytes_eq-Decides}
use Rattle.std.specs.List.{cons_option, enumerate_from, filter_map, flat_map, list_any}
use Rattle.sdc_base.specs.declared.memory.At.{At}
use Rattle.source_types.specs.declared.fault_kinds.DesignKind.{DesignKind}
use Rattle.source_types.specs.declared.fault_kinds.DesignKind.TheVariants as fault
use Rattle.source_types.specs.declared.libraries.Library.{Library}
use Rattle.pin_types.specs.declared.library_cells.LibCell.{LibCell}
use Rattle.source_types.specs.declared.netlists.Instance.{Instance}
use Rattle.source_types.specs.declared.netlists.Links.{Links}
use Rattle.source_types.specs.declared.netlists.Module.{Module}
use Rattle.flat_model.specs.Connections.{cell_fault, instance_fault, links_fit, module_fault, ports_of}
use Rattle.flat_model.specs.Flattening.{fault_of}
use Rattle.flat_model.specs.Instances.{Placed, ModuleInstance, below, cell_named, entered, meant, module_named, scope_for, stands_in}
use Rattle.text_model.specs.Names.{AreDistinct}
use Rattle.text_model.specs.Words.{same_text}
use Rattle.flat_design.specs.declared.elaborate.walk.FaultAt.{FaultAt}
use Rattle.flat_design.specs.declared.elaborate.walk.Step.{Step}
use Rattle.flat_design.specs.Elaborating.{denoted, instance_in, line_in}
use Rattle.flat_design.specs.Names.{next_place, place_of}
use Rattle.flat_design.specs.Steps.{all_steps, cell_place, cell_step, fault_step, fits_module, module_names, named_step, step_of, steps_in}
use Rattle.flat_design.specs.Walk.{fault_at, faults_along, faults_at, faults_entered, faults_from, is_in, steps_of}
use Rattle.flat_design.proofs.RangeFacts.{map_at}
use Rattle.flat_design.proofs.TableFacts.{at_place, first_found}

-- ---- modules by names and places

-- what is at the place of a name
head_or_later : {X : Type 0} (x : X) (xs : List X) (t : Bool) (later : Option ℕ) (p : ℕ) → ((k : ℕ) → later ≡ Some k → (y : X) × (slice_get xs k ≡ Some y))
    → cond t (Some 0) (next_place later) ≡ Some p → (y : X) × (slice_get (x ∷ xs) p ≡ Some y)
head_or_later x xs true later p rec h =
    let first : Some 0 ≡ Some p = h in
    let z : 0 ≡ p = cc in
    (x, ap (λ (n : ℕ). slice_get (x ∷ xs) n) (sym z))
head_or_later x xs false None p rec h = let bad : None ≡ Some p = h in cc
head_or_later x xs false (Some k) p rec h =
    let next : Some (suc k) ≡ Some p = h in
    let z : suc k ≡ p = cc in
    let r = rec k refl in
    (r.0, ap (λ (n : ℕ). slice_get (x ∷ xs) n) (sym z) ∙ r.1)

pub found_at : {X : Type 0} (name : X → List ℕ) (xs : List X) (q : List ℕ) (p : ℕ) → place_of (map name xs) q ≡ Some p → (x : X) × (slice_get xs p ≡ Some x)
found_at name [] q p h = let bad : None ≡ Some p = h in cc
found_at name (x ∷ xs) q p h =
    head_or_later x xs (same_text (name x) q) (place_of (map name xs) q) p (λ k e. found_at name xs q k e) h

-- the modules at these places have these names
abbrev pub AreNamed : List Module → List ℕ → List (List ℕ) → Type 0
AreNamed modules [] [] = ⊤
AreNamed modules [] (name ∷ names) = ⊥
AreNamed modules (p ∷ ps) [] = ⊥
AreNamed modules (p ∷ ps) (name ∷ names) = ((m : Module) × (slice_get modules p ≡ Some m) × (m.name ≡ name)) × AreNamed modules ps names

-- modules are distinct by their names
same_name : (modules : List Module) → AreDistinct (module_names modules) → (p q : ℕ) (m other : Module)
    → slice_get modules p ≡ Some m → slice_get modules q ≡ Some other → same_text m.name other.name ≡ (q == p)
same_name modules distinct p q m other at_p at_q =
    elim (cases_eq q p) [
      | inl same ↦
          let e : Some m ≡ Some other = sym at_p ∙ (ap (λ (n : ℕ). slice_get modules n) (sym same) ∙ at_q) in
          let one : m ≡ other = cc in
          (bytes_eq-Decides m.name other.name).1 (ap (λ (x : Module). x.name) one) ∙ sym (eq-eqb q p same)
      | inr differ ↦
          false_from_ne_true (same_text m.name other.name) (λ h. differ (distinct q p other.name
          (map_at (λ (x : Module). x.name) modules q other at_q)
          (map_at (λ (x : Module). x.name) modules p m at_p ∙ ap (λ (n : List ℕ). Some n) ((bytes_eq-Decides m.name other.name).0 h))))
          ∙ sym (ne_eqb q p differ)
    ]

-- a module stands in itself where its place is among those around
stands_at : (modules : List Module) → AreDistinct (module_names modules) → (p : ℕ) (m : Module) → slice_get modules p ≡ Some m
    → (around : List ℕ) (names : List (List ℕ)) → AreNamed modules around names → list_any (same_text m.name) names ≡ is_in around p
stands_at modules distinct p m is [] [] named = refl
stands_at modules distinct p m is [] (name ∷ names) named = absurd named
stands_at modules distinct p m is (q ∷ qs) [] named = absurd named
stands_at modules distinct p m is (q ∷ qs) (name ∷ names) named =
    let first : same_text m.name name ≡ (q == p) =
    ap (λ (n : List ℕ). same_text m.name n) (sym named.0.2) ∙ same_name modules distinct p q m named.0.0 is named.0.1 in
    ap (λ (b : Bool). b || list_any (same_text m.name) names) first
    ∙ ap (λ (b : Bool). (q == p) || b) (stands_at modules distinct p m is qs names named.1)

-- ---- faults of instances

abbrev pub fault_if : ℕ → Option DesignKind → Option (At DesignKind)
fault_if line None = None
fault_if line (Some kind) = Some (fault_of line kind)

abbrev pub placed_fault : List Module → Library → Placed → Option (At DesignKind)
placed_fault modules library placed = fault_if placed.instance.line (instance_fault modules library placed)

abbrev pub placed_faults : List Module → Library → List Placed → List (At DesignKind)
placed_faults modules library all = filter_map (placed_fault modules library) all

-- what is listed for an instance: itself, and those in the module that it enters
abbrev pub listed : List Module → ℕ → Placed → List Placed
listed modules levels placed = placed ∷ elim (entered modules placed) [ None ↦ [] | Some inner ↦ below modules levels inner ]

-- the fault of an instance of a cell, or of nothing
cell_fault_denoted : (modules : List Module) (inner : ℕ → List FaultAt) (around : List ℕ) (m place line kind : ℕ)
    → line_in (instance_in (slice_get modules m) place) ≡ line → (o : Option DesignKind)
    → cons_option (fault_if line o) [] ≡ map (denoted modules) (faults_at inner around m place (fault_step kind o))
cell_fault_denoted modules inner around m place line kind is None = refl
cell_fault_denoted modules inner around m place line kind is (Some found) = ap (λ (n : ℕ). fault_of n found ∷ []) (sym is)

-- the fault of an instance by what its name means
abbrev pub cell_own : Option LibCell → Links → Option DesignKind
cell_own None all = Some fault.UnknownModule
cell_own (Some cell) all = cell_fault cell all

pub instance_none : (modules : List Module) (library : Library) (placed : Placed) → module_named modules placed.instance.kind ≡ None
    → (cell : Option LibCell) → cell_named library placed.instance.kind ≡ cell → instance_fault modules library placed ≡ cell_own cell placed.instance.links
instance_none modules library placed none None is = rw (none, is, instance_fault, meant) refl
instance_none modules library placed none (Some cell) is = rw (none, is, instance_fault, meant) refl

pub instance_some : (modules : List Module) (library : Library) (placed : Placed) (b : Module) → module_named modules placed.instance.kind ≡ Some b
    → instance_fault modules library placed ≡ module_fault placed.scope b placed.instance.links
instance_some modules library placed b named = rw (named, instance_fault, meant) refl

cell_faults : (modules : List Module) (library : Library) (levels : ℕ) (inner : ℕ → List FaultAt) (around : List ℕ) (m place kind : ℕ) (placed : Placed)
    → line_in (instance_in (slice_get modules m) place) ≡ placed.instance.line → module_named modules placed.instance.kind ≡ None
    → (cell : Option LibCell) → cell_named library placed.instance.kind ≡ cell
    → placed_faults modules library (listed modules levels placed) ≡ map (denoted modules) (faults_at inner around m place (cell_step kind cell placed.instance.links))
cell_faults modules library levels inner around m place kind placed line none None is =
    rw none (ap (λ (o : Option DesignKind). cons_option (fault_if placed.instance.line o) []) (instance_none modules library placed none None is)
    ∙ cell_fault_denoted modules inner around m place placed.instance.line kind line (Some fault.UnknownModule))
cell_faults modules library levels inner around m place kind placed line none (Some cell) is =
    rw none (ap (λ (o : Option DesignKind). cons_option (fault_if placed.instance.line o) []) (instance_none modules library placed none (Some cell) is)
    ∙ cell_fault_denoted modules inner around m place placed.instance.line kind line (cell_fault cell placed.instance.links))

-- the fault of an instance of a module that is entered, and those in it
width_step : (modules : List Module) (m place line : ℕ) → line_in (instance_in (slice_get modules m) place) ≡ line
    → (found : List (At DesignKind)) (inner : List FaultAt) → found ≡ map (denoted modules) inner → (fits : Bool)
    → cons_option (fault_if line (cond fits None (Some fault.WidthMismatch))) found
    ≡ map (denoted modules) (cond fits inner (fault_at m place fault.WidthMismatch ∷ inner))
width_step modules m place line is found inner same true = same
width_step modules m place line is found inner same false =
    ap (λ (n : ℕ). fault_of n fault.WidthMismatch ∷ found) (sym is)
    ∙ ap (λ (more : List (At DesignKind)). fault_of (line_in (instance_in (slice_get modules m) place)) fault.WidthMismatch ∷ more) same

module_faults : (modules : List Module) (library : Library) (levels : ℕ) (inner : ℕ → List FaultAt) (around : List ℕ) (m place : ℕ) (placed : Placed)
    (p : ℕ) (b : Module) → line_in (instance_in (slice_get modules m) place) ≡ placed.instance.line → module_named modules placed.instance.kind ≡ Some b
    → (near : Bool) → stands_in b placed.scope ≡ near → is_in around p ≡ near
    → placed_faults modules library (below modules levels (scope_for placed b)) ≡ map (denoted modules) (inner p)
    → placed_faults modules library (listed modules levels placed)
    ≡ map (denoted modules) (faults_entered around m place p (fits_module (Some b) placed.instance.links) (inner p))
module_faults modules library levels inner around m place placed p b line named true stands inside same =
    rw (named, stands, inside) (ap (λ (o : Option DesignKind). cons_option (fault_if placed.instance.line o) [])
    (instance_some modules library placed b named ∙ cond-true (stands_in b placed.scope) _ _ stands)
    ∙ ap (λ (n : ℕ). fault_of n fault.ModuleCycle ∷ []) (sym line))
module_faults modules library levels inner around m place placed p b line named false stands inside same =
    rw (named, stands, inside) (ap (λ (o : Option DesignKind). cons_option (fault_if placed.instance.line o)
    (placed_faults modules library (below modules levels (scope_for placed b))))
    (instance_some modules library placed b named ∙ cond-false (stands_in b placed.scope) _ _ stands)
    ∙ width_step modules m place placed.instance.line line
    (placed_faults modules library (below modules levels (scope_for placed b))) (inner p) same (links_fit (ports_of b) placed.instance.links))

-- ---- the instances of a module

abbrev pub placed_at : ModuleInstance → ℕ → Instance → Placed
placed_at scope place instance = record { scope = scope; place = place; instance = instance }

-- what is known of the modules that the instances of a module enter
abbrev pub InnerDenoted : List Module → Library → ℕ → (ℕ → List FaultAt) → ModuleInstance → Type 0
InnerDenoted modules library levels inner scope = (p : ℕ) (b : Module) (place : ℕ) (instance : Instance) → slice_get modules p ≡ Some b
    → placed_faults modules library (below modules levels (scope_for (placed_at scope place instance) b)) ≡ map (denoted modules) (inner p)

one_named : (modules : List Module) (library : Library) → AreDistinct (module_names modules) → (levels : ℕ) (inner : ℕ → List FaultAt) (around : List ℕ)
    (m : ℕ) (scope : ModuleInstance) → AreNamed modules around scope.around → InnerDenoted modules library levels inner scope → (place : ℕ) (instance : Instance)
    → line_in (instance_in (slice_get modules m) place) ≡ instance.line
    → (found : Option ℕ) → place_of (module_names modules) instance.kind ≡ found
    → placed_faults modules library (listed modules levels (placed_at scope place instance))
    ≡ map (denoted modules) (faults_at inner around m place (named_step modules library instance found))
one_named modules library distinct levels inner around m scope named within place instance line None is =
    cell_faults modules library levels inner around m place (cell_place library instance.kind) (placed_at scope place instance) line
    (sym (first_found (λ (x : Module). x.name) modules instance.kind) ∙ ap (at_place modules) is)
    (cell_named library instance.kind) refl
one_named modules library distinct levels inner around m scope named within place instance line (Some p) is =
    let at : (b : Module) × (slice_get modules p ≡ Some b) = found_at (λ (x : Module). x.name) modules instance.kind p is in
    let there : module_named modules instance.kind ≡ Some at.0 =
    sym (first_found (λ (x : Module). x.name) modules instance.kind) ∙ (ap (at_place modules) is ∙ at.1) in
    module_faults modules library levels inner around m place (placed_at scope place instance) p at.0 line there
    (is_in around p) (stands_at modules distinct p at.0 at.1 around scope.around named) refl (within p at.0 place instance at.1)
    ∙ ap (λ (o : Option Module). map (denoted modules) (faults_entered around m place p (fits_module o instance.links) (inner p))) (sym there)

drop_head : (xs : List Instance) (n : ℕ) (x : Instance) (rest : List Instance) → drop n xs ≡ x ∷ rest → (slice_get xs n ≡ Some x) × (drop (n + 1) xs ≡ rest)
drop_head [] zero x rest h = let bad : [] ≡ x ∷ rest = h in cc
drop_head [] (suc n) x rest h = let bad : [] ≡ x ∷ rest = h in cc
drop_head (y ∷ ys) zero x rest h =
    let whole : y ∷ ys ≡ x ∷ rest = h in
    let first : y ≡ x = cc in
    let after : ys ≡ rest = cc in
    (ap (λ (z : Instance). Some z) first, after)
drop_head (y ∷ ys) (suc n) x rest h =
    let r = drop_head ys n x rest h in
    let e : suc n + 1 ≡ suc (n + 1) = omega arith in
    (r.0, ap (λ (k : ℕ). drop k (y ∷ ys)) e ∙ r.1)

rest_faults : (modules : List Module) (library : Library) → AreDistinct (module_names modules) → (levels : ℕ) (inner : ℕ → List FaultAt) (around : List ℕ)
    (m : ℕ) (scope : ModuleInstance) → slice_get modules m ≡ Some scope.body → AreNamed modules around scope.around → InnerDenoted modules library levels inner scope
    → (place : ℕ) (rest : List Instance) → drop place scope.body.instances ≡ rest
    → placed_faults modules library (flat_map (listed modules levels) (map (λ (item : ℕ × Instance). placed_at scope item.0 item.1) (enumerate_from place rest)))
    ≡ map (denoted modules) (faults_along inner around m place (map (step_of modules library) rest))
rest_faults modules library distinct levels inner around m scope body named within place [] is = refl
rest_faults modules library distinct levels inner around m scope body named within place (one ∷ rest) is =
    let at = drop_head scope.body.instances place one rest is in
    let line : line_in (instance_in (slice_get modules m) place) ≡ one.line =
    ap (λ (o : Option Module). line_in (instance_in o place)) body ∙ ap line_in at.0 in
    let after = flat_map (listed modules levels) (map (λ (item : ℕ × Instance). placed_at scope item.0 item.1) (enumerate_from (place + 1) rest)) in
    let later = faults_along inner around m (place + 1) (map (step_of modules library) rest) in
    let here = faults_at inner around m place (step_of modules library one) in
    filter_map-append (placed_fault modules library) (listed modules levels (placed_at scope place one)) after
    ∙ (ap (λ (xs : List (At DesignKind)). xs ++ placed_faults modules library after)
    (one_named modules library distinct levels inner around m scope named within place one line (place_of (module_names modules) one.kind) refl)
    ∙ (ap (λ (xs : List (At DesignKind)). map (denoted modules) here ++ xs)
    (rest_faults modules library distinct levels inner around m scope body named within (place + 1) rest at.1)
    ∙ sym (map-append (denoted modules) here later)))

-- ---- all instances

pub steps_at : (modules : List Module) (library : Library) (m : ℕ) (body : Module) → slice_get modules m ≡ Some body
    → steps_of (all_steps modules library) m ≡ map (step_of modules library) body.instances
steps_at modules library m body is =
    get_or_from_slice_get (all_steps modules library) m (steps_in modules library body) [] (map_at (steps_in modules library) modules m body is)

-- the faults in a module instance
pub same_faults : (modules : List Module) (library : Library) → AreDistinct (module_names modules) → (levels m : ℕ) (around : List ℕ) (scope : ModuleInstance)
    → slice_get modules m ≡ Some scope.body → AreNamed modules around scope.around
    → placed_faults modules library (below modules levels scope) ≡ map (denoted modules) (faults_from (all_steps modules library) levels around m 0)
same_faults modules library distinct zero m around scope body named = refl
same_faults modules library distinct (suc levels) m around scope body named =
    rest_faults modules library distinct levels (λ p. faults_from (all_steps modules library) levels (p ∷ around) p 0) around m scope body named
    (λ p b place instance is. same_faults modules library distinct levels p (p ∷ around) (scope_for (placed_at scope place instance) b) is ((b, is, refl), named))
    0 scope.body.instances refl
    ∙ ap (λ (steps : List Step). map (denoted modules) (faults_along (λ p. faults_from (all_steps modules library) levels (p ∷ around) p 0) around m 0 steps))
    (sym (steps_at modules library m scope.body body))
