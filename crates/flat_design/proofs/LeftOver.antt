-- What is left of the expansion of a design, by the modules that are being expanded.
use Rattle.std.proofs.Common.{◌≡◌, ◌+◌, ◌-◌, ◌<◌, ◌≤◌, inl, inr, ℕ, zero, suc, false, List, [], ◌∷◌, ◌++◌, map, length, drop, slice_get, nat_le, Option, Some, None, refl, sym, ◌∙◌, ap, subst, arith}
use Rattle.std.proofs.lemmas.Bool.{cases_lt, cond-false, cond-true, false_from_ne_true, le-leb, le-ltb, lt-leb, lt-ltb}
use Rattle.std.proofs.lemmas.List.{append_assoc, length-map}
use Rattle.std.proofs.lemmas.Option.{slice_get-map}
use Rattle.std.specs.List.{enumerate_from, flat_map}
use Rattle.std.specs.Option.{option_map}
use Rattle.source_types.specs.declared.fault_kinds.DesignKind.{DesignKind}
use Rattle.source_types.specs.declared.fault_kinds.DesignKind.TheVariants as fault
use Rattle.source_types.specs.declared.libraries.Library.{Library}
use Rattle.pin_types.specs.declared.library_cells.LibCell.{LibCell}
use Rattle.source_types.specs.declared.netlists.Instance.{Instance}
use Rattle.source_types.specs.declared.netlists.Module.{Module}
use Rattle.flat_model.specs.Connections.{instance_fault}
use Rattle.flat_model.specs.Instances.{Placed, ModuleInstance, below, cell_at, entered, level, scope_for, stands_in}
use Rattle.flat_design.specs.declared.elaborate.expansion.Opened.{Opened}
use Rattle.flat_design.specs.declared.elaborate.expansion.NextStep.{NextStep}
use Rattle.flat_design.specs.declared.elaborate.expansion.NextStep.TheVariants as next_step
use Rattle.flat_design.specs.declared.elaborate.walk.Step.{Step}
use Rattle.flat_design.specs.declared.elaborate.walk.Step.TheVariants as step
use Rattle.flat_design.specs.Expansion.{HasRoom, begun, frame_after, outer_of, next_step_at, next_step_of, next_step_or_end}
use Rattle.flat_design.specs.Elaboration.{IsPlaced}
use Rattle.flat_design.specs.Steps.{all_steps, step_of, steps_in}
use Rattle.flat_design.specs.Walk.{steps_of}
use Rattle.flat_design.proofs.InstanceFaults.{listed, placed_at, steps_at}
use Rattle.flat_design.proofs.PlaceFacts.{drop_one}
use Rattle.flat_design.proofs.StepMeanings.{Means, cell_here, step_means}

-- ---- the instances of a module from a place on

abbrev pub placed_from : ModuleInstance → ℕ → List Instance → List Placed
placed_from scope next rest = map (λ (item : ℕ × Instance). placed_at scope item.0 item.1) (enumerate_from next rest)

-- with those in them
abbrev pub below_from : List Module → ℕ → ModuleInstance → ℕ → List Placed
below_from modules zero scope next = []
below_from modules (suc levels) scope next = flat_map (listed modules levels) (placed_from scope next (drop next scope.body.instances))

pub below_first : (modules : List Module) (levels : ℕ) (scope : ModuleInstance) → below modules levels scope ≡ below_from modules levels scope 0
below_first modules zero scope = refl
below_first modules (suc levels) scope = refl

drop_past : {X : Type 0} (xs : List X) (n : ℕ) → slice_get xs n ≡ None → drop n xs ≡ []
drop_past [] zero none = refl
drop_past [] (suc n) none = refl
drop_past (x ∷ xs) zero none = let bad : Some x ≡ None = none in cc
drop_past (x ∷ xs) (suc n) none = drop_past xs n none

below_end : (modules : List Module) (levels : ℕ) (scope : ModuleInstance) (next : ℕ) → slice_get scope.body.instances next ≡ None → below_from modules levels scope next ≡ []
below_end modules zero scope next none = refl
below_end modules (suc levels) scope next none =
    ap (λ (rest : List Instance). flat_map (listed modules levels) (placed_from scope next rest)) (drop_past scope.body.instances next none)

below_next : (modules : List Module) (levels : ℕ) (scope : ModuleInstance) (next : ℕ) (one : Instance) → slice_get scope.body.instances next ≡ Some one
    → below_from modules (suc levels) scope next ≡ listed modules levels (placed_at scope next one) ++ below_from modules (suc levels) scope (next + 1)
below_next modules levels scope next one at =
    ap (λ (rest : List Instance). flat_map (listed modules levels) (placed_from scope next rest)) (drop_one scope.body.instances next one at)

-- ---- what is left

-- a module instance that is being expanded
pub record IsOpen (modules : List Module) (scopes : List ModuleInstance) (f : Opened) (scope : ModuleInstance) : Type 0 where
  pub at : slice_get scopes f.scope ≡ Some scope
  pub body : slice_get modules f.body ≡ Some scope.body
  pub level : length scope.path ≡ f.level

abbrev pub Left : List Module → List ModuleInstance → List Opened → List Placed → Type 0
Left modules scopes [] left = left ≡ []
Left modules scopes (f ∷ outer) left =
    (scope : ModuleInstance) × IsOpen modules scopes f scope
    × ((rest : List Placed) × (left ≡ below_from modules (length modules - f.level) scope f.next ++ rest) × Left modules scopes outer rest)

-- ---- a step

-- an instance is next, and is not too deep
pub record IsNext (scopes : List ModuleInstance) (f : Opened) (placed : Placed) : Type 0 where
  pub is : IsPlaced scopes placed (outer_of f)
  pub shallow : level placed ≤ 100

-- what a step leaves
abbrev pub Stepped : List Module → Library → List ModuleInstance → Opened → List Opened → List Placed → NextStep → Type 0
Stepped modules library scopes f outer left next_step.End = Left modules scopes outer left
Stepped modules library scopes f outer left next_step.Deep = (placed : Placed) × (rest : List Placed) × (left ≡ placed ∷ rest) × (100 < level placed)
Stepped modules library scopes f outer left (next_step.Cell kind) =
    (placed : Placed) × (rest : List Placed) × (left ≡ placed ∷ rest) × IsNext scopes f placed
    × ((cell : LibCell) × (slice_get library.cells kind ≡ Some cell) × (entered modules placed ≡ None) × (cell_at modules library placed ≡ Some (cell_here placed cell)))
    × Left modules scopes (frame_after f ∷ outer) rest
Stepped modules library scopes f outer left (next_step.Enter p) =
    (placed : Placed) × (rest : List Placed) × (left ≡ placed ∷ rest) × IsNext scopes f placed
    × ((b : Module) × (slice_get modules p ≡ Some b) × (cell_at modules library placed ≡ None) × (entered modules placed ≡ Some (scope_for placed b))
    × ((k : ℕ) → slice_get scopes k ≡ Some (scope_for placed b) → Left modules scopes (begun k p (f.level + 1) ∷ frame_after f ∷ outer) rest))

-- the instances after the one that is next
after : (modules : List Module) (scopes : List ModuleInstance) (f : Opened) (outer : List Opened) (scope : ModuleInstance) (levels : ℕ) (rest : List Placed)
    → IsOpen modules scopes f scope → length modules - f.level ≡ suc levels → Left modules scopes outer rest
    → Left modules scopes (frame_after f ∷ outer) (below_from modules (suc levels) scope (f.next + 1) ++ rest)
after modules scopes f outer scope levels rest is enough more = (
  scope,
  record { at = is.at; body = is.body; level = is.level },
  (rest, ap (λ (n : ℕ). below_from modules n scope (f.next + 1) ++ rest) (sym enough), more),
)

-- those in a module that is entered come first
inside : (modules : List Module) (scopes : List ModuleInstance) (f : Opened) (outer : List Opened) (scope : ModuleInstance) (levels : ℕ) (placed : Placed) (b : Module)
    (p k : ℕ) (rest : List Placed) → length modules - f.level ≡ suc levels → length scope.path ≡ f.level → placed.scope ≡ scope
    → slice_get modules p ≡ Some b → slice_get scopes k ≡ Some (scope_for placed b) → Left modules scopes (frame_after f ∷ outer) rest
    → Left modules scopes (begun k p (f.level + 1) ∷ frame_after f ∷ outer) (below modules levels (scope_for placed b) ++ rest)
inside modules scopes f outer scope levels placed b p k rest enough deep same at found more =
    let up : length placed.scope.path ≡ f.level = ap (λ (s : ModuleInstance). length s.path) same ∙ deep in
    let one : length modules - (f.level + 1) ≡ levels = omega (arith, enough) in (
      scope_for placed b,
      record { at = found; body = at; level = omega (arith, up) },
      (
        rest,
        ap (λ (things : List Placed). things ++ rest) (below_first modules levels (scope_for placed b)
            ∙ ap (λ (n : ℕ). below_from modules n (scope_for placed b) 0) (sym one)),
        more,
      ),
    )

-- ---- what is next

next_of : (f : Opened) (scope : ModuleInstance) (scopes : List ModuleInstance) (modules : List Module) (one : Instance) → IsOpen modules scopes f scope
    → slice_get scope.body.instances f.next ≡ Some one → IsPlaced scopes (placed_at scope f.next one) (outer_of f)
next_of f scope scopes modules one is at = record { scope = is.at; place = refl; instance = at }

split_first : (placed : Placed) (inner after' rest left : List Placed) → left ≡ ((placed ∷ inner) ++ after') ++ rest → left ≡ placed ∷ (inner ++ (after' ++ rest))
split_first placed inner after' rest left is = is ∙ ap (λ (things : List Placed). placed ∷ things) (append_assoc inner after' rest)

-- an instance that is listed alone
pub listed_alone : (modules : List Module) (levels : ℕ) (placed : Placed) → entered modules placed ≡ None → listed modules levels placed ≡ placed ∷ []
listed_alone modules levels placed none = rw (none, listed) refl

pub listed_entered : (modules : List Module) (levels : ℕ) (placed : Placed) (inner : ModuleInstance) → entered modules placed ≡ Some inner
    → listed modules levels placed ≡ placed ∷ below modules levels inner
listed_entered modules levels placed inner some = rw (some, listed) refl

-- the step at an instance, by its step
stepped_one : (modules : List Module) (library : Library) (scopes : List ModuleInstance) (f : Opened) (outer : List Opened) (left : List Placed) (scope : ModuleInstance)
    (levels : ℕ) (one : Instance) (rest : List Placed) → IsOpen modules scopes f scope → length modules - f.level ≡ suc levels → Left modules scopes outer rest
    → slice_get scope.body.instances f.next ≡ Some one
    → left ≡ below_from modules (suc levels) scope f.next ++ rest
    → ((kind : DesignKind) → instance_fault modules library (placed_at scope f.next one) ≡ Some kind → ⊥)
    → (s : Step) → Means modules library (placed_at scope f.next one) s → Stepped modules library scopes f outer left (next_step_of f.level s)
stepped_one modules library scopes f outer left scope levels one rest is enough more at left_is sound (step.Fault kind) means = absurd (sound kind means)
stepped_one modules library scopes f outer left scope levels one rest is enough more at left_is sound (step.Cell kind) means =
    let placed = placed_at scope f.next one in
    let there : left ≡ placed ∷ (below_from modules (suc levels) scope (f.next + 1) ++ rest) =
    left_is ∙ (ap (λ (things : List Placed). things ++ rest) (below_next modules levels scope f.next one at)
    ∙ ap (λ (things : List Placed). (things ++ below_from modules (suc levels) scope (f.next + 1)) ++ rest) (listed_alone modules levels placed means.2)) in
    elim (cases_lt f.level 100) [
      | inl shallow ↦ subst (Stepped modules library scopes f outer left) (sym (cond-true _ (next_step.Cell kind) next_step.Deep (lt-ltb f.level 100 shallow))) (
        placed,
        below_from modules (suc levels) scope (f.next + 1) ++ rest,
        there,
        record { is = next_of f scope scopes modules one is at; shallow = omega (arith, is.level) },
        means,
        after modules scopes f outer scope levels rest is enough more,
      )
      | inr deep ↦ subst (Stepped modules library scopes f outer left) (sym (cond-false _ (next_step.Cell kind) next_step.Deep (le-ltb f.level 100 deep))) (
        placed,
        below_from modules (suc levels) scope (f.next + 1) ++ rest,
        there,
        omega (arith, is.level),
      )
    ]
stepped_one modules library scopes f outer left scope levels one rest is enough more at left_is sound (step.Enter p fits) means =
    let placed = placed_at scope f.next one in
    let b = means.0 in
    let free : stands_in b scope ≡ false = false_from_ne_true (stands_in b scope) (λ near. sound fault.ModuleCycle (means.3 near)) in
    let enters : entered modules placed ≡ Some (scope_for placed b) = means.4 free in
    let there : left ≡ placed ∷ (below modules levels (scope_for placed b) ++ (below_from modules (suc levels) scope (f.next + 1) ++ rest)) =
    split_first placed (below modules levels (scope_for placed b)) (below_from modules (suc levels) scope (f.next + 1)) rest left
    (left_is ∙ (ap (λ (things : List Placed). things ++ rest) (below_next modules levels scope f.next one at)
    ∙ ap (λ (things : List Placed). (things ++ below_from modules (suc levels) scope (f.next + 1)) ++ rest)
    (listed_entered modules levels placed (scope_for placed b) enters))) in
    elim (cases_lt f.level 100) [
      | inl shallow ↦ subst (Stepped modules library scopes f outer left) (sym (cond-true _ (next_step.Enter p) next_step.Deep (lt-ltb f.level 100 shallow))) (
        placed,
        below modules levels (scope_for placed b) ++ (below_from modules (suc levels) scope (f.next + 1) ++ rest),
        there,
        record { is = next_of f scope scopes modules one is at; shallow = omega (arith, is.level) },
        (
          b,
          means.1,
          means.2,
          enters,
          λ k found. inside modules scopes f outer scope levels placed b p k (below_from modules (suc levels) scope (f.next + 1) ++ rest) enough is.level refl
              means.1 found (after modules scopes f outer scope levels rest is enough more),
        ),
      )
      | inr deep ↦ subst (Stepped modules library scopes f outer left) (sym (cond-false _ (next_step.Enter p) next_step.Deep (le-ltb f.level 100 deep))) (
        placed,
        below modules levels (scope_for placed b) ++ (below_from modules (suc levels) scope (f.next + 1) ++ rest),
        there,
        omega (arith, is.level),
      )
    ]

-- the step at what stands at a place
stepped_at : (modules : List Module) (library : Library) (scopes : List ModuleInstance) (f : Opened) (outer : List Opened) (left : List Placed) (scope : ModuleInstance)
    (levels : ℕ) (rest : List Placed) → IsOpen modules scopes f scope → length modules - f.level ≡ suc levels → Left modules scopes outer rest
    → left ≡ below_from modules (suc levels) scope f.next ++ rest
    → ((placed : Placed) (later : List Placed) (kind : DesignKind) → left ≡ placed ∷ later → instance_fault modules library placed ≡ Some kind → ⊥)
    → (o : Option Instance) → slice_get scope.body.instances f.next ≡ o
    → Stepped modules library scopes f outer left (next_step_or_end f.level (option_map (step_of modules library) o))
stepped_at modules library scopes f outer left scope levels rest is enough more left_is sound None at =
    subst (Left modules scopes outer) (sym (left_is ∙ ap (λ (things : List Placed). things ++ rest) (below_end modules (suc levels) scope f.next at))) more
stepped_at modules library scopes f outer left scope levels rest is enough more left_is sound (Some one) at =
    stepped_one modules library scopes f outer left scope levels one rest is enough more at left_is
    (λ kind has. sound (placed_at scope f.next one) _ kind
    (left_is ∙ ap (λ (things : List Placed). things ++ rest) (below_next modules levels scope f.next one at)) has)
    (step_of modules library one) (step_means modules library (placed_at scope f.next one))

stepped_low : (modules : List Module) (library : Library) (scopes : List ModuleInstance) (f : Opened) (outer : List Opened) (left : List Placed)
    (l : Left modules scopes (f ∷ outer) left) → f.level < length modules
    → ((placed : Placed) (later : List Placed) (kind : DesignKind) → left ≡ placed ∷ later → instance_fault modules library placed ≡ Some kind → ⊥)
    → Stepped modules library scopes f outer left (next_step_at (all_steps modules library) f)
stepped_low modules library scopes f outer left l low sound =
    let scope : ModuleInstance = l.0 in
    let is : IsOpen modules scopes f scope = l.1 in
    let rest : List Placed = l.2.0 in
    let levels : ℕ = length modules - suc f.level in
    let enough : length modules - f.level ≡ suc levels = omega (arith, low) in
    let left_is : left ≡ below_from modules (suc levels) scope f.next ++ rest =
    l.2.1 ∙ ap (λ (n : ℕ). below_from modules n scope f.next ++ rest) enough in
    let count : length (all_steps modules library) ≡ length modules = length-map modules (steps_in modules library) in
    let here : next_step_at (all_steps modules library) f ≡ next_step_or_end f.level (slice_get (steps_of (all_steps modules library) f.body) f.next) =
    cond-false (nat_le (length (all_steps modules library)) f.level) _ _ (lt-leb (length (all_steps modules library)) f.level (omega (arith, low, count))) in
    let steps : slice_get (steps_of (all_steps modules library) f.body) f.next ≡ option_map (step_of modules library) (slice_get scope.body.instances f.next) =
    ap (λ (xs : List Step). slice_get xs f.next) (steps_at modules library f.body scope.body is.body) ∙ slice_get-map (step_of modules library) scope.body.instances f.next in
    subst (Stepped modules library scopes f outer left) (sym (here ∙ ap (next_step_or_end f.level) steps))
    (stepped_at modules library scopes f outer left scope levels rest is enough l.2.2 left_is sound (slice_get scope.body.instances f.next) refl)

stepped_high : (modules : List Module) (library : Library) (scopes : List ModuleInstance) (f : Opened) (outer : List Opened) (left : List Placed)
    (l : Left modules scopes (f ∷ outer) left) → length modules ≤ f.level → Stepped modules library scopes f outer left (next_step_at (all_steps modules library) f)
stepped_high modules library scopes f outer left l high =
    let rest : List Placed = l.2.0 in
    let none : length modules - f.level ≡ 0 = omega (arith, high) in
    let count : length (all_steps modules library) ≡ length modules = length-map modules (steps_in modules library) in
    let same : left ≡ rest = l.2.1 ∙ ap (λ (n : ℕ). below_from modules n l.0 f.next ++ rest) none in
    let here : next_step_at (all_steps modules library) f ≡ next_step.End =
    cond-true (nat_le (length (all_steps modules library)) f.level) _ _ (le-leb (length (all_steps modules library)) f.level (omega (arith, high, count))) in
    subst (Stepped modules library scopes f outer left) (sym here) (subst (Left modules scopes outer) (sym same) l.2.2)

-- what a step leaves, where no instance that is left has a fault
pub step_leaves : (modules : List Module) (library : Library) (scopes : List ModuleInstance) (f : Opened) (outer : List Opened) (left : List Placed)
    → Left modules scopes (f ∷ outer) left
    → ((placed : Placed) (later : List Placed) (kind : DesignKind) → left ≡ placed ∷ later → instance_fault modules library placed ≡ Some kind → ⊥)
    → Stepped modules library scopes f outer left (next_step_at (all_steps modules library) f)
step_leaves modules library scopes f outer left l sound =
    elim (cases_lt f.level (length modules)) [
      | inl low ↦ stepped_low modules library scopes f outer left l low sound
      | inr high ↦ stepped_high modules library scopes f outer left l high
    ]

pub has_room : (t : NextStep) (next : ℕ) → next < 18446744073709551615 → HasRoom t next
has_room next_step.End next low = tt
has_room next_step.Deep next low = tt
has_room (next_step.Cell kind) next low = low
has_room (next_step.Enter p) next low = low
