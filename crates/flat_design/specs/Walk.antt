-- The first fault of the instances of a design, by the places of modules and instances alone. This project's own rules.
-- It reads: an instance stands before those in it, and they before the next one; an instance of a module that is being
-- walked is a cycle, and is not entered; each module is given by the steps of its instances.
use Rattle.std.specs.Prelude.{◌≡◌, ◌++◌, ◌+◌, ◌<◌, ◌==◌, ℕ, zero, suc, Bool, true, false, List, [], ◌∷◌, length, drop, take, get_or, slice_get, Option, Some, None, Result, Ok, Err, if◌then◌else◌}
use Rattle.std.specs.List.{AllByRecursion, list_any}
use Rattle.source_types.specs.declared.fault_kinds.DesignKind.{DesignKind}
use Rattle.source_types.specs.declared.fault_kinds.DesignKind.TheVariants as fault
use Rattle.flat_design.specs.declared.elaborate.walk.FaultAt.{FaultAt}
use Rattle.flat_design.specs.declared.elaborate.walk.Frame.{Frame}
use Rattle.flat_design.specs.declared.elaborate.walk.Halt.{Halt}
use Rattle.flat_design.specs.declared.elaborate.walk.Halt.TheVariants as halt
use Rattle.flat_design.specs.declared.elaborate.walk.Mark.{Mark}
use Rattle.flat_design.specs.declared.elaborate.walk.Mark.TheVariants as mark
use Rattle.flat_design.specs.declared.elaborate.walk.Step.{Step}
use Rattle.flat_design.specs.declared.elaborate.walk.Step.TheVariants as step

-- ---- faults

abbrev pub fault_at : ℕ → ℕ → DesignKind → FaultAt
fault_at m instance kind = record { body = m; instance = instance; kind = kind }

abbrev pub is_in : List ℕ → ℕ → Bool
is_in modules m = list_any (λ other. other == m) modules

-- the instances of a module
abbrev pub steps_of : List (List Step) → ℕ → List Step
steps_of all m = get_or all m []

-- the faults of an instance of a module and of those in it, these being given
abbrev pub faults_entered : List ℕ → ℕ → ℕ → ℕ → Bool → List FaultAt → List FaultAt
faults_entered around m place entered fits inner =
    if is_in around entered then fault_at m place fault.ModuleCycle ∷ []
    else (if fits then inner else fault_at m place fault.WidthMismatch ∷ inner)

-- the faults of an instance at a place of a module, and of those in it; `inner` has those in each module
abbrev pub faults_at : (ℕ → List FaultAt) → List ℕ → ℕ → ℕ → Step → List FaultAt
faults_at inner around m place (step.Fault kind) = fault_at m place kind ∷ []
faults_at inner around m place (step.Cell kind) = []
faults_at inner around m place (step.Enter entered fits) = faults_entered around m place entered fits (inner entered)

-- those of instances from a place on
abbrev pub faults_along : (ℕ → List FaultAt) → List ℕ → ℕ → ℕ → List Step → List FaultAt
faults_along inner around m place [] = []
faults_along inner around m place (one ∷ rest) =
    faults_at inner around m place one ++ faults_along inner around m (place + 1) rest

-- the faults of the instances of a module from a place on, and of those in them, for as many levels as said; the module
-- itself is the first of those around
abbrev pub faults_from : List (List Step) → ℕ → List ℕ → ℕ → ℕ → List FaultAt
faults_from all zero around m next = []
faults_from all (suc levels) around m next =
    faults_along (λ entered. faults_from all levels (entered ∷ around) entered 0) around m next (drop next (steps_of all m))

-- the faults of all instances of a design with this top module
abbrev pub faults_below : List (List Step) → ℕ → List FaultAt
faults_below all top = faults_from all (length all) (top ∷ []) top 0

-- ---- what the walk answers

-- an instance enters a module that there is
abbrev pub IsWithin : ℕ → Step → Type 0
IsWithin count (step.Fault kind) = Unit {0}
IsWithin count (step.Cell kind) = Unit {0}
IsWithin count (step.Enter entered fits) = entered < count

-- an instance is of a cell, or of one of these modules and fits
abbrev pub IsOf : List ℕ → Step → Type 0
IsOf before (step.Fault kind) = ⊥
IsOf before (step.Cell kind) = Unit {0}
IsOf before (step.Enter entered fits) = (fits ≡ true) × (is_in before entered ≡ true)

-- modules stand each once, after those that they instantiate
abbrev pub AreOrdered : List (List Step) → List ℕ → Type 0
AreOrdered all order = (place m : ℕ) → slice_get order place ≡ Some m
    → (m < length all) × (is_in (take place order) m ≡ false) × AllByRecursion (IsOf (take place order)) (steps_of all m)

-- the modules that are used in order, the top among them, where there is no fault; or the first fault
abbrev pub IsWalked : List (List Step) → ℕ → Result (List ℕ) FaultAt → Type 0
IsWalked all top (Ok order) = (faults_below all top ≡ []) × AreOrdered all order × (is_in order top ≡ true)
IsWalked all top (Err first) = (rest : List FaultAt) × (faults_below all top ≡ first ∷ rest)

-- ---- what stops the walk through the instances of a module

-- a module that is being walked, and the place of the instance that is next
abbrev pub frame : ℕ → ℕ → Frame
frame m next = record { body = m; next = next }

abbrev pub halt_entering : Mark → ℕ → ℕ → Bool → Option Halt
halt_entering mark.Open instance m fits = Some (halt.Fault instance fault.ModuleCycle)
halt_entering mark.New instance m fits = if fits then Some (halt.Open instance m) else Some (halt.Fault instance fault.WidthMismatch)
halt_entering mark.Closed instance m fits = if fits then None else Some (halt.Fault instance fault.WidthMismatch)

abbrev pub halt_at : List Mark → ℕ → Step → Option Halt
halt_at marks instance (step.Fault kind) = Some (halt.Fault instance kind)
halt_at marks instance (step.Cell kind) = None
halt_at marks instance (step.Enter entered fits) = halt_entering (get_or marks entered mark.New) instance entered fits

abbrev pub halt_or : Option Halt → Halt → Halt
halt_or (Some found) other = found
halt_or None other = other

abbrev pub halt_from : List Mark → ℕ → List Step → Halt
halt_from marks place [] = halt.End
halt_from marks place (one ∷ rest) = halt_or (halt_at marks place one) (halt_from marks (place + 1) rest)
