-- What holds of the walk at each of its steps.
use Rattle.std.proofs.Common.{◌≡◌, ◌+◌, ◌-◌, ◌<◌, ◌≤◌, ◌||◌, ◌==◌, inl, inr, ℕ, zero, suc, Bool, true, false, List, [], ◌∷◌, ◌++◌, map, length, take, drop, set, replicate, slice_get, Some, refl, sym, ◌∙◌, ap, subst, arith}
use Rattle.std.specs.Prelude.{⊤}
use Rattle.std.proofs.lemmas.Bool.{false≢true, or_cases, or_left, or_right, eqb-true, ne_eqb}
use Rattle.std.proofs.lemmas.List.{get_or-set_same, get_or-set_other}
use Rattle.std.proofs.lemmas.List.Folds.{list_any-append}
use Rattle.std.proofs.Math.Bool.{or-false}
use Rattle.std.specs.List.{AllByRecursion}
use Rattle.source_types.specs.declared.fault_kinds.DesignKind.{DesignKind}
use Rattle.flat_design.specs.declared.elaborate.walk.FaultAt.{FaultAt}
use Rattle.flat_design.specs.declared.elaborate.walk.Frame.{Frame}
use Rattle.flat_design.specs.declared.elaborate.walk.Halt.{Halt}
use Rattle.flat_design.specs.declared.elaborate.walk.Halt.TheVariants as halt
use Rattle.flat_design.specs.declared.elaborate.walk.Mark.{Mark}
use Rattle.flat_design.specs.declared.elaborate.walk.Mark.TheVariants as mark
use Rattle.flat_design.specs.declared.elaborate.walk.Step.{Step}
use Rattle.flat_design.specs.declared.elaborate.walk.Step.TheVariants as step
use Rattle.flat_design.specs.Walk.{AreOrdered, IsOf, fault_at, faults_along, faults_below, faults_from, halt_from, is_in, steps_of}
use Rattle.flat_design.proofs.WalkFacts.{StopsAlong, clean, is_closed, is_open, mark_of, stops_along}

-- ---- numbers in lists

pub in_place : (xs : List ℕ) (e : ℕ) → is_in xs e ≡ true → (q : ℕ) × (slice_get xs q ≡ Some e)
in_place [] e h = absurd (false≢true h)
in_place (x ∷ xs) e h =
    elim (or_cases (x == e) (is_in xs e) h) [
      | inl same ↦ (0, ap (λ (y : ℕ). Some y) (eqb-true x e same))
      | inr later ↦ let r = in_place xs e later in (suc r.0, r.1)
    ]

pub in_take_in : (xs : List ℕ) (q e : ℕ) → is_in (take q xs) e ≡ true → is_in xs e ≡ true
in_take_in [] zero e h = absurd (false≢true h)
in_take_in [] (suc q) e h = absurd (false≢true h)
in_take_in (x ∷ xs) zero e h = absurd (false≢true h)
in_take_in (x ∷ xs) (suc q) e h =
    elim (or_cases (x == e) (is_in (take q xs) e) h) [
      | inl same ↦ or_left (x == e) (is_in xs e) same
      | inr later ↦ or_right (x == e) (is_in xs e) (in_take_in xs q e later)
    ]

pub in_push : (xs : List ℕ) (x e : ℕ) → is_in (xs ++ x ∷ []) e ≡ (is_in xs e || (x == e))
in_push xs x e = list_any-append (λ (other : ℕ). other == e) xs (x ∷ []) ∙ ap (λ (t : Bool). is_in xs e || t) (or-false (x == e))

pub in_push_other : (xs : List ℕ) (m x : ℕ) → (m ≡ x → ⊥) → is_in (xs ++ m ∷ []) x ≡ is_in xs x
in_push_other xs m x distinct = in_push xs m x ∙ (ap (λ (b : Bool). is_in xs x || b) (ne_eqb m x distinct) ∙ or-false (is_in xs x))

pub in_push_left : (xs : List ℕ) (x e : ℕ) → is_in xs e ≡ true → is_in (xs ++ x ∷ []) e ≡ true
in_push_left xs x e h = in_push xs x e ∙ or_left (is_in xs e) (x == e) h

pub of_push : (order : List ℕ) (m : ℕ) (one : Step) → IsOf order one → IsOf (order ++ m ∷ []) one
of_push order m (step.Fault kind) is = is
of_push order m (step.Cell kind) is = is
of_push order m (step.Enter e fits) is = (is.0, in_push_left order m e is.1)

pub all_push : (order : List ℕ) (m : ℕ) (steps : List Step) → AllByRecursion (IsOf order) steps → AllByRecursion (IsOf (order ++ m ∷ [])) steps
all_push order m [] all = tt
all_push order m (one ∷ rest) all = (of_push order m one all.0, all_push order m rest all.1)

-- ---- marks

abbrev pub weight : Mark → ℕ
weight mark.New = 2
weight mark.Open = 1
weight mark.Closed = 0

abbrev pub open_weight : Mark → ℕ
open_weight mark.New = 0
open_weight mark.Open = 1
open_weight mark.Closed = 0

abbrev pub total : (Mark → ℕ) → List Mark → ℕ
total f [] = 0
total f (mk ∷ marks) = f mk + total f marks

pub total_set : (f : Mark → ℕ) (marks : List Mark) (i : ℕ) (mk : Mark) → i < length marks → total f (set marks i mk) + f (mark_of marks i) ≡ total f marks + f mk
total_set f [] i mk h = absurd (omega arith)
total_set f (x ∷ xs) zero mk h = omega arith
total_set f (x ∷ xs) (suc i) mk h = let e = total_set f xs i mk (omega arith) in omega arith

pub few_open : (marks : List Mark) → total open_weight marks ≤ length marks
few_open [] = omega arith
few_open (mark.New ∷ marks) = let e = few_open marks in omega arith
few_open (mark.Open ∷ marks) = let e = few_open marks in omega arith
few_open (mark.Closed ∷ marks) = let e = few_open marks in omega arith

pub none_open : (n : ℕ) → total open_weight (replicate n mark.New) ≡ 0
none_open zero = refl
none_open (suc n) = let e = none_open n in omega arith

pub same_mark : (marks : List Mark) (i : ℕ) (mk : Mark) → i < length marks → mark_of (set marks i mk) i ≡ mk
same_mark marks i mk h = get_or-set_same marks i mk mark.New h

pub other_mark : (marks : List Mark) (i j : ℕ) (mk : Mark) → (i ≡ j → ⊥) → mark_of (set marks i mk) j ≡ mark_of marks j
other_mark marks i j mk distinct = get_or-set_other marks i j mk mark.New (λ e. distinct (sym e))

pub closed_not_open : (mk : Mark) → is_closed mk ≡ true → is_open mk ≡ false
closed_not_open mark.New h = absurd (false≢true h)
closed_not_open mark.Open h = absurd (false≢true h)
closed_not_open mark.Closed h = refl

pub weight_of_open : (mk : Mark) → is_open mk ≡ true → (weight mk ≡ 1) × (open_weight mk ≡ 1)
weight_of_open mark.New h = absurd (false≢true h)
weight_of_open mark.Open h = (refl, refl)
weight_of_open mark.Closed h = absurd (false≢true h)

-- ---- the stack

abbrev pub modules_in : List Frame → List ℕ
modules_in frames = map (λ (f : Frame). f.body) frames

-- the faults that are left where a module is being walked, and its instances after the one that is walked are left
abbrev pub left_outside : List (List Step) → List Frame → List FaultAt
left_outside all [] = []
left_outside all (f ∷ outer) =
    faults_from all (length all - length outer) (f.body ∷ modules_in outer) f.body (f.next + 1) ++ left_outside all outer

abbrev pub left : List (List Step) → List Frame → List FaultAt
left all [] = []
left all (f ∷ outer) =
    faults_from all (length all - length outer) (f.body ∷ modules_in outer) f.body f.next ++ left_outside all outer

pub record IsFrame (all : List (List Step)) (order : List ℕ) (outer : List Frame) (f : Frame) : Type 0 where
  pub within : f.body < length all
  pub fresh : is_in order f.body ≡ false
  pub distinct : is_in (modules_in outer) f.body ≡ false
  pub passed : AllByRecursion (IsOf order) (take f.next (steps_of all f.body))

abbrev pub AreWaiting : List (List Step) → List ℕ → ℕ → List Frame → Type 0
AreWaiting all order m [] = ⊤
AreWaiting all order m (g ∷ outer) =
    IsFrame all order outer g × ((slice_get (steps_of all g.body) g.next ≡ Some (step.Enter m true)) × AreWaiting all order g.body outer)

abbrev pub IsStack : List (List Step) → List ℕ → List Frame → Type 0
IsStack all order [] = ⊤
IsStack all order (f ∷ outer) = IsFrame all order outer f × AreWaiting all order f.body outer

pub record Walking (all : List (List Step)) (top : ℕ) (marks : List Mark) (order : List ℕ) (stack : List Frame) : Type 0 where
  pub count : length marks ≡ length all
  pub faults : left all stack ≡ faults_below all top
  pub closed : (m : ℕ) → is_closed (mark_of marks m) ≡ is_in order m
  pub opened : (m : ℕ) → is_open (mark_of marks m) ≡ is_in (modules_in stack) m
  pub ordered : AreOrdered all order
  pub frames : IsStack all order stack
  pub depth : total open_weight marks ≡ length stack
  pub reached : (is_in order top || is_in (modules_in stack) top) ≡ true

-- ---- at a step

pub faults_suc : (all : List (List Step)) (n k : ℕ) (around : List ℕ) (m next : ℕ) → n ≡ suc k
    → faults_from all n around m next ≡ faults_along (λ entered. faults_from all k (entered ∷ around) entered 0) around m next (drop next (steps_of all m))
faults_suc all n k around m next e = rw e refl

abbrev pub around_of : Frame → List Frame → List ℕ
around_of f outer = f.body ∷ modules_in outer

abbrev pub inner_of : List (List Step) → Frame → List Frame → ℕ → List FaultAt
inner_of all f outer entered = faults_from all (length all - suc (length outer)) (entered ∷ around_of f outer) entered 0

-- modules that were walked have no faults
pub quiet_of : (all : List (List Step)) (order : List ℕ) (levels e : ℕ) (around : List ℕ) → AreOrdered all order
    → ((a : ℕ) → is_in order a ≡ true → is_in around a ≡ false) → is_in order e ≡ true → faults_from all levels (e ∷ around) e 0 ≡ []
quiet_of all order levels e around ordered distinct h =
    let at : (q : ℕ) × (slice_get order q ≡ Some e) = in_place order e h in
    clean all order ordered levels at.0 e around at.1 (λ a g. distinct a (in_take_in order at.0 a g))

abbrev pub NextStepOf : List (List Step) → List Mark → List ℕ → Frame → List Frame → Halt → Type 0
NextStepOf all marks order f outer h = StopsAlong marks order (around_of f outer) (inner_of all f outer) f.body f.next (drop f.next (steps_of all f.body)) h

pub enough : (all : List (List Step)) (top : ℕ) (marks : List Mark) (order : List ℕ) (f : Frame) (outer : List Frame)
    → Walking all top marks order (f ∷ outer) → length all - length outer ≡ suc (length all - suc (length outer))
enough all top marks order f outer w = omega (arith, few_open marks, w.count, w.depth)

pub next_step : (all : List (List Step)) (top : ℕ) (marks : List Mark) (order : List ℕ) (f : Frame) (outer : List Frame)
    → Walking all top marks order (f ∷ outer) → NextStepOf all marks order f outer (halt_from marks f.next (drop f.next (steps_of all f.body)))
next_step all top marks order f outer w =
    stops_along marks order (around_of f outer) (inner_of all f outer) f.body f.next (drop f.next (steps_of all f.body)) (record {
      opened = w.opened;
      walked = λ e h. sym (w.closed e) ∙ h;
      quiet = λ e h. quiet_of all order (length all - suc (length outer)) e (around_of f outer) w.ordered
          (λ a g. sym (w.opened a) ∙ closed_not_open (mark_of marks a) (w.closed a ∙ g))
          (sym (w.closed e) ∙ h);
    })

-- what is left, with the step's frame opened up
pub left_is : (all : List (List Step)) (top : ℕ) (marks : List Mark) (order : List ℕ) (f : Frame) (outer : List Frame)
    → Walking all top marks order (f ∷ outer)
    → faults_along (inner_of all f outer) (around_of f outer) f.body f.next (drop f.next (steps_of all f.body)) ++ left_outside all outer ≡ faults_below all top
left_is all top marks order f outer w =
    sym (ap (λ (xs : List FaultAt). xs ++ left_outside all outer)
    (faults_suc all (length all - length outer) (length all - suc (length outer)) (around_of f outer) f.body f.next (enough all top marks order f outer w)))
    ∙ w.faults

-- the walk has found a fault
pub step_fault : (all : List (List Step)) (top : ℕ) (marks : List Mark) (order : List ℕ) (f : Frame) (outer : List Frame) (instance : ℕ) (kind : DesignKind)
    → Walking all top marks order (f ∷ outer) → halt_from marks f.next (drop f.next (steps_of all f.body)) ≡ halt.Fault instance kind
    → (rest : List FaultAt) × (faults_below all top ≡ fault_at f.body instance kind ∷ rest)
step_fault all top marks order f outer instance kind w is =
    let s : NextStepOf all marks order f outer (halt.Fault instance kind) = subst (NextStepOf all marks order f outer) is (next_step all top marks order f outer w) in
    (s.0 ++ left_outside all outer, sym (left_is all top marks order f outer w) ∙ ap (λ (xs : List FaultAt). xs ++ left_outside all outer) s.1)
