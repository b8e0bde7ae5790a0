-- What stops the walk through the instances of a module, and that modules that were walked have no fault.
use Rattle.std.proofs.Common.{◌≡◌, ◌+◌, ◌<◌, ◌≤◌, ◌==◌, inl, inr, ℕ, zero, suc, Bool, true, false, cond, List, [], ◌∷◌, ◌++◌, length, take, drop, get_or, slice_get, Option, Some, None, refl, sym, ◌∙◌, ap, arith}
use Rattle.std.proofs.lemmas.Bool.{false≢true, true≢false, or_cases, or_left, or_right, eqb-true, ne_eqb, cond-true, cond-false}
use Rattle.std.specs.List.{AllByRecursion}
use Rattle.source_types.specs.declared.fault_kinds.DesignKind.TheVariants as fault
use Rattle.flat_design.specs.declared.elaborate.walk.FaultAt.{FaultAt}
use Rattle.flat_design.specs.declared.elaborate.walk.Halt.{Halt}
use Rattle.flat_design.specs.declared.elaborate.walk.Halt.TheVariants as halt
use Rattle.flat_design.specs.declared.elaborate.walk.Mark.{Mark}
use Rattle.flat_design.specs.declared.elaborate.walk.Mark.TheVariants as mark
use Rattle.flat_design.specs.declared.elaborate.walk.Step.{Step}
use Rattle.flat_design.specs.declared.elaborate.walk.Step.TheVariants as step
use Rattle.flat_design.specs.Walk.{AreOrdered, IsOf, fault_at, faults_along, faults_at, faults_entered, faults_from, halt_at, halt_entering, halt_from, halt_or, is_in, steps_of}

-- ---- numbers in lists

pub differ : (xs : List ℕ) (a b : ℕ) → is_in xs a ≡ true → is_in xs b ≡ false → b ≡ a → ⊥
differ xs a b has lacks same = false≢true (sym lacks ∙ (ap (λ (x : ℕ). is_in xs x) same ∙ has))

pub in_cons_false : (x m : ℕ) (xs : List ℕ) → (x ≡ m → ⊥) → is_in xs m ≡ false → is_in (x ∷ xs) m ≡ false
in_cons_false x m xs distinct e = rw (ne_eqb x m distinct) e

pub in_take_place : (xs : List ℕ) (n e : ℕ) → is_in (take n xs) e ≡ true → (q : ℕ) × (q < n) × (slice_get xs q ≡ Some e)
in_take_place [] zero e h = absurd (false≢true h)
in_take_place [] (suc n) e h = absurd (false≢true h)
in_take_place (x ∷ xs) zero e h = absurd (false≢true h)
in_take_place (x ∷ xs) (suc n) e h =
    elim (or_cases (x == e) (is_in (take n xs) e) h) [
      | inl same ↦ (0, omega arith, ap (λ (y : ℕ). Some y) (eqb-true x e same))
      | inr later ↦ let r = in_take_place xs n e later in (suc r.0, omega arith, r.2)
    ]

pub in_take_less : (xs : List ℕ) (q n e : ℕ) → q ≤ n → is_in (take q xs) e ≡ true → is_in (take n xs) e ≡ true
in_take_less [] zero n e le h = absurd (false≢true h)
in_take_less [] (suc q) n e le h = absurd (false≢true h)
in_take_less (x ∷ xs) zero n e le h = absurd (false≢true h)
in_take_less (x ∷ xs) (suc q) zero e le h = absurd (omega arith)
in_take_less (x ∷ xs) (suc q) (suc n) e le h =
    elim (or_cases (x == e) (is_in (take q xs) e) h) [
      | inl same ↦ or_left (x == e) (is_in (take n xs) e) same
      | inr later ↦ or_right (x == e) (is_in (take n xs) e) (in_take_less xs q n e (omega arith) later)
    ]

-- ---- modules that were walked

-- what is in one list is not in another
abbrev pub AreDisjoint : List ℕ → List ℕ → Type 0
AreDisjoint before around = (a : ℕ) → is_in before a ≡ true → is_in around a ≡ false

entered_quiet : (near fits : Bool) (cycle wide inner : List FaultAt) → near ≡ false → fits ≡ true → inner ≡ [] → cond near cycle (cond fits inner wide) ≡ []
entered_quiet false true cycle wide inner far fit none = none
entered_quiet true fits cycle wide inner far fit none = absurd (true≢false far)
entered_quiet false false cycle wide inner far fit none = absurd (false≢true fit)

-- instances of cells, and of modules without faults that are not around, have no faults
quiet_at : (inner : ℕ → List FaultAt) (around before : List ℕ) (m place : ℕ) (one : Step)
    → ((e : ℕ) → is_in before e ≡ true → (is_in around e ≡ false) × (inner e ≡ [])) → IsOf before one → faults_at inner around m place one ≡ []
quiet_at inner around before m place (step.Fault kind) quiet is = absurd is
quiet_at inner around before m place (step.Cell kind) quiet is = refl
quiet_at inner around before m place (step.Enter e fits) quiet is =
    let q : (is_in around e ≡ false) × (inner e ≡ []) = quiet e is.1 in
    entered_quiet (is_in around e) fits (fault_at m place fault.ModuleCycle ∷ []) (fault_at m place fault.WidthMismatch ∷ inner e) (inner e) q.0 is.0 q.1

pub quiet_along : (inner : ℕ → List FaultAt) (around before : List ℕ) (m place : ℕ) (steps : List Step)
    → ((e : ℕ) → is_in before e ≡ true → (is_in around e ≡ false) × (inner e ≡ [])) → AllByRecursion (IsOf before) steps
    → faults_along inner around m place steps ≡ []
quiet_along inner around before m place [] quiet all = refl
quiet_along inner around before m place (one ∷ rest) quiet all =
    ap (λ (xs : List FaultAt). xs ++ faults_along inner around m (place + 1) rest) (quiet_at inner around before m place one quiet all.0)
    ∙ quiet_along inner around before m (place + 1) rest quiet all.1

-- a module that was walked has no faults, wherever it stands
pub clean : (all : List (List Step)) (order : List ℕ) → AreOrdered all order → (levels place m : ℕ) (around : List ℕ)
    → slice_get order place ≡ Some m → AreDisjoint (take place order) around → faults_from all levels (m ∷ around) m 0 ≡ []
clean all order ordered zero place m around is distinct = refl
clean all order ordered (suc levels) place m around is distinct =
    let own : (m < length all) × (is_in (take place order) m ≡ false) × AllByRecursion (IsOf (take place order)) (steps_of all m) = ordered place m is in
    quiet_along (λ entered. faults_from all levels (entered ∷ m ∷ around) entered 0) (m ∷ around) (take place order) m 0 (steps_of all m)
    (λ e h. let at : (q : ℕ) × (q < place) × (slice_get order q ≡ Some e) = in_take_place order place e h in
    let less : at.0 ≤ place = omega arith in (
      in_cons_false m e around (differ (take place order) e m h own.1) (distinct e h),
      clean all order ordered levels at.0 e (m ∷ around) at.2
          (λ a g. let here : is_in (take place order) a ≡ true = in_take_less order at.0 place a less g in
          in_cons_false m a around (differ (take place order) a m here own.1) (distinct a here)),
    ))
    own.2

-- ---- what stops the walk

abbrev pub is_open : Mark → Bool
is_open mark.New = false
is_open mark.Open = true
is_open mark.Closed = false

abbrev pub is_closed : Mark → Bool
is_closed mark.New = false
is_closed mark.Open = false
is_closed mark.Closed = true

abbrev pub mark_of : List Mark → ℕ → Mark
mark_of marks m = get_or marks m mark.New

-- marks tell which modules are around, and which were walked, without faults
pub record Agrees (marks : List Mark) (order around : List ℕ) (inner : ℕ → List FaultAt) : Type 0 where
  pub opened : (e : ℕ) → is_open (mark_of marks e) ≡ is_in around e
  pub walked : (e : ℕ) → is_closed (mark_of marks e) ≡ true → is_in order e ≡ true
  pub quiet : (e : ℕ) → is_closed (mark_of marks e) ≡ true → inner e ≡ []

-- what the faults at an instance are, by what stops there
abbrev pub StopsAt : List Mark → List ℕ → (ℕ → List FaultAt) → ℕ → ℕ → Step → List FaultAt → Option Halt → Type 0
StopsAt marks order inner m place one faults None = (faults ≡ []) × IsOf order one
StopsAt marks order inner m place one faults (Some (halt.Fault at kind)) = (rest : List FaultAt) × (at ≡ place) × (faults ≡ fault_at m place kind ∷ rest)
StopsAt marks order inner m place one faults (Some (halt.Open at e)) =
    (at ≡ place) × (one ≡ step.Enter e true) × (mark_of marks e ≡ mark.New) × (faults ≡ inner e)
StopsAt marks order inner m place one faults (Some halt.End) = ⊥

stops_entering : (marks : List Mark) (order around : List ℕ) (inner : ℕ → List FaultAt) (m place e : ℕ) (fits : Bool) → Agrees marks order around inner
    → (mk : Mark) → mark_of marks e ≡ mk
    → StopsAt marks order inner m place (step.Enter e fits) (faults_entered around m place e fits (inner e)) (halt_entering mk place e fits)
stops_entering marks order around inner m place e fits agrees mark.Open is =
    let near : is_in around e ≡ true = sym (agrees.opened e) ∙ ap is_open is in
    ([], refl, cond-true (is_in around e) _ _ near)
stops_entering marks order around inner m place e true agrees mark.New is =
    let far : is_in around e ≡ false = sym (agrees.opened e) ∙ ap is_open is in
    (refl, refl, is, cond-false (is_in around e) _ _ far)
stops_entering marks order around inner m place e false agrees mark.New is =
    let far : is_in around e ≡ false = sym (agrees.opened e) ∙ ap is_open is in
    (inner e, refl, cond-false (is_in around e) _ _ far)
stops_entering marks order around inner m place e true agrees mark.Closed is =
    let far : is_in around e ≡ false = sym (agrees.opened e) ∙ ap is_open is in
    let done : is_closed (mark_of marks e) ≡ true = ap is_closed is in
    (cond-false (is_in around e) _ _ far ∙ agrees.quiet e done, (refl, agrees.walked e done))
stops_entering marks order around inner m place e false agrees mark.Closed is =
    let far : is_in around e ≡ false = sym (agrees.opened e) ∙ ap is_open is in
    (inner e, refl, cond-false (is_in around e) _ _ far)

stops_at : (marks : List Mark) (order around : List ℕ) (inner : ℕ → List FaultAt) (m place : ℕ) (one : Step) → Agrees marks order around inner
    → StopsAt marks order inner m place one (faults_at inner around m place one) (halt_at marks place one)
stops_at marks order around inner m place (step.Fault kind) agrees = ([], refl, refl)
stops_at marks order around inner m place (step.Cell kind) agrees = (refl, tt)
stops_at marks order around inner m place (step.Enter e fits) agrees = stops_entering marks order around inner m place e fits agrees (mark_of marks e) refl

-- what the faults along instances are, by what stops there: none, a first one, or those of a module that was not walked
-- yet and of the instances after it
abbrev pub StopsAlong : List Mark → List ℕ → List ℕ → (ℕ → List FaultAt) → ℕ → ℕ → List Step → Halt → Type 0
StopsAlong marks order around inner m place steps halt.End =
    (faults_along inner around m place steps ≡ []) × AllByRecursion (IsOf order) steps
StopsAlong marks order around inner m place steps (halt.Fault at kind) =
    (rest : List FaultAt) × (faults_along inner around m place steps ≡ fault_at m at kind ∷ rest)
StopsAlong marks order around inner m place steps (halt.Open at e) =
    (skip : ℕ) × (at ≡ place + skip) × AllByRecursion (IsOf order) (take skip steps) × (slice_get steps skip ≡ Some (step.Enter e true))
    × (mark_of marks e ≡ mark.New)
    × (faults_along inner around m place steps ≡ inner e ++ faults_along inner around m (at + 1) (drop (suc skip) steps))

pass_along : (marks : List Mark) (order around : List ℕ) (inner : ℕ → List FaultAt) (m place : ℕ) (one : Step) (rest : List Step)
    → faults_at inner around m place one ≡ [] → IsOf order one → (h : Halt) → StopsAlong marks order around inner m (place + 1) rest h
    → StopsAlong marks order around inner m place (one ∷ rest) h
pass_along marks order around inner m place one rest none is halt.End along =
    (ap (λ (xs : List FaultAt). xs ++ faults_along inner around m (place + 1) rest) none ∙ along.0, (is, along.1))
pass_along marks order around inner m place one rest none is (halt.Fault at kind) along =
    (along.0, ap (λ (xs : List FaultAt). xs ++ faults_along inner around m (place + 1) rest) none ∙ along.1)
pass_along marks order around inner m place one rest none is (halt.Open at e) along = (
  suc along.0,
  omega (arith, along.1),
  (is, along.2),
  along.3,
  along.4,
  ap (λ (xs : List FaultAt). xs ++ faults_along inner around m (place + 1) rest) none ∙ along.5,
)

found_along : (marks : List Mark) (order around : List ℕ) (inner : ℕ → List FaultAt) (m place : ℕ) (one : Step) (rest : List Step)
    → (h : Halt) → StopsAt marks order inner m place one (faults_at inner around m place one) (Some h)
    → StopsAlong marks order around inner m place (one ∷ rest) h
found_along marks order around inner m place one rest halt.End at = absurd at
found_along marks order around inner m place one rest (halt.Fault at kind) here = (
  here.0 ++ faults_along inner around m (place + 1) rest,
  ap (λ (xs : List FaultAt). xs ++ faults_along inner around m (place + 1) rest) here.2
      ∙ ap (λ (n : ℕ). fault_at m n kind ∷ (here.0 ++ faults_along inner around m (place + 1) rest)) (sym here.1),
)
found_along marks order around inner m place one rest (halt.Open at e) here = (
  0,
  omega (arith, here.0),
  tt,
  ap (λ (s : Step). Some s) here.1,
  here.2,
  ap (λ (xs : List FaultAt). xs ++ faults_along inner around m (place + 1) rest) here.3
      ∙ ap (λ (n : ℕ). inner e ++ faults_along inner around m (n + 1) rest) (sym here.0),
)

one_along : (marks : List Mark) (order around : List ℕ) (inner : ℕ → List FaultAt) (m place : ℕ) (one : Step) (rest : List Step) (later : Halt)
    → StopsAlong marks order around inner m (place + 1) rest later
    → (o : Option Halt) → StopsAt marks order inner m place one (faults_at inner around m place one) o
    → StopsAlong marks order around inner m place (one ∷ rest) (halt_or o later)
one_along marks order around inner m place one rest later along None at = pass_along marks order around inner m place one rest at.0 at.1 later along
one_along marks order around inner m place one rest later along (Some h) at = found_along marks order around inner m place one rest h at

pub stops_along : (marks : List Mark) (order around : List ℕ) (inner : ℕ → List FaultAt) (m place : ℕ) (steps : List Step) → Agrees marks order around inner
    → StopsAlong marks order around inner m place steps (halt_from marks place steps)
stops_along marks order around inner m place [] agrees = (refl, tt)
stops_along marks order around inner m place (one ∷ rest) agrees =
    one_along marks order around inner m place one rest (halt_from marks (place + 1) rest)
    (stops_along marks order around inner m (place + 1) rest agrees)
    (halt_at marks place one) (stops_at marks order around inner m place one agrees)
