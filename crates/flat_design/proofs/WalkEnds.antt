-- What the steps of the walk leave: a module is closed; how the walk begins, and what it has at its end.
use Rattle.std.proofs.Common.{◌≡◌, ◌+◌, ◌-◌, ◌<◌, ◌||◌, ◌==◌, inl, inr, ℕ, zero, suc, true, false, List, [], ◌∷◌, ◌++◌, length, take, drop, set, replicate, slice_get, Option, Some, None, refl, sym, ◌∙◌, ap, subst, arith}
use Rattle.std.proofs.lemmas.Bool.{or_cases, or_left, or_parts, or_right, eqb-false, eqb-true, eq-eqb, cases_eq, cond-false}
use Rattle.std.proofs.lemmas.List.{append-nil, length-replicate, length-set, take-append-le, take_at}
use Rattle.std.proofs.lemmas.Option.{slice_get_within}
use Rattle.std.proofs.Math.Bool.{or-false}
use Rattle.std.specs.List.{AllByRecursion}
use Rattle.std.specs.Option.{option_to_list}
use Rattle.flat_design.specs.declared.elaborate.walk.FaultAt.{FaultAt}
use Rattle.flat_design.specs.declared.elaborate.walk.Frame.{Frame}
use Rattle.flat_design.specs.declared.elaborate.walk.Halt.TheVariants as halt
use Rattle.flat_design.specs.declared.elaborate.walk.Mark.{Mark}
use Rattle.flat_design.specs.declared.elaborate.walk.Mark.TheVariants as mark
use Rattle.flat_design.specs.declared.elaborate.walk.Step.{Step}
use Rattle.flat_design.specs.declared.elaborate.walk.Step.TheVariants as step
use Rattle.flat_design.specs.Walk.{AreOrdered, IsOf, faults_along, faults_at, faults_below, faults_from, frame, halt_from, is_in, steps_of}
use Rattle.flat_design.proofs.MarkFacts.{all_new, in_other, marked_more}
use Rattle.flat_design.proofs.PlaceFacts.{drop_one, get_push}
use Rattle.flat_design.proofs.WalkFacts.{is_closed, is_open, mark_of}
use Rattle.flat_design.proofs.WalkSteps.{AreWaiting, IsFrame, IsStack, NextStepOf, Walking, all_push, around_of, closed_not_open, enough, faults_suc, few_open, in_push, in_push_left, in_push_other, left, left_is, left_outside, modules_in, none_open, open_weight, other_mark, quiet_of, same_mark, total, total_set, next_step, weight, weight_of_open}
use Rattle.flat_design.proofs.WalkOpenings.{closed_kept}

-- ---- closing a module

abbrev OrderedAt : List (List Step) → List ℕ → ℕ → Type 0
OrderedAt all before m = (m < length all) × (is_in before m ≡ false) × AllByRecursion (IsOf before) (steps_of all m)

ordered_push : (all : List (List Step)) (order : List ℕ) (m : ℕ) → AreOrdered all order → OrderedAt all order m → AreOrdered all (order ++ m ∷ [])
ordered_push all order m ordered own place n is =
    elim (get_push order m place n is) [
      | inl h ↦
          let low = slice_get_within order place n h in
          subst (λ (xs : List ℕ). OrderedAt all xs n) (sym (take-append-le place order (m ∷ []) (omega (arith, low)))) (ordered place n h)
      | inr h ↦ subst (λ (xs : List ℕ). OrderedAt all xs n) (sym (take_at order (m ∷ []) place (sym h.0))) (subst (OrderedAt all order) h.1 own)
    ]

whole_passed : (order : List ℕ) (steps : List Step) (next : ℕ) → AllByRecursion (IsOf order) (take next steps) → AllByRecursion (IsOf order) (drop next steps)
    → AllByRecursion (IsOf order) steps
whole_passed order steps zero before after = after
whole_passed order [] (suc next) before after = tt
whole_passed order (one ∷ rest) (suc next) before after = (before.0, whole_passed order rest next before.1 after)

in_push_same : (xs : List ℕ) (m x : ℕ) → m ≡ x → is_in (xs ++ m ∷ []) x ≡ true
in_push_same xs m x same = in_push xs m x ∙ or_right (is_in xs x) (m == x) (eq-eqb m x same)

-- the frames that are left, with one more module walked
frame_push : (all : List (List Step)) (order : List ℕ) (m : ℕ) (outer : List Frame) (g : Frame) → (m ≡ g.body → ⊥)
    → IsFrame all order outer g → IsFrame all (order ++ m ∷ []) outer g
frame_push all order m outer g ne own = record {
  within = own.within;
  fresh = in_push_other order m g.body ne ∙ own.fresh;
  distinct = own.distinct;
  passed = all_push order m (take g.next (steps_of all g.body)) own.passed;
}

not_first : (m x : ℕ) (xs : List ℕ) → is_in (x ∷ xs) m ≡ false → (m ≡ x → ⊥) × (is_in xs m ≡ false)
not_first m x xs h =
    let parts = or_parts (x == m) (is_in xs m) h in
    (λ same. eqb-false x m parts.0 (sym same), parts.1)

waiting_push : (all : List (List Step)) (order : List ℕ) (m inner : ℕ) (outer : List Frame) → is_in (modules_in outer) m ≡ false
    → AreWaiting all order inner outer → AreWaiting all (order ++ m ∷ []) inner outer
waiting_push all order m inner [] distinct waiting = tt
waiting_push all order m inner (g ∷ rest) distinct waiting =
    let parts = not_first m g.body (modules_in rest) distinct in
    (frame_push all order m rest g parts.0 waiting.0, (waiting.1.0, waiting_push all order m g.body rest parts.1 waiting.1.1))

stack_push : (all : List (List Step)) (order : List ℕ) (m : ℕ) (outer : List Frame) → is_in (modules_in outer) m ≡ false
    → AreWaiting all order m outer → IsStack all (order ++ m ∷ []) outer
stack_push all order m [] distinct waiting = tt
stack_push all order m (g ∷ rest) distinct waiting =
    let parts = not_first m g.body (modules_in rest) distinct in
    (frame_push all order m rest g parts.0 waiting.0, waiting_push all order m g.body rest parts.1 waiting.1.1)

-- a module that is closed has no faults where it is around, so that nothing is left of the instance that opened it
passed_on : (all : List (List Step)) (order : List ℕ) (m levels : ℕ) (g : Frame) (rest : List Frame) → length all - length rest ≡ suc levels
    → slice_get (steps_of all g.body) g.next ≡ Some (step.Enter m true) → is_in (around_of g rest) m ≡ false
    → faults_from all levels (m ∷ around_of g rest) m 0 ≡ [] → left all (g ∷ rest) ≡ left_outside all (g ∷ rest)
passed_on all order m levels g rest enough is distinct quiet =
    let steps = steps_of all g.body in
    let inner = λ (e : ℕ). faults_from all levels (e ∷ around_of g rest) e 0 in
    let along = λ (n : ℕ) (xs : List Step). faults_along inner (around_of g rest) g.body n xs in
    let here : faults_at inner (around_of g rest) g.body g.next (step.Enter m true) ≡ [] = cond-false (is_in (around_of g rest) m) _ _ distinct ∙ quiet in
    ap (λ (xs : List FaultAt). xs ++ left_outside all rest)
    (faults_suc all (length all - length rest) levels (around_of g rest) g.body g.next enough
    ∙ (ap (along g.next) (drop_one steps g.next (step.Enter m true) is)
    ∙ (ap (λ (xs : List FaultAt). xs ++ along (g.next + 1) (drop (g.next + 1) steps)) here
    ∙ sym (faults_suc all (length all - length rest) levels (around_of g rest) g.body (g.next + 1) enough))))

closed_step : (marks : List Mark) (order : List ℕ) (m : ℕ) → m < length marks → ((x : ℕ) → is_closed (mark_of marks x) ≡ is_in order x)
    → (x : ℕ) → is_closed (mark_of (set marks m mark.Closed) x) ≡ is_in (order ++ m ∷ []) x
closed_step marks order m h closed x =
    elim (cases_eq m x) [
      | inl same ↦ ap is_closed (subst (λ (n : ℕ). mark_of (set marks m mark.Closed) n ≡ mark.Closed) same (same_mark marks m mark.Closed h))
          ∙ sym (in_push_same order m x same)
      | inr distinct ↦ ap is_closed (other_mark marks m x mark.Closed distinct) ∙ (closed x ∙ sym (in_push_other order m x distinct))
    ]

opened_kept : (marks : List Mark) (modules : List ℕ) (m : ℕ) → m < length marks → is_in modules m ≡ false
    → ((x : ℕ) → is_open (mark_of marks x) ≡ is_in (m ∷ modules) x) → (x : ℕ) → is_open (mark_of (set marks m mark.Closed) x) ≡ is_in modules x
opened_kept marks modules m h none opened x =
    elim (cases_eq m x) [
      | inl same ↦ ap is_open (subst (λ (n : ℕ). mark_of (set marks m mark.Closed) n ≡ mark.Closed) same (same_mark marks m mark.Closed h))
          ∙ sym (subst (λ (n : ℕ). is_in modules n ≡ false) same none)
      | inr distinct ↦ ap is_open (other_mark marks m x mark.Closed distinct) ∙ (opened x ∙ in_other m x modules distinct)
    ]

-- the walked modules are not around
distinct_closed : (marks : List Mark) (order : List ℕ) (m : ℕ) (modules : List ℕ) → ((x : ℕ) → is_closed (mark_of marks x) ≡ is_in order x)
    → ((x : ℕ) → is_open (mark_of marks x) ≡ is_in (m ∷ modules) x) → is_in modules m ≡ false
    → (a : ℕ) → is_in (order ++ m ∷ []) a ≡ true → is_in modules a ≡ false
distinct_closed marks order m modules closed opened none a h =
    elim (cases_eq m a) [
      | inl same ↦ subst (λ (n : ℕ). is_in modules n ≡ false) same none
      | inr distinct ↦ sym (in_other m a modules distinct) ∙ (sym (opened a) ∙ closed_not_open (mark_of marks a) (closed a ∙ (sym (in_push_other order m a distinct) ∙ h)))
    ]

left_closed : (all : List (List Step)) (top : ℕ) (marks : List Mark) (order : List ℕ) (f : Frame) (outer : List Frame) → Walking all top marks order (f ∷ outer)
    → length outer < length all → AreOrdered all (order ++ f.body ∷ []) → left all outer ≡ left_outside all outer
left_closed all top marks order f [] w few ordered = refl
left_closed all top marks order f (g ∷ rest) w few ordered =
    let own : IsFrame all order (g ∷ rest) f = w.frames.0 in
    passed_on all order f.body (length all - suc (length rest)) g rest (omega arith) w.frames.1.1.0 own.distinct
    (quiet_of all (order ++ f.body ∷ []) (length all - suc (length rest)) f.body (around_of g rest) ordered
    (distinct_closed marks order f.body (modules_in (g ∷ rest)) w.closed w.opened own.distinct)
    (in_push_same order f.body f.body refl))

close_depth : (marks : List Mark) (m n : ℕ) → m < length marks → is_open (mark_of marks m) ≡ true → total open_weight marks ≡ suc n
    → total open_weight (set marks m mark.Closed) ≡ n
close_depth marks m n h opened depth = omega (arith, total_set open_weight marks m mark.Closed h, (weight_of_open (mark_of marks m) opened).1)

close_reached : (order modules : List ℕ) (top m : ℕ) → (is_in order top || is_in (m ∷ modules) top) ≡ true → (is_in (order ++ m ∷ []) top || is_in modules top) ≡ true
close_reached order modules top m h =
    elim (or_cases (is_in order top) (is_in (m ∷ modules) top) h) [
      | inl walked ↦ or_left (is_in (order ++ m ∷ []) top) (is_in modules top) (in_push_left order m top walked)
      | inr near ↦ elim (or_cases (m == top) (is_in modules top) near) [
        | inl same ↦ or_left (is_in (order ++ m ∷ []) top) (is_in modules top) (in_push_same order m top (eqb-true m top same))
        | inr far ↦ or_right (is_in (order ++ m ∷ []) top) (is_in modules top) far
      ]
    ]

pub step_end : (all : List (List Step)) (top : ℕ) (marks : List Mark) (order : List ℕ) (f : Frame) (outer : List Frame)
    → Walking all top marks order (f ∷ outer) → halt_from marks f.next (drop f.next (steps_of all f.body)) ≡ halt.End
    → Walking all top (set marks f.body mark.Closed) (order ++ f.body ∷ []) outer
step_end all top marks order f outer w is =
    let s : NextStepOf all marks order f outer halt.End = subst (NextStepOf all marks order f outer) is (next_step all top marks order f outer w) in
    let own : IsFrame all order outer f = w.frames.0 in
    let here : f.body < length marks = omega (arith, w.count, own.within) in
    let opened : is_open (mark_of marks f.body) ≡ true = w.opened f.body ∙ or_left (f.body == f.body) (is_in (modules_in outer) f.body) (eq-eqb f.body f.body refl) in
    let ordered : AreOrdered all (order ++ f.body ∷ []) =
    ordered_push all order f.body w.ordered (own.within, own.fresh, whole_passed order (steps_of all f.body) f.next own.passed s.1) in
    let few : length outer < length all = omega (arith, few_open marks, w.count, w.depth) in
    record {
      count = length-set marks f.body mark.Closed ∙ w.count;
      faults = left_closed all top marks order f outer w few ordered
          ∙ (ap (λ (xs : List FaultAt). xs ++ left_outside all outer) (sym s.0) ∙ left_is all top marks order f outer w);
      closed = closed_step marks order f.body here w.closed;
      opened = opened_kept marks (modules_in outer) f.body here own.distinct w.opened;
      ordered = ordered;
      frames = stack_push all order f.body outer own.distinct w.frames.1;
      depth = close_depth marks f.body (length outer) here opened w.depth;
      reached = close_reached order (modules_in outer) top f.body w.reached;
    }

-- the measure falls where a module is closed
pub close_falls : (all : List (List Step)) (top : ℕ) (marks : List Mark) (order : List ℕ) (f : Frame) (outer : List Frame)
    → Walking all top marks order (f ∷ outer) → total weight (set marks f.body mark.Closed) < total weight marks
close_falls all top marks order f outer w =
    let own : IsFrame all order outer f = w.frames.0 in
    let here : f.body < length marks = omega (arith, w.count, own.within) in
    let opened : is_open (mark_of marks f.body) ≡ true = w.opened f.body ∙ or_left (f.body == f.body) (is_in (modules_in outer) f.body) (eq-eqb f.body f.body refl) in
    omega (arith, total_set weight marks f.body mark.Closed here, (weight_of_open (mark_of marks f.body) opened).0)

-- ---- the walk's beginning and end

one_open : (n top m : ℕ) → top < n → is_open (mark_of (set (replicate n mark.New) top mark.Open) m) ≡ is_in (top ∷ []) m
one_open n top m h =
    marked_more is_open mark.Open mark.New refl (replicate n mark.New) [] top (omega (arith, length-replicate n mark.New)) (λ x. ap is_open (all_new n x mark.New)) m

pub begun : (all : List (List Step)) (top : ℕ) → top < length all
    → Walking all top (set (replicate (length all) mark.New) top mark.Open) [] (frame top 0 ∷ [])
begun all top h =
    let n = length all in
    let here : top < length (replicate n mark.New) = omega (arith, length-replicate n mark.New) in
    let new : (x : ℕ) → mark_of (replicate n mark.New) x ≡ mark.New = λ x. all_new n x mark.New in
    let whole : n - 0 ≡ n = omega arith in
    record {
      count = length-set (replicate n mark.New) top mark.Open ∙ length-replicate n mark.New;
      faults = append-nil (faults_from all (n - 0) (top ∷ []) top 0) ∙ ap (λ (k : ℕ). faults_from all k (top ∷ []) top 0) whole;
      closed = closed_kept (replicate n mark.New) [] top here (new top) (λ x. ap is_closed (new x));
      opened = λ m. one_open n top m h;
      ordered = λ place m is. let e : None ≡ Some m = is in cc;
      frames = (record { within = h; fresh = refl; distinct = refl; passed = tt }, tt);
      depth = omega (arith, total_set open_weight (replicate n mark.New) top mark.Open here, none_open n, ap open_weight (new top));
      reached = or_left (top == top) false (eq-eqb top top refl);
    }

-- nothing is taken from an empty stack alone
pub emptied : {X : Type 0} (popped : Option X) (old new : List X) → ((f : X) → popped ≡ Some f → ⊥) → old ≡ option_to_list popped ++ new → new ≡ drop 1 old
    → old ≡ []
emptied (Some f) old new none items rest = absurd (none f refl)
emptied None [] new none items rest = refl
emptied None (f ∷ old) new none items rest = let same : suc (length old) ≡ length old = ap length (items ∙ rest) in absurd (omega arith)

pub ended : (all : List (List Step)) (top : ℕ) (marks : List Mark) (order : List ℕ) → Walking all top marks order []
    → (faults_below all top ≡ []) × AreOrdered all order × (is_in order top ≡ true)
ended all top marks order w = (sym w.faults, w.ordered, sym (or-false (is_in order top)) ∙ w.reached)
