-- What a step of the walk leaves where a module is opened.
use Rattle.std.proofs.Common.{◌≡◌, ◌+◌, ◌-◌, ◌<◌, ◌||◌, ◌==◌, inl, inr, ℕ, zero, suc, true, false, List, [], ◌∷◌, ◌++◌, length, take, drop, set, slice_get, Some, None, refl, sym, ◌∙◌, ap, subst, arith}
use Rattle.std.proofs.lemmas.Bool.{or_cases, or_left, or_right, cases_eq}
use Rattle.std.proofs.lemmas.List.{append_assoc, drop-drop, length-set}
use Rattle.std.proofs.lemmas.Option.{get_or_from_slice_get, slice_get_within}
use Rattle.std.specs.List.{All, AllByRecursion}
use Rattle.flat_design.specs.declared.elaborate.walk.FaultAt.{FaultAt}
use Rattle.flat_design.specs.declared.elaborate.walk.Frame.{Frame}
use Rattle.flat_design.specs.declared.elaborate.walk.Halt.TheVariants as halt
use Rattle.flat_design.specs.declared.elaborate.walk.Mark.{Mark}
use Rattle.flat_design.specs.declared.elaborate.walk.Mark.TheVariants as mark
use Rattle.flat_design.specs.declared.elaborate.walk.Step.{Step}
use Rattle.flat_design.specs.declared.elaborate.walk.Step.TheVariants as step
use Rattle.flat_design.specs.Walk.{IsOf, IsWithin, faults_along, faults_below, faults_from, frame, halt_from, is_in, steps_of}
use Rattle.flat_design.proofs.MarkFacts.{marked_more}
use Rattle.flat_design.proofs.WalkFacts.{is_closed, is_open, mark_of}
use Rattle.flat_design.proofs.WalkSteps.{IsFrame, NextStepOf, Walking, around_of, enough, faults_suc, inner_of, left, left_is, left_outside, modules_in, open_weight, other_mark, same_mark, total, total_set, next_step, weight}

-- ---- opening a module

more_passed : (order : List ℕ) (steps : List Step) (next skip n : ℕ) → n ≡ next + skip → AllByRecursion (IsOf order) (take next steps)
    → AllByRecursion (IsOf order) (take skip (drop next steps)) → AllByRecursion (IsOf order) (take n steps)
more_passed order steps zero skip n e before here = let same : n ≡ skip = omega arith in rw same here
more_passed order [] (suc next) skip zero e before here = tt
more_passed order [] (suc next) skip (suc n) e before here = tt
more_passed order (one ∷ rest) (suc next) skip zero e before here = absurd (omega arith)
more_passed order (one ∷ rest) (suc next) skip (suc n) e before here =
    (before.0, more_passed order rest next skip n (omega arith) before.1 here)

get_drop : (steps : List Step) (next skip n : ℕ) (s : Step) → n ≡ next + skip → slice_get (drop next steps) skip ≡ Some s → slice_get steps n ≡ Some s
get_drop steps zero skip n s e h = let same : n ≡ skip = omega arith in rw same h
get_drop [] (suc next) skip n s e h = let bad : None ≡ Some s = h in cc
get_drop (one ∷ rest) (suc next) skip zero s e h = absurd (omega arith)
get_drop (one ∷ rest) (suc next) skip (suc n) s e h = get_drop rest next skip n s (omega arith) h

pub closed_kept : (marks : List Mark) (order : List ℕ) (e : ℕ) → e < length marks → mark_of marks e ≡ mark.New
    → ((m : ℕ) → is_closed (mark_of marks m) ≡ is_in order m) → (m : ℕ) → is_closed (mark_of (set marks e mark.Open) m) ≡ is_in order m
closed_kept marks order e h new closed m =
    elim (cases_eq e m) [
      | inl same ↦ ap is_closed (subst (λ (n : ℕ). mark_of (set marks e mark.Open) n ≡ mark.Open) same (same_mark marks e mark.Open h))
          ∙ (sym (subst (λ (n : ℕ). is_closed (mark_of marks n) ≡ false) same (ap is_closed new)) ∙ closed m)
      | inr distinct ↦ ap is_closed (other_mark marks e m mark.Open distinct) ∙ closed m
    ]

num : (next skip at : ℕ) → at ≡ next + skip → next + suc skip ≡ at + 1
num next skip at e = omega arith

open_faults : (all : List (List Step)) (top : ℕ) (marks : List Mark) (order : List ℕ) (f : Frame) (outer : List Frame) (at e skip : ℕ) → at ≡ f.next + skip
    → faults_along (inner_of all f outer) (around_of f outer) f.body f.next (drop f.next (steps_of all f.body))
    ≡ inner_of all f outer e ++ faults_along (inner_of all f outer) (around_of f outer) f.body (at + 1) (drop (suc skip) (drop f.next (steps_of all f.body)))
    → Walking all top marks order (f ∷ outer) → left all (frame e 0 ∷ frame f.body at ∷ outer) ≡ faults_below all top
open_faults all top marks order f outer at e skip place split w =
    let steps = steps_of all f.body in
    let rest : drop (suc skip) (drop f.next steps) ≡ drop (at + 1) steps =
    drop-drop (suc skip) f.next steps ∙ ap (λ (n : ℕ). drop n steps) (num f.next skip at place) in
    let after : faults_from all (length all - length outer) (around_of f outer) f.body (at + 1)
    ≡ faults_along (inner_of all f outer) (around_of f outer) f.body (at + 1) (drop (at + 1) steps) =
    faults_suc all (length all - length outer) (length all - suc (length outer)) (around_of f outer) f.body (at + 1) (enough all top marks order f outer w) in
    let inner : List FaultAt = inner_of all f outer e in
    let along = λ (xs : List Step). faults_along (inner_of all f outer) (around_of f outer) f.body (at + 1) xs in
    ap (λ (xs : List FaultAt). inner ++ (xs ++ left_outside all outer)) (after ∙ ap along (sym rest))
    ∙ (sym (append_assoc inner (along (drop (suc skip) (drop f.next steps))) (left_outside all outer))
    ∙ (ap (λ (xs : List FaultAt). xs ++ left_outside all outer) (sym split) ∙ left_is all top marks order f outer w))

open_depth : (marks : List Mark) (e n : ℕ) → e < length marks → mark_of marks e ≡ mark.New → total open_weight marks ≡ n → total open_weight (set marks e mark.Open) ≡ suc n
open_depth marks e n h new depth = omega (arith, total_set open_weight marks e mark.Open h, ap open_weight new)

open_reached : (order modules : List ℕ) (top e : ℕ) → (is_in order top || is_in modules top) ≡ true → (is_in order top || is_in (e ∷ modules) top) ≡ true
open_reached order modules top e h =
    elim (or_cases (is_in order top) (is_in modules top) h) [
      | inl walked ↦ or_left (is_in order top) (is_in (e ∷ modules) top) walked
      | inr near ↦ or_right (is_in order top) (is_in (e ∷ modules) top) (or_right (e == top) (is_in modules top) near)
    ]

pub step_open : (all : List (List Step)) (top : ℕ) (marks : List Mark) (order : List ℕ) (f : Frame) (outer : List Frame) (at e : ℕ)
    → Walking all top marks order (f ∷ outer) → halt_from marks f.next (drop f.next (steps_of all f.body)) ≡ halt.Open at e → e < length all
    → Walking all top (set marks e mark.Open) order (frame e 0 ∷ frame f.body at ∷ outer)
step_open all top marks order f outer at e w is within =
    let s : NextStepOf all marks order f outer (halt.Open at e) = subst (NextStepOf all marks order f outer) is (next_step all top marks order f outer w) in
    let here : e < length marks = omega (arith, w.count) in
    let steps = steps_of all f.body in
    let own : IsFrame all order outer f = w.frames.0 in
    let new = s.4 in
    record {
      count = length-set marks e mark.Open ∙ w.count;
      faults = open_faults all top marks order f outer at e s.0 s.1 s.5 w;
      closed = closed_kept marks order e here new w.closed;
      opened = marked_more is_open mark.Open mark.New refl marks (modules_in (f ∷ outer)) e here w.opened;
      ordered = w.ordered;
      frames = (
        record {
          within = within;
          fresh = sym (w.closed e) ∙ ap is_closed new;
          distinct = sym (w.opened e) ∙ ap is_open new;
          passed = tt;
        },
        (
          record {
            within = own.within;
            fresh = own.fresh;
            distinct = own.distinct;
            passed = more_passed order steps f.next s.0 at s.1 own.passed s.2;
          },
          (get_drop steps f.next s.0 at (step.Enter e true) s.1 s.3, w.frames.1),
        ),
      );
      depth = open_depth marks e (length (f ∷ outer)) here new w.depth;
      reached = open_reached order (modules_in (f ∷ outer)) top e w.reached;
    }

-- the measure falls where a module is opened
pub open_falls : (marks : List Mark) (e : ℕ) → e < length marks → mark_of marks e ≡ mark.New → total weight (set marks e mark.Open) < total weight marks
open_falls marks e h new = omega (arith, total_set weight marks e mark.Open h, ap weight new)

-- a module that the walk opens was not walked yet
pub opens_new : (all : List (List Step)) (top : ℕ) (marks : List Mark) (order : List ℕ) (f : Frame) (outer : List Frame) (at e : ℕ)
    → Walking all top marks order (f ∷ outer) → halt_from marks f.next (drop f.next (steps_of all f.body)) ≡ halt.Open at e
    → (mark_of marks e ≡ mark.New) × ((place : ℕ) × (slice_get (steps_of all f.body) place ≡ Some (step.Enter e true)))
opens_new all top marks order f outer at e w is =
    let s : NextStepOf all marks order f outer (halt.Open at e) = subst (NextStepOf all marks order f outer) is (next_step all top marks order f outer w) in
    (s.4, (at, get_drop (steps_of all f.body) f.next s.0 at (step.Enter e true) s.1 s.3))

-- the module of an instance is there
pub entered_within : (all : List (List Step)) (n m place e : ℕ) → All (All (IsWithin n)) all → m < length all
    → slice_get (steps_of all m) place ≡ Some (step.Enter e true) → e < n
entered_within all n m place e within h is =
    let steps = steps_of all m in
    let own : All (IsWithin n) steps = within m [] h in
    subst (IsWithin n) (get_or_from_slice_get steps place (step.Enter e true) (step.Cell 0) is)
    (own place (step.Cell 0) (slice_get_within steps place (step.Enter e true) is))
