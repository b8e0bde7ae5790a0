-- Turns of a run, one after the other, as functions answer them.
use Rattle.std.proofs.Common.{◌≡◌, ◌+◌, ◌<◌, ◌++◌, ℕ, suc, drop, drop-cons, get_or, length, arith, List, ◌∷◌, Result, Ok, Err, refl, sym, ap, subst, ◌∙◌, append_assoc}
use Rattle.std.specs.Prelude.{IsErrAnd, MatchResult}
use Rattle.sdc_base.specs.Gives.{Gives, Meets}
use Rattle.sdc_base.specs.declared.memory.Stop.{Stop}
use Rattle.sdc_base.specs.declared.memory.Stop.TheVariants as stop
use Rattle.source_types.specs.declared.kinds.Kind.{Kind}
use Rattle.source_types.specs.declared.kinds.Kind.TheVariants.{Tcl}
use Rattle.source_types.specs.declared.kinds.TclKind.{TclKind}
use Rattle.tcl_model.specs.ExpressionRun.{RunStep}
use Rattle.tcl_model.specs.HostCalls.{World}
use Rattle.tcl_model.specs.RunSteps.{Answers, Looks, Then, tcl_outcome}
use Rattle.tcl_eval.specs.Worlds.{Does, as_answer}

-- ---- one step after another

pub then_ok : {State A B : Type 0} (First : RunStep (World State) A) (Next : A → RunStep (World State) B) (v : A) (before between after : World State) (r : Result B (Stop Kind))
    → First before (Ok v) between → Does (Next v) between r after → Does (Then First Next) before r after
then_ok First Next v before between after (Ok w) h k = (Ok v, between, h, k)
then_ok First Next v before between after (Err (stop.Refused kind)) h k = (Ok v, between, h, k)
then_ok First Next v before between after (Err stop.NoMemory) h k = tt

pub then_stop : {State A B : Type 0} (First : RunStep (World State) A) (Next : A → RunStep (World State) B) (before after : World State) (s : Stop Kind)
    → Does {A = A} First before (Err s) after → Does {A = B} (Then First Next) before (Err s) after
then_stop First Next before after (stop.Refused kind) h = (Err kind, after, h, (refl, refl))
then_stop First Next before after stop.NoMemory h = tt

-- ---- rules of Tcl

-- a rule that only looks
pub looked : {State A : Type 0} (Rule : Result A TclKind → Type 0) (w : World State) (r : Result A (Stop TclKind))
    → Meets r Rule → Does (Looks Rule) w (as_answer r) w
looked Rule w (Ok v) h = (Ok v, h, (refl, refl))
looked Rule w (Err (stop.Refused kind)) h = (Err kind, h, (refl, refl))
looked Rule w (Err stop.NoMemory) h = tt

-- what is given by a rule
pub answered : {State A : Type 0} (outcome : Result A TclKind) (w : World State) (r : Result A (Stop TclKind))
    → Gives r outcome → Does (Answers (tcl_outcome outcome)) w (as_answer r) w
answered outcome w (Ok v) h = (ap tcl_outcome (sym h), refl)
answered outcome w (Err (stop.Refused kind)) h = (ap tcl_outcome (sym h), refl)
answered outcome w (Err stop.NoMemory) h = tt

pub gave : {State A : Type 0} (outcome : Result A Kind) (w : World State) (r : Result A (Stop Kind))
    → Gives r outcome → Does (Answers outcome) w r w
gave outcome w (Ok v) h = (sym h, refl)
gave outcome w (Err (stop.Refused kind)) h = (sym h, refl)
gave outcome w (Err stop.NoMemory) h = tt

-- an answer of a rule of Tcl that is a value
pub answer_ok : {A : Type 0} (r : Result A (Stop TclKind)) (v : A) (Rule : Result A TclKind → Type 0) → Meets r Rule → Ok v ≡ as_answer r → Rule (Ok v)
answer_ok {A = T} (Ok x) v Rule h e = subst (λ y. Rule (Ok y)) (same e) h where
  same : ◌≡◌ {A = Result T (Stop Kind)} (Ok v) (Ok x) → x ≡ v
  same e = cc
answer_ok {A = T} (Err (stop.Refused kind)) v Rule h e = absurd (no_value e) where
  no_value : ◌≡◌ {A = Result T (Stop Kind)} (Ok v) (Err (stop.Refused (Tcl kind))) → ⊥
  no_value e = cc
answer_ok {A = T} (Err stop.NoMemory) v Rule h e = absurd (no_value e) where
  no_value : ◌≡◌ {A = Result T (Stop Kind)} (Ok v) (Err stop.NoMemory) → ⊥
  no_value e = cc

-- an answer of a rule of Tcl that takes no memory, as one of a run
abbrev pub IsRaised : {A : Type 0} → Result A TclKind → Result A (Stop Kind) → Type 0
IsRaised r s = MatchResult r (λ x. s ≡ Ok x) (λ kind. IsErrAnd s (λ why. why ≡ stop.Refused (Tcl kind)))

pub meets_raised : {A : Type 0} (r : Result A TclKind) (s : Result A (Stop Kind)) (Outcome : Result A Kind → Type 0) → IsRaised r s → Outcome (tcl_outcome r) → Meets s Outcome
meets_raised (Ok x) s Outcome e h = subst (λ t. Meets t Outcome) (sym e) h
meets_raised (Err kind) (Ok x) Outcome e h = absurd e
meets_raised (Err kind) (Err why) Outcome e h = subst (λ w. Meets (Err w) Outcome) (sym e) h

pub gives_raised : {A : Type 0} (outcome r : Result A TclKind) (s : Result A (Stop Kind)) → IsRaised r s → r ≡ outcome → Gives s (tcl_outcome outcome)
gives_raised outcome (Ok x) s e is = subst (λ t. Gives t (tcl_outcome outcome)) (sym e) (ap tcl_outcome (sym is))
gives_raised outcome (Err kind) (Ok x) e is = absurd e
gives_raised outcome (Err kind) (Err why) e is = subst (λ w. Gives (Err w) (tcl_outcome outcome)) (sym e) (ap tcl_outcome (sym is))

-- ---- things in a row

-- things before those that are given
abbrev pub in_front : {A : Type 0} → List A → Result (List A) Kind → Result (List A) Kind
in_front first (Ok others) = Ok (first ++ others)
in_front first (Err kind) = Err kind

pub in_front_more : {A : Type 0} (first more : List A) (given : Result (List A) Kind) → in_front first (in_front more given) ≡ in_front (first ++ more) given
in_front_more first more (Ok others) = ap (λ all. Ok all) (sym (append_assoc first more others))
in_front_more first more (Err kind) = refl

-- the others, and then all of them
pub others_given : {State A : Type 0} (Others : RunStep State (List A)) (first : List A) (before : State) (given : Result (List A) Kind) (after : State)
    → Others before given after → Then Others (λ others. Answers (Ok (first ++ others))) before (in_front first given) after
others_given Others first before (Ok others) after h = (Ok others, after, h, (refl, refl))
others_given Others first before (Err kind) after h = (Err kind, after, h, (refl, refl))

-- the rest from a place is the thing there and the rest after it
pub drop_item : {A : Type 0} (xs : List A) (i : ℕ) (x : A) → i < length xs → x ≡ get_or xs i x → drop i xs ≡ x ∷ drop (i + 1) xs
drop_item xs i x within is =
    let next : suc i ≡ i + 1 = omega arith in
    drop-cons xs i x within ∙ (ap (λ y. y ∷ drop (suc i) xs) (sym is) ∙ ap (λ n. x ∷ drop n xs) next)
