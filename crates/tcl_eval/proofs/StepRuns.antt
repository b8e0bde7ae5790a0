-- Steps of an expression that are run one after the other: whatever those after give, all give.
use Rattle.std.proofs.Common.{◌≡◌, ◌≤◌, ◌+◌, ℕ, List, [], ◌∷◌, Option, Some, None, Result, Ok, Err, refl, sym, ap, subst, inl, arith}
use Rattle.sdc_base.specs.Gives.{Meets}
use Rattle.sdc_base.specs.declared.memory.Stop.{Stop}
use Rattle.sdc_base.specs.declared.memory.Stop.TheVariants as stop
use Rattle.source_types.specs.declared.commands.Word.{Word}
use Rattle.source_types.specs.declared.expressions.Expression.{Expression}
use Rattle.source_types.specs.declared.expressions.ExpressionStep.{ExpressionStep}
use Rattle.source_types.specs.declared.expressions.ExpressionStep.TheVariants as step
use Rattle.source_types.specs.declared.expressions.Scalar.{Scalar}
use Rattle.source_types.specs.declared.expressions.Scalar.TheVariants as scalar
use Rattle.source_types.specs.declared.kinds.Kind.{Kind}
use Rattle.source_types.specs.declared.kinds.Kind.TheVariants.{Tcl}
use Rattle.source_types.specs.declared.kinds.TclKind.{TclKind}
use Rattle.source_types.specs.declared.kinds.TclKind.TheVariants.{BadExpr}
use Rattle.timing_types.specs.declared.objects.Value.{Value}
use Rattle.tcl_model.specs.ExpressionForm.{levels_of}
use Rattle.tcl_model.specs.ExpressionRun.{RunsExpression, RunStep, raised}
use Rattle.tcl_model.specs.ExpressionSteps.{ParsesTo, steps_of}
use Rattle.tcl_model.specs.ExpressionValue.{changed, computed, decided, joined}
use Rattle.tcl_model.specs.HostCalls.{World, text_in}
use Rattle.tcl_model.specs.NamedCommands.{ReadsWord}
use Rattle.tcl_model.specs.RunSteps.{tcl_outcome}
use Rattle.tcl_model.specs.WordValues.{Level, RunsWord}
use Rattle.tcl_eval.specs.StepsRun.{GoesOnDecided, GoesOnWith, RunsSteps, StepsOn, Takes, TakesDecision, TakesValue, ended}
use Rattle.tcl_eval.specs.Worlds.{Does, as_answer}
use Rattle.tcl_eval.proofs.StepsFacts.{steps_are_trees}
use Rattle.tcl_eval.proofs.RunStepFacts.{IsRaised, meets_raised}

abbrev Reader : Type 0 → Type 1
Reader State = ℕ → Word → RunStep State (List ℕ)

-- ---- one step

-- a value that was made
value_taken : {State : Type 0} (Reads : Reader State) (made : Result Scalar TclKind) (passed next : ℕ) (values new : List Scalar) (ss : List ExpressionStep) (w : State) (given : Result Scalar Kind) (last : State)
    → TakesValue made values passed (Ok next) new → RunsSteps Reads 0 next ss new w given last → GoesOnWith (λ v. RunsSteps Reads 0 passed ss (v ∷ values)) (raised made) w given last
value_taken Reads (Ok v) passed next values new ss w given last t h =
    subst (λ n. RunsSteps Reads 0 n ss (v ∷ values) w given last) t.0 (subst (λ vs. RunsSteps Reads 0 next ss vs w given last) t.1 h)
value_taken Reads (Err kind) passed next values new ss w given last t h = absurd t

value_refused : {State : Type 0} (Reads : Reader State) (made : Result Scalar TclKind) (passed : ℕ) (values new : List Scalar) (kind : TclKind) (ss : List ExpressionStep) (w : State)
    → TakesValue made values passed (Err kind) new → GoesOnWith (λ v. RunsSteps Reads 0 passed ss (v ∷ values)) (raised made) w (Err (Tcl kind)) w
value_refused Reads (Ok v) passed values new kind ss w t = absurd t
value_refused Reads (Err other) passed values new kind ss w t = (ap (λ k. Err (Tcl k)) t, refl)

abbrev raised_count : Result ℕ TclKind → Result ℕ Kind
raised_count (Ok next) = Ok next
raised_count (Err kind) = Err (Tcl kind)

made_on : {State : Type 0} (Reads : Reader State) (made : Result Scalar TclKind) (passed : ℕ) (s : ExpressionStep) (old values new : List Scalar) (w : State) (given : Result ℕ TclKind)
    → ((ss : List ExpressionStep) (r : Result Scalar Kind) (last : State) → GoesOnWith (λ v. RunsSteps Reads 0 passed ss (v ∷ values)) (raised made) w r last → RunsSteps Reads 0 0 (s ∷ ss) old w r last)
    → TakesValue made values passed given new → StepsOn Reads 0 s old w (raised_count given) new w
made_on Reads made passed s old values new w (Ok next) is t = λ ss r last h. is ss r last (value_taken Reads made passed next values new ss w r last t h)
made_on Reads made passed s old values new w (Err kind) is t = λ ss. is ss (Err (Tcl kind)) w (value_refused Reads made passed values new kind ss w t)

malformed_on : {State : Type 0} (Reads : Reader State) (s : ExpressionStep) (old new : List Scalar) (w : State) (given : Result ℕ TclKind)
    → ((ss : List ExpressionStep) → RunsSteps Reads 0 0 (s ∷ ss) old w (Err (Tcl BadExpr)) w) → given ≡ Err BadExpr → StepsOn Reads 0 s old w (raised_count given) new w
malformed_on Reads s old new w given is e = subst (λ r. StepsOn Reads 0 s old w (raised_count r) new w) (sym e) is

-- what a step that runs nothing answers
takes_on : {State : Type 0} (Reads : Reader State) (s : ExpressionStep) (old new : List Scalar) (w : State) (given : Result ℕ TclKind)
    → Takes s old given new → StepsOn Reads 0 s old w (raised_count given) new w
takes_on Reads (step.Number n) old new w given t = made_on Reads (computed n) 0 (step.Number n) old old new w given (λ ss r last h. h) t
takes_on Reads (step.Word x levels) old new w given t = absurd t
takes_on Reads (step.Unary u) [] new w given t = malformed_on Reads (step.Unary u) [] new w given (λ ss. (refl, refl)) t
takes_on Reads (step.Unary u) (v ∷ values) new w given t = made_on Reads (changed u v) 0 (step.Unary u) (v ∷ values) values new w given (λ ss r last h. h) t
takes_on Reads (step.Decide op) [] new w given t = malformed_on Reads (step.Decide op) [] new w given (λ ss. (refl, refl)) t
takes_on Reads (step.Decide op) (v ∷ values) new w given t = by_decided (decided op v) refl t where
  by_decided : (o : Option (Result Scalar TclKind)) → decided op v ≡ o → TakesDecision o v values given new → StepsOn Reads 0 (step.Decide op) (v ∷ values) w (raised_count given) new w
  by_decided None e d =
      made_on Reads (Ok v) 0 (step.Decide op) (v ∷ values) values new w given
      (λ ss r last h. subst (λ o. GoesOnDecided (λ passed x. RunsSteps Reads 0 passed ss (x ∷ values)) v o w r last) (sym e) h) d
  by_decided (Some outcome) e d =
      made_on Reads outcome 1 (step.Decide op) (v ∷ values) values new w given
      (λ ss r last h. subst (λ o. GoesOnDecided (λ passed x. RunsSteps Reads 0 passed ss (x ∷ values)) v o w r last) (sym e) h) d
takes_on Reads (step.Binary op) [] new w given t = malformed_on Reads (step.Binary op) [] new w given (λ ss. (refl, refl)) t
takes_on Reads (step.Binary op) (v ∷ []) new w given t = malformed_on Reads (step.Binary op) (v ∷ []) new w given (λ ss. (refl, refl)) t
takes_on Reads (step.Binary op) (right ∷ left ∷ values) new w given t =
    made_on Reads (joined op left right) 0 (step.Binary op) (right ∷ left ∷ values) values new w given (λ ss r last h. h) t

pub step_taken : {State : Type 0} (Reads : Reader State) (passed : ℕ) (s : ExpressionStep) (old new : List Scalar) (w : State) (r : Result ℕ (Stop TclKind))
    → passed ≡ 0 → Meets r (λ given. Takes s old given new) → Meets (as_answer r) (λ given. StepsOn Reads passed s old w given new w)
step_taken Reads passed s old new w (Ok next) e t = subst (λ n. StepsOn Reads n s old w (Ok next) new w) (sym e) (takes_on Reads s old new w (Ok next) t)
step_taken Reads passed s old new w (Err (stop.Refused kind)) e t = subst (λ n. StepsOn Reads n s old w (Err (Tcl kind)) new w) (sym e) (takes_on Reads s old new w (Err kind) t)
step_taken Reads passed s old new w (Err stop.NoMemory) e t = tt

-- ---- a word

none_before : (levels : ℕ) → 0 + levels ≡ levels
none_before levels = omega arith

pub word_step : {State : Type 0} (level : Level State) (passed : ℕ) (x : Word) (inside : ℕ) (old new : List Scalar) (before after : World State) (v : Value)
    → passed ≡ 0 → RunsWord level inside x.parts before (Ok v) after → new ≡ scalar.Text (text_in level.host after.host v) ∷ old
    → StepsOn (ReadsWord level) passed (step.Word x inside) old before (Ok 0) new after
word_step {State = S} level passed x inside old new before after v e ran pushed =
    subst (λ n. StepsOn (ReadsWord level) n (step.Word x inside) old before (Ok 0) new after) (sym e) on where
      on : (ss : List ExpressionStep) (given : Result Scalar Kind) (last : World S) → RunsSteps (ReadsWord level) 0 0 ss new after given last → RunsSteps (ReadsWord level) 0 0 (step.Word x inside ∷ ss) old before given last
      on ss given last h = (
        Ok (text_in level.host after.host v),
        after,
        subst (λ n. ReadsWord level n x before (Ok (text_in level.host after.host v)) after) (sym (none_before inside)) (Ok v, ran, refl),
        subst (λ vs. RunsSteps (ReadsWord level) 0 0 ss vs after given last) pushed h,
      )

pub word_step_refused : {State : Type 0} (level : Level State) (passed : ℕ) (x : Word) (inside : ℕ) (old new : List Scalar) (before after : World State) (s : Stop Kind)
    → passed ≡ 0 → Does {A = Value} (RunsWord level inside x.parts) before (Err s) after
    → Meets {T = ℕ} (Err s) (λ given. StepsOn (ReadsWord level) passed (step.Word x inside) old before given new after)
word_step_refused level passed x inside old new before after (stop.Refused kind) e ran =
    subst (λ n. StepsOn (ReadsWord level) n (step.Word x inside) old before (Err kind) new after) (sym e)
    (λ ss. (Err kind, after, subst (λ n. ReadsWord level n x before (Err kind) after) (sym (none_before inside)) (Err kind, ran, refl), (refl, refl)))
word_step_refused level passed x inside old new before after stop.NoMemory e ran = tt

-- ---- all steps

abbrev pub AllStepsOn : {State : Type 0} → Reader State → List ExpressionStep → State → ℕ → List Scalar → List ExpressionStep → State → Type 0
AllStepsOn {State = S} Reads all start passed values rest now = (given : Result Scalar Kind) (after : S)
    → RunsSteps Reads 0 passed rest values now given after → RunsSteps Reads 0 0 all [] start given after

pub no_step_run : {State : Type 0} (Reads : Reader State) (all : List ExpressionStep) (start : State) → AllStepsOn Reads all start 0 [] all start
no_step_run Reads all start = λ given after h. h

pub step_run : {State : Type 0} (Reads : Reader State) (all : List ExpressionStep) (start : State) (passed next : ℕ) (values new : List Scalar) (rest : List ExpressionStep) (s : ExpressionStep) (ss : List ExpressionStep) (now after : State)
    → AllStepsOn Reads all start passed values rest now → rest ≡ s ∷ ss → StepsOn Reads passed s values now (Ok next) new after → AllStepsOn Reads all start next new ss after
step_run Reads all start passed next values new rest s ss now after on e ran = λ given last h.
    on given last (subst (λ xs. RunsSteps Reads 0 passed xs values now given last) (sym e) (ran ss given last h))

-- what the steps of an expression give is what its text gives
text_gives : {State : Type 0} (Reads : Reader State) (left : ℕ) (text : List ℕ) (expression : Expression) (start : State) (given : Result Scalar Kind) (after : State)
    → ParsesTo text (Ok expression) → expression.levels ≤ left → RunsSteps Reads 0 0 expression.steps [] start given after → RunsExpression Reads left text start given after
text_gives Reads left text expression start given after parsed within h =
    let levels : levels_of parsed.0 ≤ left = subst (λ e. e.levels ≤ left) parsed.2 within in
    let steps : RunsSteps Reads 0 0 (steps_of 0 parsed.0) [] start given after = subst (λ e. RunsSteps Reads 0 0 e.steps [] start given after) parsed.2 h in
    inl (parsed.0, parsed.1, inl (levels, steps_are_trees Reads 0 parsed.0 start given after steps))

pub step_refused : {State : Type 0} (Reads : Reader State) (left : ℕ) (text : List ℕ) (expression : Expression) (start : State) (passed : ℕ) (values new : List Scalar) (rest : List ExpressionStep) (s : ExpressionStep) (ss : List ExpressionStep) (now after : State) (why : Stop Kind)
    → ParsesTo text (Ok expression) → expression.levels ≤ left → AllStepsOn Reads expression.steps start passed values rest now → rest ≡ s ∷ ss
    → Meets {T = ℕ} (Err why) (λ given. StepsOn Reads passed s values now given new after) → Meets {T = Scalar} (Err why) (λ given. RunsExpression Reads left text start given after)
step_refused Reads left text expression start passed values new rest s ss now after (stop.Refused kind) parsed within on e ran =
    text_gives Reads left text expression start (Err kind) after parsed within
    (on (Err kind) after (subst (λ xs. RunsSteps Reads 0 passed xs values now (Err kind) after) (sym e) (ran ss)))
step_refused Reads left text expression start passed values new rest s ss now after stop.NoMemory parsed within on e ran = tt

ends_with : {State : Type 0} (Reads : Reader State) (passed : ℕ) (values : List Scalar) (w : State) → RunsSteps Reads 0 passed [] values w (tcl_outcome (ended values)) w
ends_with Reads passed [] w = (refl, refl)
ends_with Reads passed (v ∷ []) w = (refl, refl)
ends_with Reads passed (v ∷ x ∷ values) w = (refl, refl)

pub steps_run : {State : Type 0} (Reads : Reader State) (left : ℕ) (text : List ℕ) (expression : Expression) (start : State) (passed : ℕ) (values : List Scalar) (rest : List ExpressionStep) (now : State) (r : Result Scalar TclKind) (s : Result Scalar (Stop Kind))
    → ParsesTo text (Ok expression) → expression.levels ≤ left → AllStepsOn Reads expression.steps start passed values rest now → rest ≡ []
    → r ≡ ended values → IsRaised r s → Meets s (λ given. RunsExpression Reads left text start given now)
steps_run Reads left text expression start passed values rest now r s parsed within on e last raises =
    let given = tcl_outcome (ended values) in
    let all_run : RunsExpression Reads left text start given now =
    text_gives Reads left text expression start given now parsed within
    (on given now (subst (λ xs. RunsSteps Reads 0 passed xs values now given now) (sym e) (ends_with Reads passed values now))) in
    meets_raised r s (λ given. RunsExpression Reads left text start given now) raises (subst (λ o. RunsExpression Reads left text start (tcl_outcome o) now) (sym last) all_run)
