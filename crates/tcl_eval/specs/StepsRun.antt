-- What the steps of a parsed expression give, one after the other, over the values so far, the last one first. This
-- project's own; that it is what the expression's tree gives is a law. Where the left side of `&&` or `||` decides,
-- the steps to the operator's own are passed over: `passed` counts the operators that are still to come. Steps that are
-- no expression's are BadExpr.
use Rattle.std.specs.Prelude.{◌≡◌, ◌+◌, ℕ, zero, suc, Bool, true, false, if◌then◌else◌, List, [], ◌∷◌, Option, Some, None, Result, Ok, Err}
use Rattle.source_types.specs.declared.commands.Word.{Word}
use Rattle.source_types.specs.declared.expressions.BinaryOperator.{BinaryOperator}
use Rattle.source_types.specs.declared.expressions.BinaryOperator.TheVariants.{Add, And, Divide, Equal, Greater, GreaterEqual, Less, LessEqual, Multiply, NotEqual, Or, Remainder, Subtract, TextEqual, TextNotEqual}
use Rattle.source_types.specs.declared.expressions.ExpressionStep.{ExpressionStep}
use Rattle.source_types.specs.declared.expressions.ExpressionStep.TheVariants as step
use Rattle.source_types.specs.declared.expressions.Scalar.{Scalar}
use Rattle.source_types.specs.declared.kinds.Kind.{Kind}
use Rattle.source_types.specs.declared.kinds.Kind.TheVariants.{Tcl}
use Rattle.source_types.specs.declared.kinds.TclKind.{TclKind}
use Rattle.source_types.specs.declared.kinds.TclKind.TheVariants.{BadExpr}
use Rattle.tcl_model.specs.ExpressionRun.{RunStep, as_scalar, raised}
use Rattle.tcl_model.specs.ExpressionValue.{changed, computed, decided, joined}

-- the operators that may decide by their left side
abbrev pub is_logical : BinaryOperator → Bool
is_logical Or = true
is_logical And = true
is_logical Equal = false
is_logical NotEqual = false
is_logical TextEqual = false
is_logical TextNotEqual = false
is_logical Less = false
is_logical LessEqual = false
is_logical Greater = false
is_logical GreaterEqual = false
is_logical Add = false
is_logical Subtract = false
is_logical Multiply = false
is_logical Divide = false
is_logical Remainder = false

abbrev pub one_less : ℕ → ℕ
one_less zero = zero
one_less (suc n) = n

-- how many operators are still to come after a step that is passed over
abbrev pub passing : ExpressionStep → ℕ → ℕ
passing (step.Number n) passed = passed
passing (step.Word w levels) passed = passed
passing (step.Unary u) passed = passed
passing (step.Decide op) passed = suc passed
passing (step.Binary op) passed = if is_logical op then one_less passed else passed

-- on with a value, or the fault that stands in its place
abbrev pub GoesOnWith : {State : Type 0} → (Scalar → RunStep State Scalar) → Result Scalar Kind → RunStep State Scalar
GoesOnWith Next (Ok v) before given after = Next v before given after
GoesOnWith Next (Err fault) before given after = (given ≡ Err fault) × (after ≡ before)

-- after the left side of `&&` or `||`: on with its value, or with what it decides after the right side
abbrev pub GoesOnDecided : {State : Type 0} → (ℕ → Scalar → RunStep State Scalar) → Scalar → Option (Result Scalar TclKind) → RunStep State Scalar
GoesOnDecided Next left None before given after = Next 0 left before given after
GoesOnDecided Next left (Some outcome) before given after = GoesOnWith (Next 1) (raised outcome) before given after

-- steps that are no expression's
abbrev pub Malformed : {State : Type 0} → RunStep State Scalar
Malformed before given after = (given ≡ Err (Tcl BadExpr)) × (after ≡ before)

-- what steps give, passing over those of so many operators
abbrev pub RunsSteps : {State : Type 0} → (ℕ → Word → RunStep State (List ℕ)) → ℕ → ℕ → List ExpressionStep → List Scalar → RunStep State Scalar
RunsSteps Reads level passed [] [] before given after = Malformed before given after
RunsSteps Reads level passed [] (v ∷ []) before given after = (given ≡ Ok v) × (after ≡ before)
RunsSteps Reads level passed [] (v ∷ w ∷ values) before given after = Malformed before given after
RunsSteps Reads level (suc passed) (s ∷ ss) values before given after = RunsSteps Reads level (passing s (suc passed)) ss values before given after
RunsSteps Reads level zero (step.Number n ∷ ss) values before given after =
    GoesOnWith (λ v. RunsSteps Reads level 0 ss (v ∷ values)) (raised (computed n)) before given after
RunsSteps {State = S} Reads level zero (step.Word w levels ∷ ss) values before given after =
    (read : Result (List ℕ) Kind) × (between : S) × Reads (level + levels) w before read between
    × GoesOnWith (λ v. RunsSteps Reads level 0 ss (v ∷ values)) (as_scalar read) between given after
RunsSteps Reads level zero (step.Unary u ∷ ss) [] before given after = Malformed before given after
RunsSteps Reads level zero (step.Unary u ∷ ss) (v ∷ values) before given after =
    GoesOnWith (λ w. RunsSteps Reads level 0 ss (w ∷ values)) (raised (changed u v)) before given after
RunsSteps Reads level zero (step.Decide op ∷ ss) [] before given after = Malformed before given after
RunsSteps Reads level zero (step.Decide op ∷ ss) (v ∷ values) before given after =
    GoesOnDecided (λ passed w. RunsSteps Reads level passed ss (w ∷ values)) v (decided op v) before given after
RunsSteps Reads level zero (step.Binary op ∷ ss) [] before given after = Malformed before given after
RunsSteps Reads level zero (step.Binary op ∷ ss) (v ∷ []) before given after = Malformed before given after
RunsSteps Reads level zero (step.Binary op ∷ ss) (right ∷ left ∷ values) before given after =
    GoesOnWith (λ w. RunsSteps Reads level 0 ss (w ∷ values)) (raised (joined op left right)) before given after

-- a value that was made, or its fault, after values: of so many operators the steps are then passed over
abbrev pub TakesValue : Result Scalar TclKind → List Scalar → ℕ → Result ℕ TclKind → List Scalar → Type 0
TakesValue (Ok v) values passed (Ok next) new = (next ≡ passed) × (new ≡ v ∷ values)
TakesValue (Ok v) values passed (Err kind) new = ⊥
TakesValue (Err kind) values passed (Ok next) new = ⊥
TakesValue (Err kind) values passed (Err other) new = other ≡ kind

-- after the left side of `&&` or `||`, which it may decide
abbrev pub TakesDecision : Option (Result Scalar TclKind) → Scalar → List Scalar → Result ℕ TclKind → List Scalar → Type 0
TakesDecision None left values given new = TakesValue (Ok left) values 0 given new
TakesDecision (Some outcome) left values given new = TakesValue outcome values 1 given new

-- what a step that runs nothing answers over values, with those that it leaves; a word is no such step
abbrev pub Takes : ExpressionStep → List Scalar → Result ℕ TclKind → List Scalar → Type 0
Takes (step.Number n) values given new = TakesValue (computed n) values 0 given new
Takes (step.Word w levels) values given new = ⊥
Takes (step.Unary u) [] given new = given ≡ Err BadExpr
Takes (step.Unary u) (v ∷ values) given new = TakesValue (changed u v) values 0 given new
Takes (step.Decide op) [] given new = given ≡ Err BadExpr
Takes (step.Decide op) (v ∷ values) given new = TakesDecision (decided op v) v values given new
Takes (step.Binary op) [] given new = given ≡ Err BadExpr
Takes (step.Binary op) (v ∷ []) given new = given ≡ Err BadExpr
Takes (step.Binary op) (right ∷ left ∷ values) given new = TakesValue (joined op left right) values 0 given new

-- the value that steps leave
abbrev pub ended : List Scalar → Result Scalar TclKind
ended [] = Err BadExpr
ended (v ∷ []) = Ok v
ended (v ∷ w ∷ values) = Err BadExpr

-- what a step answers: whatever the steps after it give, over the values that it left, all give, over those before it
abbrev pub StepsOn : {State : Type 0} → (ℕ → Word → RunStep State (List ℕ)) → ℕ → ExpressionStep → List Scalar → State → Result ℕ Kind → List Scalar → State → Type 0
StepsOn {State = S} Reads passed s old before (Ok next) new after =
    (ss : List ExpressionStep) (given : Result Scalar Kind) (last : S) → RunsSteps Reads 0 next ss new after given last → RunsSteps Reads 0 passed (s ∷ ss) old before given last
StepsOn Reads passed s old before (Err fault) new after =
    (ss : List ExpressionStep) → RunsSteps Reads 0 passed (s ∷ ss) old before (Err fault) after
