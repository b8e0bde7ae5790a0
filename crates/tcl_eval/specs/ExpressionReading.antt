-- How an expression is read, token by token from the left, as its reader does it: operands are done where they stand,
-- and operators wait for their right side until a weaker one, a parenthesis or the end comes. This project's own; that
-- it gives what the form of expressions says is proved. Read `step` first.
use Rattle.std.specs.Prelude.{◌++◌, ◌-◌, ℕ, suc, max, Bool, true, false, nat_le, if◌then◌else◌, List, [], ◌∷◌, Option, Some, None, option_and_then}
use Rattle.source_types.specs.declared.expressions.BinaryOperator.{BinaryOperator}
use Rattle.source_types.specs.declared.expressions.BinaryOperator.TheVariants.{Add, And, Divide, Equal, Greater, GreaterEqual, Less, LessEqual, Multiply, NotEqual, Or, Remainder, Subtract, TextEqual, TextNotEqual}
use Rattle.source_types.specs.declared.expressions.Expression.{Expression}
use Rattle.source_types.specs.declared.expressions.ExpressionStep.{ExpressionStep}
use Rattle.source_types.specs.declared.expressions.ExpressionStep.TheVariants as made
use Rattle.source_types.specs.declared.expressions.ExpressionToken.{ExpressionToken}
use Rattle.source_types.specs.declared.expressions.ExpressionToken.TheVariants as token
use Rattle.source_types.specs.declared.expressions.UnaryOperator.{UnaryOperator}
use Rattle.source_types.specs.declared.expressions.UnaryOperator.TheVariants.{Minus, Not, Plus}
use Rattle.tcl_eval.specs.declared.expressions.waiting.Waiting.{Waiting}
use Rattle.tcl_eval.specs.declared.expressions.waiting.Waiting.TheVariants as waiting
use Rattle.tcl_model.specs.ExpressionForm.{binding}
use Rattle.tcl_model.specs.ExpressionSteps.{decision}

-- steps that are done, and what waits after them, the last one first
pub record Settled : Type 0 where
  pub steps : List ExpressionStep
  pub waits : List Waiting

-- what waits is done before an operator that binds so tightly
abbrev pub is_done : ℕ → Waiting → Bool
is_done b (waiting.Unary u) = true
is_done b (waiting.Binary op) = nat_le b (binding op)
is_done b waiting.Open = false

abbrev pub done : Waiting → List ExpressionStep
done (waiting.Unary u) = made.Unary u ∷ []
done (waiting.Binary op) = made.Binary op ∷ []
done waiting.Open = []

-- all that is done before an operator that binds so tightly
abbrev pub settled : ℕ → List ExpressionStep → List Waiting → Settled
settled b steps [] = record { steps = steps; waits = [] }
settled b steps (w ∷ ws) = if is_done b w then settled b (steps ++ done w) ws else record { steps = steps; waits = w ∷ ws }

-- what is read so far: the steps that are done, what waits, the parentheses that are open and the most that were, and
-- whether an operand is due
pub record Reading : Type 0 where
  pub steps : List ExpressionStep
  pub waits : List Waiting
  pub levels : ℕ
  pub deepest : ℕ
  pub due : Bool

abbrev pub reading : List ExpressionStep → List Waiting → ℕ → ℕ → Bool → Reading
reading steps waits levels deepest due = record { steps = steps; waits = waits; levels = levels; deepest = deepest; due = due }

abbrev pub nothing_read : Reading
nothing_read = reading [] [] 0 0 true

-- an operand, where one is due
abbrev pub with_operand : Reading → ExpressionStep → Option Reading
with_operand r step = if r.due then Some (reading (r.steps ++ step ∷ []) r.waits r.levels r.deepest false) else None

-- an operator before one operand, where one is due
abbrev pub with_unary : Reading → UnaryOperator → Option Reading
with_unary r u = if r.due then Some (reading r.steps (waiting.Unary u ∷ r.waits) r.levels r.deepest true) else None

abbrev pub with_open : Reading → Option Reading
with_open r =
    if r.due then Some (reading r.steps (waiting.Open ∷ r.waits) (suc r.levels) (max r.deepest (suc r.levels)) true)
    else None

-- after all that is done before `)`, its `(`
abbrev pub closed : ℕ → ℕ → List ExpressionStep → List Waiting → Option Reading
closed levels deepest steps [] = None
closed levels deepest steps (waiting.Unary u ∷ ws) = None
closed levels deepest steps (waiting.Binary op ∷ ws) = None
closed levels deepest steps (waiting.Open ∷ ws) = Some (reading steps ws (levels - 1) deepest false)

abbrev pub with_close : Reading → Option Reading
with_close r =
    let s = settled 0 r.steps r.waits in if r.due then None else closed r.levels r.deepest s.steps s.waits

-- an operator between two operands
abbrev pub with_binary : Reading → BinaryOperator → Reading
with_binary r op =
    let s = settled (binding op) r.steps r.waits in
    reading (s.steps ++ decision op) (waiting.Binary op ∷ s.waits) r.levels r.deepest true

-- `+` and `-` may stand before an operand
abbrev pub sign_of : BinaryOperator → Option UnaryOperator
sign_of Add = Some Plus
sign_of Subtract = Some Minus
sign_of Or = None
sign_of And = None
sign_of Equal = None
sign_of NotEqual = None
sign_of TextEqual = None
sign_of TextNotEqual = None
sign_of Less = None
sign_of LessEqual = None
sign_of Greater = None
sign_of GreaterEqual = None
sign_of Multiply = None
sign_of Divide = None
sign_of Remainder = None

abbrev pub with_operator : Reading → BinaryOperator → Option Reading
with_operator r op = if r.due then option_and_then (with_unary r) (sign_of op) else Some (with_binary r op)

-- what is read with one token more, if the expression can go on with it
abbrev pub step : Reading → ExpressionToken → Option Reading
step r (token.Number n) = with_operand r (made.Number n)
step r (token.Word w) = with_operand r (made.Word w r.levels)
step r token.Open = with_open r
step r token.Close = with_close r
step r token.Not = with_unary r Not
step r (token.Operator op) = with_operator r op

abbrev pub steps_on : List ExpressionToken → Reading → Option Reading
steps_on [] r = Some r
steps_on (token ∷ tokens) r = option_and_then (steps_on tokens) (step r token)

-- what a whole expression gives: an operand stands at its end, and no parenthesis is open
abbrev pub whole : ℕ → List ExpressionStep → List Waiting → Option Expression
whole deepest steps [] = Some (record { steps = steps; levels = deepest })
whole deepest steps (w ∷ ws) = None

abbrev pub ended : Reading → Option Expression
ended r = let s = settled 0 r.steps r.waits in if r.due then None else whole r.deepest s.steps s.waits

-- what tokens give
abbrev pub parsed : List ExpressionToken → Option Expression
parsed tokens = option_and_then ended (steps_on tokens nothing_read)
