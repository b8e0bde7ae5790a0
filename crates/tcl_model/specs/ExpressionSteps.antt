-- What is kept of a parsed expression: its steps, each operator after its operands. This project's own.
-- It reads: the steps of a tree, and what the text of an expression gives.
use Rattle.std.specs.Prelude.{◌≡◌, ◌++◌, ℕ, suc, List, [], ◌∷◌, Result, Ok, Err}
use Rattle.source_types.specs.declared.expressions.BinaryOperator.{BinaryOperator}
use Rattle.source_types.specs.declared.expressions.BinaryOperator.TheVariants.{Add, And, Divide, Equal, Greater, GreaterEqual, Less, LessEqual, Multiply, NotEqual, Or, Remainder, Subtract, TextEqual, TextNotEqual}
use Rattle.source_types.specs.declared.expressions.Expression.{Expression}
use Rattle.source_types.specs.declared.expressions.ExpressionStep.{ExpressionStep}
use Rattle.source_types.specs.declared.expressions.ExpressionStep.TheVariants as step
use Rattle.source_types.specs.declared.kinds.TclKind.{TclKind}
use Rattle.source_types.specs.declared.kinds.TclKind.TheVariants.{BadExpr}
use Rattle.tcl_model.specs.ExpressionForm.{IsExpression, Tree, binary, levels_of, number, parentheses, unary, word}

-- what stands between the steps of an operator's two sides: `&&` and `||` decide there
abbrev pub decision : BinaryOperator → List ExpressionStep
decision Or = step.Decide Or ∷ []
decision And = step.Decide And ∷ []
decision Equal = []
decision NotEqual = []
decision TextEqual = []
decision TextNotEqual = []
decision Less = []
decision LessEqual = []
decision Greater = []
decision GreaterEqual = []
decision Add = []
decision Subtract = []
decision Multiply = []
decision Divide = []
decision Remainder = []

-- the steps of a tree that stands inside so many parentheses
abbrev pub steps_of : ℕ → Tree → List ExpressionStep
steps_of levels (number n) = step.Number n ∷ []
steps_of levels (word w) = step.Word w levels ∷ []
steps_of levels (parentheses t) = steps_of (suc levels) t
steps_of levels (unary u t) = steps_of levels t ++ step.Unary u ∷ []
steps_of levels (binary op left right) =
    steps_of levels left ++ (decision op ++ (steps_of levels right ++ step.Binary op ∷ []))

-- what is kept of a tree
abbrev pub kept : Tree → Expression
kept tree = record { steps = steps_of 0 tree; levels = levels_of tree }

-- what a text gives: what is kept of its tree, or BadExpr exactly where it has none
abbrev pub ParsesTo : List ℕ → Result Expression TclKind → Type 0
ParsesTo text (Ok expression) = (tree : Tree) × IsExpression text tree × (expression ≡ kept tree)
ParsesTo text (Err kind) = (kind ≡ BadExpr) × ((tree : Tree) → IsExpression text tree → ⊥)
