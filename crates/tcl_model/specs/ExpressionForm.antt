-- The form of an expression (Tcl): a tree of operands and operators whose tokens, from left to right, are those of
-- the text. Operators bind from `||`, the weakest, over `&&`, `== != eq ne`, `< <= > >=`, `+ -` to `* / %`, and those
-- before one operand bind tightest; operators that bind alike group to the left. A text that no tree spells is BadExpr.
use Rattle.std.specs.Prelude.{◌<◌, ◌≤◌, ◌++◌, ℕ, suc, max, List, [], ◌∷◌, Result}
use Rattle.sdc_base.specs.declared.fixed.NumberError.{NumberError}
use Rattle.sdc_base.specs.Number.{Number}
use Rattle.source_types.specs.declared.commands.Word.{Word}
use Rattle.source_types.specs.declared.expressions.BinaryOperator.{BinaryOperator}
use Rattle.source_types.specs.declared.expressions.BinaryOperator.TheVariants.{Add, And, Divide, Equal, Greater, GreaterEqual, Less, LessEqual, Multiply, NotEqual, Or, Remainder, Subtract, TextEqual, TextNotEqual}
use Rattle.source_types.specs.declared.expressions.ExpressionToken.{ExpressionToken}
use Rattle.source_types.specs.declared.expressions.ExpressionToken.TheVariants as token
use Rattle.source_types.specs.declared.expressions.UnaryOperator.{UnaryOperator}
use Rattle.source_types.specs.declared.expressions.UnaryOperator.TheVariants.{Minus, Not, Plus}
use Rattle.tcl_model.specs.ExpressionTokens.{AreTokens, all_read}

pub data Tree : Type 0 where
  number : Result Number NumberError → Tree
  word : Word → Tree
  parentheses : Tree → Tree
  unary : UnaryOperator → Tree → Tree
  binary : BinaryOperator → Tree → Tree → Tree

-- ---- how it is spelled

abbrev pub unary_token : UnaryOperator → ExpressionToken
unary_token Plus = token.Operator Add
unary_token Minus = token.Operator Subtract
unary_token Not = token.Not

-- its tokens from left to right
abbrev pub spelling : Tree → List ExpressionToken
spelling (number n) = token.Number n ∷ []
spelling (word w) = token.Word w ∷ []
spelling (parentheses t) = token.Open ∷ (spelling t ++ token.Close ∷ [])
spelling (unary u t) = unary_token u ∷ spelling t
spelling (binary op left right) = spelling left ++ (token.Operator op ∷ spelling right)

-- ---- how it is grouped

-- how tightly an operator binds
abbrev pub binding : BinaryOperator → ℕ
binding Or = 1
binding And = 2
binding Equal = 3
binding NotEqual = 3
binding TextEqual = 3
binding TextNotEqual = 3
binding Less = 4
binding LessEqual = 4
binding Greater = 4
binding GreaterEqual = 4
binding Add = 5
binding Subtract = 5
binding Multiply = 6
binding Divide = 6
binding Remainder = 6

-- how tightly what stands before one operand binds it
abbrev pub unary_binding : ℕ
unary_binding = 7

-- how tightly a tree is bound: by its operator between two operands, if it is one
abbrev pub tightness : Tree → ℕ
tightness (number n) = unary_binding
tightness (word w) = unary_binding
tightness (parentheses t) = unary_binding
tightness (unary u t) = unary_binding
tightness (binary op left right) = binding op

-- each operator between two operands has its left side bound no looser than by it, and its right side tighter; each
-- before one operand has that operand bound no looser than by it
abbrev pub IsGrouped : Tree → Type 0
IsGrouped (number n) = Unit {0}
IsGrouped (word w) = Unit {0}
IsGrouped (parentheses t) = IsGrouped t
IsGrouped (unary u t) = IsGrouped t × (unary_binding ≤ tightness t)
IsGrouped (binary op left right) =
    IsGrouped left × IsGrouped right × (binding op ≤ tightness left) × (binding op < tightness right)

-- ---- expressions

-- a text has the form of an expression, this tree
pub record IsExpression (text : List ℕ) (tree : Tree) : Type 0 where
  pub spelled : AreTokens (spelling tree) text all_read
  pub grouped : IsGrouped tree

-- the greatest number of parentheses that stand inside each other
abbrev pub levels_of : Tree → ℕ
levels_of (number n) = 0
levels_of (word w) = 0
levels_of (parentheses t) = suc (levels_of t)
levels_of (unary u t) = levels_of t
levels_of (binary op left right) = max (levels_of left) (levels_of right)
