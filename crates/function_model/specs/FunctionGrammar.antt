-- The grammar of the text of a cell's function (Liberty, `function`), from what binds most tightly on:
--   operand   is  word | ( sum ) | operand '
--   negation  is  operand | ! negation
--   chain     is  negation | chain ^ negation
--   product   is  chain | product * chain | product & chain | product BLANK chain
--   sum       is  product | sum + product | sum | product
-- with blanks before and after any of these; a whole text is a sum. Each rule of `Spells` says of which parts a text
-- is, and the expression that it means then. Of several blanks between two operands any may be the and, with one
-- meaning.
use Rattle.std.specs.Prelude.{◌≡◌, ◌↔◌, ◌⊎◌, ℕ, List, [], ◌∷◌, ◌++◌, Some}
use Rattle.source_types.specs.declared.function_texts.Sign.{Sign}
use Rattle.source_types.specs.declared.function_texts.Sign.TheVariants as sign
use Rattle.pin_types.specs.declared.functions.Expr.{Expr}
use Rattle.pin_types.specs.declared.functions.Expr.TheVariants as expr
use Rattle.function_model.specs.FunctionText.{expression, sign_of, word_meaning}

-- the levels of binding
pub data Level : Type 0 where
  an_operand : Level
  a_negation : Level
  a_chain : Level
  a_product : Level
  a_sum : Level

-- a byte of a kind; for an and `*`, `&` or a blank
abbrev pub Is : Sign → ℕ → Type 0
Is kind b = sign_of b ≡ kind

abbrev pub IsAnd : ℕ → Type 0
IsAnd b = Is sign.And b ⊎ Is sign.Blank b

-- a word: one letter or more
abbrev pub AreLetters : List ℕ → Type 0
AreLetters [] = Unit {0}
AreLetters (b ∷ bytes) = Is sign.Letter b × AreLetters bytes

abbrev pub IsWord : List ℕ → Type 0
IsWord [] = ⊥
IsWord (b ∷ bytes) = AreLetters (b ∷ bytes)

-- a text spells an expression of a level, among the names of a cell
pub data Spells (names : List (List ℕ)) : Level → List ℕ → Expr → Type 0 where
  -- operands
  word : (text : List ℕ) → IsWord text → Spells names an_operand text (word_meaning names text)
  enclosed : (text inner : List ℕ) (b c : ℕ) (e : Expr)
      → Is sign.Open b → Spells names a_sum inner e → Is sign.Close c → text ≡ b ∷ inner ++ c ∷ []
      → Spells names an_operand text e
  primed : (text inner : List ℕ) (b : ℕ) (e : Expr)
      → Spells names an_operand inner e → Is sign.Prime b → text ≡ inner ++ b ∷ []
      → Spells names an_operand text (expr.Not e)
  -- negations
  one_operand : (text : List ℕ) (e : Expr) → Spells names an_operand text e → Spells names a_negation text e
  denied : (text inner : List ℕ) (b : ℕ) (e : Expr)
      → Is sign.Not b → Spells names a_negation inner e → text ≡ b ∷ inner
      → Spells names a_negation text (expr.Not e)
  -- chains
  one_negation : (text : List ℕ) (e : Expr) → Spells names a_negation text e → Spells names a_chain text e
  either : (text left right : List ℕ) (b : ℕ) (d e : Expr)
      → Spells names a_chain left d → Is sign.Xor b → Spells names a_negation right e → text ≡ left ++ b ∷ right
      → Spells names a_chain text (expr.Xor d e)
  -- products
  one_chain : (text : List ℕ) (e : Expr) → Spells names a_chain text e → Spells names a_product text e
  both : (text left right : List ℕ) (b : ℕ) (d e : Expr)
      → Spells names a_product left d → IsAnd b → Spells names a_chain right e → text ≡ left ++ b ∷ right
      → Spells names a_product text (expr.And d e)
  -- sums
  one_product : (text : List ℕ) (e : Expr) → Spells names a_product text e → Spells names a_sum text e
  some : (text left right : List ℕ) (b : ℕ) (d e : Expr)
      → Spells names a_sum left d → Is sign.Or b → Spells names a_product right e → text ≡ left ++ b ∷ right
      → Spells names a_sum text (expr.Or d e)
  -- blanks
  after_blank : (level : Level) (text inner : List ℕ) (b : ℕ) (e : Expr)
      → Is sign.Blank b → Spells names level inner e → text ≡ b ∷ inner → Spells names level text e
  before_blank : (level : Level) (text inner : List ℕ) (b : ℕ) (e : Expr)
      → Spells names level inner e → Is sign.Blank b → text ≡ inner ++ b ∷ [] → Spells names level text e

-- what is read of a text is what the grammar spells so, and each that it spells so is read
abbrev pub IsReadAsSpelled : List (List ℕ) → List ℕ → Expr → Type 0
IsReadAsSpelled names text e = (expression names text ≡ Some e) ↔ Spells names a_sum text e

-- a text spells one expression
abbrev pub SpellsOne : List (List ℕ) → List ℕ → Type 0
SpellsOne names text = (d e : Expr) → Spells names a_sum text d → Spells names a_sum text e → d ≡ e
