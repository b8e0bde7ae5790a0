-- What the operators of an expression make of values (Tcl). A value is a number or a text; a text that has the form
-- of a number counts as one. Every operator but those that compare texts needs numbers, else it is BadExpr; a number
-- out of range is this project's own. Read `joined` and `changed`; the truth of a value is 1 or 0.
use Rattle.std.specs.Prelude.{◌||◌, ◌&&◌, ◌==◌, ◌^◌, ℕ, Bool, true, false, not, if◌then◌else◌, List, Option, Some, None, Result, Ok, Err, pos, neg_ℤ, int_lt, unsigned_abs}
use Rattle.sdc_base.specs.Arithmetic.{difference_of, product_of, quotient_of, remainder_of, sum_of}
use Rattle.sdc_base.specs.declared.fixed.NumberError.{NumberError}
use Rattle.sdc_base.specs.declared.fixed.NumberError.TheVariants.{DivideByZero, NumberForm, NumberRange}
use Rattle.sdc_base.specs.Number.{Number, read_number}
use Rattle.sdc_base.specs.WrittenNumber.{number_text_of}
use Rattle.source_types.specs.declared.expressions.BinaryOperator.{BinaryOperator}
use Rattle.source_types.specs.declared.expressions.BinaryOperator.TheVariants.{Add, And, Divide, Equal, Greater, GreaterEqual, Less, LessEqual, Multiply, NotEqual, Or, Remainder, Subtract, TextEqual, TextNotEqual}
use Rattle.source_types.specs.declared.expressions.Scalar.{Scalar}
use Rattle.source_types.specs.declared.expressions.Scalar.TheVariants as scalar
use Rattle.source_types.specs.declared.expressions.UnaryOperator.{UnaryOperator}
use Rattle.source_types.specs.declared.expressions.UnaryOperator.TheVariants.{Minus, Not, Plus}
use Rattle.source_types.specs.declared.kinds.TclKind.{TclKind}
use Rattle.source_types.specs.declared.kinds.TclKind.TheVariants as kind
use Rattle.text_model.specs.Words.{same_text}

-- ---- texts, numbers and truth

-- the text of a value
abbrev pub text_of : Scalar → List ℕ
text_of (scalar.Number n) = number_text_of n
text_of (scalar.Text text) = text

-- a number that was read: a text that has not the form of one is BadExpr
abbrev pub expected : Result Number NumberError → Result Number TclKind
expected (Ok n) = Ok n
expected (Err NumberForm) = Err kind.BadExpr
expected (Err NumberRange) = Err (kind.Number NumberRange)
expected (Err DivideByZero) = Err (kind.Number DivideByZero)

-- the number that a value is
abbrev pub number_of : Scalar → Result Number TclKind
number_of (scalar.Number n) = Ok n
number_of (scalar.Text text) = expected (read_number text)

-- what was read has the form of a number
abbrev pub has_form : Result Number NumberError → Bool
has_form (Ok n) = true
has_form (Err NumberForm) = false
has_form (Err NumberRange) = true
has_form (Err DivideByZero) = true

abbrev pub is_numeric : Scalar → Bool
is_numeric (scalar.Number n) = true
is_numeric (scalar.Text text) = has_form (read_number text)

-- what a number that was computed is as a value
abbrev pub computed : Result Number NumberError → Result Scalar TclKind
computed (Ok n) = Ok (scalar.Number n)
computed (Err error) = Err (kind.Number error)

-- a truth as a value
abbrev pub truth_value : Bool → Scalar
truth_value truth = scalar.Number (record { scaled = pos (if truth then 10 ^ 9 else 0); whole = true })

-- a number is true where it is not 0
abbrev pub is_true : Number → Bool
is_true n = not (unsigned_abs n.scaled == 0)

abbrev pub truth_in : Result Number TclKind → Result Bool TclKind
truth_in (Ok n) = Ok (is_true n)
truth_in (Err fault) = Err fault

abbrev pub truth_of : Scalar → Result Bool TclKind
truth_of v = truth_in (number_of v)

-- ---- operators between two operands

-- on the numbers of both sides, the left one first
abbrev pub on_second : (Number → Number → Result Scalar TclKind) → Number → Result Number TclKind → Result Scalar TclKind
on_second operation a (Ok b) = operation a b
on_second operation a (Err fault) = Err fault

abbrev pub on_both : (Number → Number → Result Scalar TclKind) → Result Number TclKind → Result Number TclKind → Result Scalar TclKind
on_both operation (Ok a) right = on_second operation a right
on_both operation (Err fault) right = Err fault

abbrev pub on_numbers : (Number → Number → Result Scalar TclKind) → Scalar → Scalar → Result Scalar TclKind
on_numbers operation left right = on_both operation (number_of left) (number_of right)

-- a remainder is of whole numbers
abbrev pub remainder : Number → Number → Result Scalar TclKind
remainder a b = if a.whole && b.whole then computed (remainder_of a b) else Err kind.BadExpr

abbrev pub is_less : Number → Number → Bool
is_less a b = int_lt a.scaled b.scaled

-- neither is less
abbrev pub is_same : Number → Number → Bool
is_same a b = not (is_less a b || is_less b a)

-- two texts compared, where what they are asked for is that they are equal, or that they differ
abbrev pub compared_texts : Bool → Scalar → Scalar → Result Scalar TclKind
compared_texts wanted left right =
    let same = same_text (text_of left) (text_of right) in Ok (truth_value (if wanted then same else not same))

-- as numbers where both sides are numbers, and else as texts
abbrev pub compared : Bool → Scalar → Scalar → Result Scalar TclKind
compared wanted left right =
    if is_numeric left && is_numeric right
    then on_numbers (λ a b. Ok (truth_value (if wanted then is_same a b else not (is_same a b)))) left right
    else compared_texts wanted left right

-- what an operator makes of the values of its two sides
abbrev pub joined : BinaryOperator → Scalar → Scalar → Result Scalar TclKind
joined Or left right = on_numbers (λ a b. Ok (truth_value (is_true a || is_true b))) left right
joined And left right = on_numbers (λ a b. Ok (truth_value (is_true a && is_true b))) left right
joined Equal left right = compared true left right
joined NotEqual left right = compared false left right
joined TextEqual left right = compared_texts true left right
joined TextNotEqual left right = compared_texts false left right
joined Less left right = on_numbers (λ a b. Ok (truth_value (is_less a b))) left right
joined LessEqual left right = on_numbers (λ a b. Ok (truth_value (not (is_less b a)))) left right
joined Greater left right = on_numbers (λ a b. Ok (truth_value (is_less b a))) left right
joined GreaterEqual left right = on_numbers (λ a b. Ok (truth_value (not (is_less a b)))) left right
joined Add left right = on_numbers (λ a b. computed (sum_of a b)) left right
joined Subtract left right = on_numbers (λ a b. computed (difference_of a b)) left right
joined Multiply left right = on_numbers (λ a b. computed (product_of a b)) left right
joined Divide left right = on_numbers (λ a b. computed (quotient_of a b)) left right
joined Remainder left right = on_numbers remainder left right

-- what the left side gives where it decides, or cannot: with `||` where it is true, with `&&` where it is not
abbrev pub decided_where : Bool → Result Bool TclKind → Option (Result Scalar TclKind)
decided_where deciding (Ok true) = if deciding then Some (Ok (truth_value true)) else None
decided_where deciding (Ok false) = if deciding then None else Some (Ok (truth_value false))
decided_where deciding (Err fault) = Some (Err fault)

abbrev pub decided : BinaryOperator → Scalar → Option (Result Scalar TclKind)
decided Or left = decided_where true (truth_of left)
decided And left = decided_where false (truth_of left)
decided Equal left = None
decided NotEqual left = None
decided TextEqual left = None
decided TextNotEqual left = None
decided Less left = None
decided LessEqual left = None
decided Greater left = None
decided GreaterEqual left = None
decided Add left = None
decided Subtract left = None
decided Multiply left = None
decided Divide left = None
decided Remainder left = None

-- ---- operators before one operand

abbrev pub negated : Number → Number
negated n = record { scaled = neg_ℤ n.scaled; whole = n.whole }

abbrev pub changed_number : UnaryOperator → Number → Scalar
changed_number Plus n = scalar.Number n
changed_number Minus n = scalar.Number (negated n)
changed_number Not n = truth_value (not (is_true n))

abbrev pub changed_in : UnaryOperator → Result Number TclKind → Result Scalar TclKind
changed_in op (Ok n) = Ok (changed_number op n)
changed_in op (Err fault) = Err fault

-- what an operator makes of the value after it
abbrev pub changed : UnaryOperator → Scalar → Result Scalar TclKind
changed op v = changed_in op (number_of v)
