-- What the function of a library cell's output is worth, and what known inputs make of it. Two-valued logic, as
-- Liberty's `function` means it; the words on known inputs are this project's own.
-- A completion is a number whose bit i is the value of input i. Read it from `value_of` on.
use Rattle.std.specs.Prelude.{◌≡◌, ◌≢◌, ◌+◌, ◌^◌, ◌<◌, ◌&&◌, ◌||◌, ◌==◌, ℕ, Bool, true, false, not, nat_lt, List, get_or}
use Rattle.std.specs.Int.{bit_at}
use Rattle.pin_types.specs.declared.functions.Expr.{Expr}
use Rattle.pin_types.specs.declared.functions.Expr.TheOpen.{Expr-F}
use Rattle.pin_types.specs.declared.functions.Expr.TheFolds.{fold-Expr}

-- exactly one of two
abbrev pub differs : Bool → Bool → Bool
differs true right = not right
differs false right = right

-- one layer of an expression, where each part has a value already and each pin has one
abbrev pub value_layer : (ℕ → Bool) → Expr-F Bool → Bool
value_layer pins Expr-F.Zero = false
value_layer pins Expr-F.One = true
value_layer pins (Expr-F.Pin pin) = pins pin
value_layer pins (Expr-F.Not inner) = not inner
value_layer pins (Expr-F.And left right) = left && right
value_layer pins (Expr-F.Or left right) = left || right
value_layer pins (Expr-F.Xor left right) = differs left right

-- the value of an expression, where each pin has a value
abbrev pub value_of : (ℕ → Bool) → Expr → Bool
value_of pins = fold-Expr Bool (value_layer pins)

-- whether the pins of one layer are below a number, where it is known of each part
abbrev pub below_layer : ℕ → Expr-F Bool → Bool
below_layer inputs Expr-F.Zero = true
below_layer inputs Expr-F.One = true
below_layer inputs (Expr-F.Pin pin) = nat_lt pin inputs
below_layer inputs (Expr-F.Not inner) = inner
below_layer inputs (Expr-F.And left right) = left && right
below_layer inputs (Expr-F.Or left right) = left && right
below_layer inputs (Expr-F.Xor left right) = left && right

-- whether every pin of an expression is below a number
abbrev pub pins_are_below : ℕ → Expr → Bool
pins_are_below inputs = fold-Expr Bool (below_layer inputs)

-- the value that a completion gives a pin
abbrev pub pin_value : ℕ → ℕ → Bool
pin_value completion pin = bit_at completion pin == 1

-- the truth table of so many inputs: the values of all completions in order
pub record Truths : Type 0 where
  pub inputs : ℕ
  pub values : List Bool

-- the value of a completion in a table
abbrev pub truth : Truths → ℕ → Bool
truth table completion = get_or table.values completion false

-- a table is that of an expression
pub record IsTableOf (table : Truths) (expr : Expr) (inputs : ℕ) : Type 0 where
  pub over : table.inputs ≡ inputs
  pub each : (c : ℕ) → c < 2 ^ inputs → truth table c ≡ value_of (pin_value c) expr

-- a completion gives a pin the value that it is known to have, if the mask says that it is known
abbrev pub Agrees : ℕ → ℕ → ℕ → ℕ → Type 0
Agrees mask value c pin = bit_at mask pin ≡ 1 → bit_at c pin ≡ bit_at value pin

-- it does so for each of so many inputs
abbrev pub AgreesBelow : ℕ → ℕ → ℕ → ℕ → Type 0
AgreesBelow mask value c inputs = (pin : ℕ) → pin < inputs → Agrees mask value c pin

-- a completion of known inputs: each input that is known has the value that it is known to have
abbrev pub Completes : Truths → ℕ → ℕ → ℕ → Type 0
Completes table mask value c = (c < 2 ^ table.inputs) × AgreesBelow mask value c table.inputs

-- every completion gives this value
abbrev pub Forces : Truths → ℕ → ℕ → Bool → Type 0
Forces table mask value v = (c : ℕ) → Completes table mask value c → truth table c ≡ v

-- some completion gives this value
abbrev pub TakesAt : Truths → ℕ → ℕ → Bool → ℕ → Type 0
TakesAt table mask value v c = Completes table mask value c × (truth table c ≡ v)

abbrev pub Takes : Truths → ℕ → ℕ → Bool → Type 0
Takes table mask value v = (c : ℕ) × TakesAt table mask value v c

-- some completion changes its value with a pin that is not known: with the pin at 0 it has another than with the
-- pin at 1
abbrev pub ChangesAt : Truths → ℕ → ℕ → ℕ → ℕ → Type 0
ChangesAt table mask value pin c =
    Completes table mask value c × (bit_at c pin ≡ 0) × (truth table c ≢ truth table (c + 2 ^ pin))

abbrev pub Changes : Truths → ℕ → ℕ → ℕ → Type 0
Changes table mask value pin = (c : ℕ) × ChangesAt table mask value pin c
