-- What the text of a cell's function means among the cell's names: its expression, or none where it has the name of a
-- state variable or of a pin that is no input, or the first cause to refuse it. The form is Liberty's, the limits and
-- the causes are this project's own.
-- The names are the inputs in order, then an empty one, then the state variables and the other pins. Read `meaning`.
use Rattle.std.specs.Prelude.{◌+◌, ◌++◌, ◌∷◌, ◌||◌, ◌&&◌, ◌==◌, ℕ, Bool, not, nat_le, nat_lt, if◌then◌else◌, List, [], length, drop, get_or, Option, Some, None, Result, Ok, Err}
use Rattle.std.specs.List.{list_any, prefix_len}
use Rattle.pin_types.specs.declared.functions.Expr.{Expr}
use Rattle.pin_types.specs.declared.functions.Expr.TheOpen.{Expr-F}
use Rattle.pin_types.specs.declared.functions.Expr.TheFolds.{fold-Expr}
use Rattle.source_types.specs.declared.kinds.LibKind.{LibKind}
use Rattle.source_types.specs.declared.kinds.LibKind.TheVariants.{FunctionForm, FunctionWide, UnknownPin}
use Rattle.function_model.specs.FunctionText.{expression}
use Rattle.text_model.specs.Words.{same_text}

-- the pins of an expression, from left to right
abbrev pub pins_layer : Expr-F (List ℕ) → List ℕ
pins_layer Expr-F.Zero = []
pins_layer Expr-F.One = []
pins_layer (Expr-F.Pin pin) = pin ∷ []
pins_layer (Expr-F.Not inner) = inner
pins_layer (Expr-F.And left right) = left ++ right
pins_layer (Expr-F.Or left right) = left ++ right
pins_layer (Expr-F.Xor left right) = left ++ right

abbrev pub pins_of : Expr → List ℕ
pins_of = fold-Expr (List ℕ) pins_layer

-- the number of inputs among names: those before the first empty name, or all where none is empty
abbrev pub inputs_in : List (List ℕ) → ℕ
inputs_in names = prefix_len (λ name. nat_lt 0 (length name)) names

-- a place is after all names
abbrev pub is_unknown : List (List ℕ) → ℕ → Bool
is_unknown names pin = nat_le (length names) pin

-- the name of a place is that of a state variable or of a pin that is no input
abbrev pub is_other : List (List ℕ) → ℕ → Bool
is_other names pin =
    nat_le (inputs_in names) pin
    || list_any (λ other. same_text other (get_or names pin [])) (drop (inputs_in names + 1) names)

-- these pins, and one more if it is an input and not among them
abbrev pub with_input : ℕ → List ℕ → ℕ → List ℕ
with_input inputs seen pin = if nat_lt pin inputs && not (list_any (λ one. one == pin) seen) then seen ++ pin ∷ [] else seen

-- these pins, and the inputs among others, each once
abbrev pub with_inputs : ℕ → List ℕ → List ℕ → List ℕ
with_inputs inputs seen [] = seen
with_inputs inputs seen (pin ∷ pins) = with_inputs inputs (with_input inputs seen pin) pins

-- the different inputs among pins
abbrev pub inputs_among : List (List ℕ) → List ℕ → List ℕ
inputs_among names pins = with_inputs (inputs_in names) [] pins

-- what an expression means among the cell's names, where its pins are given
abbrev pub meaning_of : List (List ℕ) → List ℕ → Expr → Result (Option Expr) LibKind
meaning_of names pins e =
    if list_any (is_unknown names) pins then Err UnknownPin
    else if nat_lt 10 (length (inputs_among names pins)) then Err FunctionWide
    else if list_any (is_other names) pins then Ok None
    else Ok (Some e)

-- the same, where the text is no function too
abbrev pub meaning_if : List (List ℕ) → Option Expr → Result (Option Expr) LibKind
meaning_if names None = Err FunctionForm
meaning_if names (Some e) = meaning_of names (pins_of e) e

-- what a text means among the cell's names
abbrev pub meaning : List (List ℕ) → List ℕ → Result (Option Expr) LibKind
meaning names text = if nat_lt 1024 (length text) then Err FunctionForm else meaning_if names (expression names text)
