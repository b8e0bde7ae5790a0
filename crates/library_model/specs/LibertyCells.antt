-- What the pins of a library cell are (Liberty: `cell`, `pin`, `direction`, `function`, `ff`, `latch` and their banks).
-- Which cells are left out is this project's own rule. A cell is a group of the text with what stands in it.
-- It reads: the names of a cell; the directions of its pins; their functions.
use Rattle.std.specs.Prelude.{◌+◌, ◌||◌, ◌&&◌, ℕ, Bool, true, false, not, List, [], ◌∷◌, ◌++◌, filter, length, map, take, codes, get_or, nat_lt, if◌then◌else◌, Option, Some, None, option_map, Result, Ok, Err}
use Rattle.std.specs.List.{flat_map, list_any}
use Rattle.pin_types.specs.declared.functions.Expr.{Expr}
use Rattle.pin_types.specs.declared.functions.Expr.TheFolds.{fold-Expr}
use Rattle.pin_types.specs.declared.functions.Expr.TheOpen.{Expr-F}
use Rattle.pin_types.specs.declared.functions.Expr.TheVariants as expr
use Rattle.source_types.specs.declared.kinds.LibKind.{LibKind}
use Rattle.source_types.specs.declared.kinds.LibKind.TheVariants.{FunctionWide}
use Rattle.pin_types.specs.declared.library_cells.Direction.{Direction}
use Rattle.pin_types.specs.declared.library_cells.Direction.TheVariants as direction
use Rattle.pin_types.specs.declared.library_cells.LibPin.{LibPin}
use Rattle.function_model.specs.FunctionMeaning as function
use Rattle.library_model.specs.LibertyStatements.{Member, Statement, arguments, groups, is_group, last_value, members}
use Rattle.library_model.specs.LibertyTokens.{parts}
use Rattle.text_model.specs.Words.{same_text}

-- ---- names

-- the first of some texts, and the empty one where there is none
abbrev pub first_text : List (List ℕ) → List ℕ
first_text texts = get_or texts 0 []

abbrev pub name_of : Member → List ℕ
name_of cell = first_text (arguments cell.statement)

abbrev pub is_named : List ℕ → Bool
is_named name = nat_lt 0 (length name)

-- the words of a text, after a word that has begun
abbrev pub ended_word : List ℕ → List (List ℕ)
ended_word word = if is_named word then word ∷ [] else []

abbrev pub words_after : List ℕ → List ℕ → List (List ℕ)
words_after word [] = ended_word word
words_after word (b ∷ bs) = if parts b then ended_word word ++ words_after [] bs else words_after (word ++ b ∷ []) bs

abbrev pub words_of : List ℕ → List (List ℕ)
words_of text = words_after [] text

-- a pin of a cell: each name of a `pin` group is one
pub record NamedPin : Type 0 where
  pub name : List ℕ
  pub group : Member

abbrev pub pin_groups : Member → List Member
pin_groups cell = groups (codes "pin") (members 2 cell.inside)

abbrev pub named_pin : Member → List ℕ → NamedPin
named_pin group name = record { name = name; group = group }

abbrev pub pins : Member → List NamedPin
pins cell = flat_map (λ (group : Member). map (named_pin group) (arguments group.statement)) (pin_groups cell)

abbrev pub pin_names : Member → List (List ℕ)
pin_names cell = map (λ (pin : NamedPin). pin.name) (pins cell)

-- the state variables of a cell: the first two names of each `ff`, `latch` and bank
abbrev pub has_state : Statement → Bool
has_state s = is_group (codes "ff") s || is_group (codes "latch") s || is_group (codes "ff_bank") s || is_group (codes "latch_bank") s

abbrev pub state_variables : Member → List (List ℕ)
state_variables cell =
    flat_map (λ (group : Member). take 2 (arguments group.statement)) (filter (λ (group : Member). has_state group.statement) (members 2 cell.inside))

-- a cell whose pins are not read: one with a `bus` or `bundle`, or with more than 60,000 pins and state variables
abbrev pub is_bus : Statement → Bool
is_bus s = is_group (codes "bus") s || is_group (codes "bundle") s

abbrev pub is_left_out : Member → Bool
is_left_out cell =
    list_any (λ (member : Member). is_bus member.statement) (members 2 cell.inside)
    || nat_lt 60000 (length (pins cell) + length (state_variables cell))

-- ---- directions and functions

abbrev pub direction_named : Option (List ℕ) → Direction
direction_named None = direction.Other
direction_named (Some text) =
    if same_text text (codes "input") then direction.Input
    else (if same_text text (codes "output") then direction.Output
    else direction.Other)

abbrev pub direction_of : NamedPin → Direction
direction_of pin = direction_named (last_value (codes "direction") (members 3 pin.group.inside))

abbrev pub is_input : Direction → Bool
is_input direction.Input = true
is_input direction.Output = false
is_input direction.Other = false

-- an input that a function can name
abbrev pub is_named_input : NamedPin → Bool
is_named_input pin = is_input (direction_of pin) && is_named pin.name

abbrev pub other_names : List NamedPin → List (List ℕ)
other_names ps = map (λ (pin : NamedPin). pin.name) (filter (λ pin. not (is_input (direction_of pin))) ps)

-- the names that functions are read with: the inputs, an empty name, the state variables and the other pins; an input,
-- variable or pin whose name is empty is left out
abbrev pub function_names : Member → List (List ℕ)
function_names cell =
    map (λ (pin : NamedPin). pin.name) (filter is_named_input (pins cell))
    ++ ([] ∷ filter is_named (state_variables cell ++ other_names (pins cell)))

-- the places of the inputs that a function can name, the first pin standing at a place
abbrev pub input_places : ℕ → List NamedPin → List ℕ
input_places place [] = []
input_places place (pin ∷ ps) =
    if is_named_input pin then place ∷ input_places (place + 1) ps else input_places (place + 1) ps

-- an expression over inputs, over places of pins
abbrev pub placed_layer : List ℕ → Expr-F Expr → Expr
placed_layer places Expr-F.Zero = expr.Zero
placed_layer places Expr-F.One = expr.One
placed_layer places (Expr-F.Pin input) = expr.Pin (get_or places input 0)
placed_layer places (Expr-F.Not inner) = expr.Not inner
placed_layer places (Expr-F.And left right) = expr.And left right
placed_layer places (Expr-F.Or left right) = expr.Or left right
placed_layer places (Expr-F.Xor left right) = expr.Xor left right

abbrev pub placed : List ℕ → Expr → Expr
placed places = fold-Expr Expr (placed_layer places)

-- what the text of a function means in a cell
abbrev pub function_meaning : Member → List ℕ → Result (Option Expr) LibKind
function_meaning cell text = function.meaning (function_names cell) text

abbrev pub function_if : Member → Result (Option Expr) LibKind → Option Expr
function_if cell (Ok e) = option_map (placed (input_places 0 (pins cell))) e
function_if cell (Err kind) = None

abbrev pub function_text : Member → Option (List ℕ)
function_text group = last_value (codes "function") (members 3 group.inside)

abbrev pub function_of : Member → Option (List ℕ) → Option Expr
function_of cell None = None
function_of cell (Some text) = function_if cell (function_meaning cell text)

abbrev pub lib_pin : Member → NamedPin → LibPin
lib_pin cell pin = record {
  name = pin.name;
  direction = direction_of pin;
  function = function_of cell (function_text pin.group);
}

-- a `pin` group has a function of too many inputs
abbrev pub is_too_wide : Result (Option Expr) LibKind → Bool
is_too_wide (Ok e) = false
is_too_wide (Err FunctionWide) = true
is_too_wide (Err kind) = false

abbrev pub is_wide_text : Member → Option (List ℕ) → Bool
is_wide_text cell None = false
is_wide_text cell (Some text) = is_too_wide (function_meaning cell text)

abbrev pub has_wide_function : Member → Bool
has_wide_function cell = list_any (λ group. is_wide_text cell (function_text group)) (pin_groups cell)
