-- The variables of a script (Tcl), in the order in which they were first set. A variable has a text, or a list of
-- objects, which is this project's own.
use Rattle.std.specs.Prelude.{ℕ, List, [], ◌∷◌, Option, Some, None, Result, Ok, Err, if◌then◌else◌}
use Rattle.source_types.specs.declared.kinds.TclKind.{TclKind}
use Rattle.source_types.specs.declared.kinds.TclKind.TheVariants.{UnknownVariable}
use Rattle.timing_types.specs.declared.objects.Value.{Value}
use Rattle.text_model.specs.Words.{same_text}

pub record Variable : Type 0 where
  pub name : List ℕ
  pub value : Value

-- the variables, with one set: one that is there keeps its place, and a new one goes last
abbrev pub with_variable : List Variable → List ℕ → Value → List Variable
with_variable [] name value = record { name = name; value = value } ∷ []
with_variable (variable ∷ variables) name value =
    if same_text name variable.name then record { name = variable.name; value = value } ∷ variables
    else variable ∷ with_variable variables name value

-- what a variable has, if it is set
abbrev pub variable_in : List Variable → List ℕ → Option Value
variable_in [] name = None
variable_in (variable ∷ variables) name =
    if same_text name variable.name then Some variable.value else variable_in variables name

-- one that is not set is a fault
abbrev pub set_value : Option Value → Result Value TclKind
set_value None = Err UnknownVariable
set_value (Some value) = Ok value

-- what a variable gives
abbrev pub variable_value : List Variable → List ℕ → Result Value TclKind
variable_value variables name = set_value (variable_in variables name)
