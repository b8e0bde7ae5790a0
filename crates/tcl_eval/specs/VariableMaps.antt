-- The variables of a script, as a map in order of insertion has them. This project's own.
use Rattle.std.specs.Prelude.{List, String, map, string_bytes}
use Rattle.timing_types.specs.declared.objects.Value.{Value}
use Rattle.tcl_model.specs.Variables.{Variable}

abbrev pub variable_of : {A : Type 0} → String A × Value → Variable
variable_of entry = record { name = string_bytes entry.0; value = entry.1 }

abbrev pub variables_of : {A : Type 0} → List (String A × Value) → List Variable
variables_of entries = map variable_of entries
