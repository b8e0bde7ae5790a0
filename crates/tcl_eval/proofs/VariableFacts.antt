-- The variables of a script as a map in order of insertion has them.
use Rattle.std.proofs.Common.{◌≡◌, ℕ, Bool, true, false, cond, List, [], ◌∷◌, Some, String, string_bytes, refl, ap}
use Rattle.std.specs.Map.{lookup}
use Rattle.std.specs.Str.{bytes_eq}
use Rattle.std.specs.Prelude.{string_eq}
use Rattle.indexmap.specs.IndexMap.{insert_entry}
use Rattle.timing_types.specs.declared.objects.Value.{Value}
use Rattle.tcl_model.specs.Variables.{variable_in, with_variable}
use Rattle.text_model.specs.Words.{same_text}
use Rattle.tcl_eval.specs.VariableMaps.{variable_of, variables_of}

pub found : {A : Type 0} (entries : List (String A × Value)) (name : List ℕ) → lookup (λ k. bytes_eq name (string_bytes k)) entries ≡ variable_in (variables_of entries) name
found [] name = refl
found (entry ∷ entries) name = ap (λ rest. cond (same_text name (string_bytes entry.0)) (Some entry.1) rest) (found entries name)

pub set : {A : Type 0} (entries : List (String A × Value)) (name : String A) (v : Value) → variables_of (insert_entry string_eq entries name v) ≡ with_variable (variables_of entries) (string_bytes name) v
set [] name v = refl
set (entry ∷ entries) name v = by_same (same_text (string_bytes name) (string_bytes entry.0)) (set entries name v) where
  by_same : (same : Bool) → variables_of (insert_entry string_eq entries name v) ≡ with_variable (variables_of entries) (string_bytes name) v
      → variables_of (cond same ((entry.0, v) ∷ entries) (entry ∷ insert_entry string_eq entries name v)) ≡ cond same (record { name = string_bytes entry.0; value = v } ∷ variables_of entries) (variable_of entry ∷ with_variable (variables_of entries) (string_bytes name) v)
  by_same true e = refl
  by_same false e = ap (λ rest. variable_of entry ∷ rest) e
