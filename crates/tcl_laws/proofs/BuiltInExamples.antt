-- Built-in commands by example: values of variables, lists of objects, indexes, and the words of `if`.
use Rattle.std.proofs.Common.{◌≡◌, refl}
use Rattle.std.specs.Prelude.{ℕ, List, [], ◌∷◌, Option, Some, None, Ok, Err, codes}
use Rattle.sdc_base.specs.declared.fixed.NumberError.TheVariants.{NumberRange}
use Rattle.sdc_base.specs.Number as number
use Rattle.source_types.specs.declared.kinds.TclKind.TheVariants as kind
use Rattle.timing_types.specs.declared.objects.Object.TheVariants.{Clock}
use Rattle.timing_types.specs.declared.objects.Value.{Value}
use Rattle.timing_types.specs.declared.objects.Value.TheVariants as value
use Rattle.source_types.specs.declared.built_ins.Branches.{Branches}
use Rattle.tcl_model.specs.Branches.{branches_of, is_else, is_elseif, is_then}
use Rattle.tcl_model.specs.BuiltIns.{indexed, index_of, joined_objects, listed}
use Rattle.tcl_model.specs.Variables.{variable_value, with_variable}

abbrev a : List ℕ
a = codes "a"

abbrev one_clock : Value
one_clock = value.Objects (Clock 1 ∷ [])

-- ---- variables

variable_unknown : variable_value [] a ≡ Err kind.UnknownVariable
variable_unknown = refl

last_set_counts : variable_value (with_variable (with_variable [] a (value.Text (49 ∷ []))) a (value.Text (50 ∷ []))) a ≡ Ok (value.Text (50 ∷ []))
last_set_counts = refl

-- ---- lists

objects_joined : joined_objects (one_clock ∷ (value.Objects [] ∷ (one_clock ∷ []))) ≡ Some (Clock 1 ∷ (Clock 1 ∷ []))
objects_joined = refl

objects_with_text : joined_objects (one_clock ∷ (value.Text a ∷ [])) ≡ None
objects_with_text = refl

no_words : joined_objects [] ≡ None
no_words = refl

empty_list : listed None [] ≡ value.Text []
empty_list = refl

-- ---- indexes

abbrev two_items : List Value
two_items = value.Text a ∷ (one_clock ∷ [])

second_item : indexed two_items (index_of (codes "1")) ≡ Ok one_clock
unfolding number.read_number number.parts_of number.nearest
second_item = refl

past_the_end : indexed two_items (index_of (codes "2")) ≡ Ok (value.Text [])
unfolding number.read_number number.parts_of number.nearest
past_the_end = refl

before_the_first : indexed two_items (index_of (codes "-1")) ≡ Ok (value.Text [])
unfolding number.read_number number.parts_of number.nearest
before_the_first = refl

text_as_index : indexed two_items (index_of (codes "x")) ≡ Err kind.BadExpr
unfolding number.read_number number.parts_of number.nearest
text_as_index = refl

point_in_index : indexed two_items (index_of (codes "1.0")) ≡ Err kind.BadExpr
point_in_index = refl

exponent_in_index : indexed two_items (index_of (codes "1e20")) ≡ Err kind.BadExpr
exponent_in_index = refl

great_index : indexed two_items (index_of (codes "99999999999999999999")) ≡ Err (kind.Number NumberRange)
unfolding number.read_number number.parts_of number.nearest
great_index = refl

long_index : indexed two_items (index_of (codes "1234567890123456789012345678901")) ≡ Err kind.BadExpr
unfolding number.read_number number.parts_of number.nearest
long_index = refl

-- ---- the words of `if`

abbrev said : List (List ℕ) → Option (List ℕ) → Option Branches
said (condition ∷ body ∷ []) otherwise = Some (record { branches = record { condition = condition; body = body } ∷ []; otherwise = otherwise })
said words otherwise = None

otherwise_without_else : branches_of (codes "0" ∷ (a ∷ (codes "b" ∷ []))) ≡ said (codes "0" ∷ (a ∷ [])) (Some (codes "b"))
unfolding is_then is_elseif is_else
otherwise_without_else = refl

then_and_else : branches_of (codes "0" ∷ (codes "then" ∷ (a ∷ (codes "else" ∷ (codes "b" ∷ []))))) ≡ said (codes "0" ∷ (a ∷ [])) (Some (codes "b"))
unfolding is_then is_elseif is_else
then_and_else = refl

then_without_body : branches_of (codes "1" ∷ (codes "then" ∷ [])) ≡ None
unfolding is_then is_elseif is_else
then_without_body = refl

else_without_body : branches_of (codes "[foo]" ∷ (a ∷ (codes "else" ∷ []))) ≡ None
unfolding is_then is_elseif is_else
else_without_body = refl

word_after_the_last : branches_of (codes "1" ∷ (a ∷ (codes "b" ∷ (codes "c" ∷ [])))) ≡ None
unfolding is_then is_elseif is_else
word_after_the_last = refl
