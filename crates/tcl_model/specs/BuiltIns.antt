-- The built-in commands that only look at values (Tcl): `list`, `concat`, `lindex`, `llength`. Lists of objects, which
-- they take whole and item by item, are this project's own. It reads: by the values of the words after the name, what
-- is given or the first fault; a wrong number of words is WrongArgs. `text_of` is what a value is as a text.
use Rattle.std.specs.Prelude.{◌≡◌, ◌++◌, ◌/◌, ◌^◌, ◌==◌, ◌||◌, ℕ, Bool, List, [], ◌∷◌, length, map, Option, Some, None, Result, Ok, Err, pos, int_lt, slice_get, unsigned_abs, if◌then◌else◌}
use Rattle.std.specs.Fmt.{decimal}
use Rattle.std.specs.List.{list_any}
use Rattle.std.specs.Option.{option_map}
use Rattle.sdc_base.specs.Number.{Number, read_number}
use Rattle.source_types.specs.declared.kinds.TclKind.{TclKind}
use Rattle.source_types.specs.declared.kinds.TclKind.TheVariants.{BadExpr, WrongArgs}
use Rattle.timing_types.specs.declared.objects.Object.{Object}
use Rattle.timing_types.specs.declared.objects.Value.{Value}
use Rattle.timing_types.specs.declared.objects.Value.TheVariants as value
use Rattle.tcl_model.specs.ExpressionValue.{expected}
use Rattle.tcl_model.specs.ListItems.{Lists}
use Rattle.tcl_model.specs.ListText.{list_text}

-- an outcome of a rule of Tcl
abbrev pub Outcome : Type 0 → Type 0
Outcome A = Result A TclKind

-- what a rule makes of a value, or the fault that stands in its place
abbrev pub on_value : {A B : Type 0} → (A → Outcome B) → Outcome A → Outcome B
on_value rule (Ok given) = rule given
on_value rule (Err kind) = Err kind

-- the empty text
abbrev pub no_text : Value
no_text = value.Text []

-- ---- items of values

-- texts as values, and an object as a list of one
abbrev pub text_values : List (List ℕ) → List Value
text_values texts = map value.Text texts

abbrev pub one_object : Object → Value
one_object object = value.Objects (object ∷ [])

-- the items of a value, or the first fault of its list
abbrev pub HasItems : Value → Outcome (List Value) → Type 0
HasItems (value.Text text) outcome =
    (items : Outcome (List (List ℕ))) × Lists text items × (outcome ≡ on_value (λ texts. Ok (text_values texts)) items)
HasItems (value.Objects objects) outcome = outcome ≡ Ok (map one_object objects)

-- the items of texts that follow others
abbrev pub HaveMore : (Outcome (List (List ℕ)) → Type 0) → Outcome (List (List ℕ)) → Outcome (List (List ℕ)) → Type 0
HaveMore Others (Ok items) outcome =
    (others : Outcome (List (List ℕ))) × Others others × (outcome ≡ on_value (λ more. Ok (items ++ more)) others)
HaveMore Others (Err kind) outcome = outcome ≡ Err kind

-- the items of all texts, in order, or the first fault
abbrev pub HaveItems : List (List ℕ) → Outcome (List (List ℕ)) → Type 0
HaveItems [] outcome = outcome ≡ Ok []
HaveItems (text ∷ texts) outcome =
    (items : Outcome (List (List ℕ))) × Lists text items × HaveMore (HaveItems texts) items outcome

-- the objects of values that are lists of objects alone
abbrev pub objects_of : List Value → Option (List Object)
objects_of [] = Some []
objects_of (value.Text text ∷ values) = None
objects_of (value.Objects objects ∷ values) = option_map (λ others. objects ++ others) (objects_of values)

-- one or more lists of objects alone, joined
abbrev pub joined_objects : List Value → Option (List Object)
joined_objects [] = None
joined_objects (first ∷ values) = objects_of (first ∷ values)

-- ---- the commands

-- `list a..`: the objects, or the list of the texts
abbrev pub listed : Option (List Object) → List (List ℕ) → Value
listed (Some objects) texts = value.Objects objects
listed None texts = value.Text (list_text texts)

abbrev pub list_made : (Value → List ℕ) → List Value → Value
list_made text_of arguments = listed (joined_objects arguments) (map text_of arguments)

-- `concat a..`: the objects, or the list of the items of the texts
abbrev pub Concatenates : Option (List Object) → List (List ℕ) → Outcome Value → Type 0
Concatenates (Some objects) texts outcome = outcome ≡ Ok (value.Objects objects)
Concatenates None texts outcome =
    (items : Outcome (List (List ℕ))) × HaveItems texts items × (outcome ≡ on_value (λ all. Ok (value.Text (list_text all))) items)

abbrev pub Concats : (Value → List ℕ) → List Value → Outcome Value → Type 0
Concats text_of arguments outcome = Concatenates (joined_objects arguments) (map text_of arguments) outcome

-- a text has a byte that a number has only where it is not whole: a point, `e` or `E`
abbrev pub is_unwhole : List ℕ → Bool
is_unwhole text = list_any (λ b. b == 46 || b == 101 || b == 69) text

-- the whole number that is an index
abbrev pub index_of : List ℕ → Result Number TclKind
index_of text = if is_unwhole text then Err BadExpr else expected (read_number text)

-- an item, or the empty text past either end
abbrev pub item_or_empty : Option Value → Value
item_or_empty (Some item) = item
item_or_empty None = no_text

abbrev pub item_at : List Value → Number → Value
item_at items index =
    if int_lt index.scaled (pos 0) then no_text else item_or_empty (slice_get items (unsigned_abs index.scaled / 10 ^ 9))

abbrev pub indexed : List Value → Result Number TclKind → Result Value TclKind
indexed items (Ok index) = Ok (item_at items index)
indexed items (Err kind) = Err kind

-- `lindex list i`: a fault of the list stands before one of the index
abbrev pub Indexes : (Value → List ℕ) → List Value → Outcome Value → Type 0
Indexes text_of [] outcome = outcome ≡ Err WrongArgs
Indexes text_of (list ∷ []) outcome = outcome ≡ Err WrongArgs
Indexes text_of (list ∷ index ∷ []) outcome =
    (items : Outcome (List Value)) × HasItems list items × (outcome ≡ on_value (λ found. indexed found (index_of (text_of index))) items)
Indexes text_of (list ∷ index ∷ third ∷ others) outcome = outcome ≡ Err WrongArgs

-- `llength list`
abbrev pub Counts : List Value → Outcome Value → Type 0
Counts [] outcome = outcome ≡ Err WrongArgs
Counts (list ∷ []) outcome =
    (items : Outcome (List Value)) × HasItems list items × (outcome ≡ on_value (λ found. Ok (value.Text (decimal (length found)))) items)
Counts (list ∷ second ∷ others) outcome = outcome ≡ Err WrongArgs
