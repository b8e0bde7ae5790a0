-- Numbers of things that are found by a name: of several things of one name the least number. This project's own.
use Rattle.std.specs.Prelude.{◌≡◌, ◌+◌, ℕ, Bool, Vec, List, [], ◌∷◌, length, min, nat_lt, if◌then◌else◌, Option, Some, None}
use Rattle.indexmap.specs.IndexMap.{get_by}
use Rattle.function_model.specs.FunctionText.{place_in}
use Rattle.text_model.specs.Words.{same_text}
use Rattle.bool_lanes.specs.declared.numbers.Numbers.{Numbers}

-- a key of the table is a name
abbrev pub is_name : {A : Type 0} → List ℕ → Vec ℕ A → Bool
is_name name key = same_text name key.items

-- two keys of the table are one name
abbrev pub is_same_key : {A : Type 0} → Vec ℕ A → Vec ℕ A → Bool
is_same_key key other = same_text key.items other.items

-- the number that is known of a name
abbrev pub number_at : Numbers → List ℕ → Option ℕ
number_at numbers name = get_by (is_name name) numbers.least

abbrev pub least : Option ℕ → Option ℕ → Option ℕ
least None other = other
least (Some number) None = Some number
least (Some number) (Some other) = Some (min number other)

-- the number of a thing, where it has a name
abbrev pub number_if : List ℕ → ℕ → List ℕ → Option ℕ
number_if own number name = if same_text own name then Some number else None

-- the least place of a name among names, the first of which stands at a place
abbrev pub place_from : ℕ → List (List ℕ) → List ℕ → Option ℕ
place_from place [] name = None
place_from place (own ∷ names) name = least (number_if own place name) (place_from (place + 1) names name)

-- the place of a name among names, if it is one of them
abbrev pub place_if : List (List ℕ) → List ℕ → Option ℕ
place_if names name = if nat_lt (place_in names name) (length names) then Some (place_in names name) else None

-- the numbers are the places of names
abbrev pub HasPlaces : Numbers → List (List ℕ) → Type 0
HasPlaces numbers names = (name : List ℕ) → number_at numbers name ≡ place_from 0 names name
