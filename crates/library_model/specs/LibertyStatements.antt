-- The groups and attributes of a library's text (Liberty), from the tokens of a text of the grammar: each with its
-- level, its arguments or its value. It reads: where each begins; what its own tokens say; what stands in a group.
use Rattle.std.specs.Prelude.{◌+◌, ◌-◌, ◌==◌, ◌||◌, ◌&&◌, ℕ, Bool, true, false, not, List, [], ◌∷◌, ◌++◌, filter, map, nat_lt, if◌then◌else◌, Option, Some, None}
use Rattle.std.specs.List.{filter_map, flat_map, last_or, list_any}
use Rattle.library_model.specs.LibertyGrammar.{level_after, sign_of}
use Rattle.library_model.specs.LibertyTokens.{Form, Token, bare, quoted, sign}
use Rattle.text_model.specs.Words.{same_text}

-- ---- where groups and attributes begin

-- a group or an attribute: the number of groups around it, its number in the text, its name, and the tokens after the
-- name up to the next group or attribute
pub record Statement : Type 0 where
  pub level : ℕ
  pub number : ℕ
  pub name : Token
  pub rest : List Token

-- where a token stands: after which sign, if it is one; in how many parentheses and groups; after how many statements
pub record Place : Type 0 where
  pub sign : ℕ
  pub parentheses : ℕ
  pub level : ℕ
  pub number : ℕ

abbrev pub first_place : Place
first_place = record { sign = 59; parentheses = 0; level = 0; number = 0 }

abbrev pub is_bare : Form → Bool
is_bare bare = true
is_bare quoted = false
is_bare sign = false

-- a token is the first one on its line
abbrev pub is_first_on_line : Token → Bool
is_first_on_line t = list_any (λ b. b == 10) t.gap

-- a name begins a group or an attribute: after `{`, `}` or `;`, and where it is the first one on its line, but not in
-- parentheses and not after a colon
abbrev pub begins : Place → Token → Bool
begins place t =
    is_bare t.form
    && (place.sign == 59 || place.sign == 123 || place.sign == 125
    || (is_first_on_line t && place.parentheses == 0 && not (place.sign == 58)))

abbrev pub parentheses_after : Token → ℕ → ℕ
parentheses_after t n = if sign_of t == 40 then n + 1 else (if sign_of t == 41 then n - 1 else n)

abbrev pub place_after : Place → Token → Place
place_after place t = record {
  sign = sign_of t;
  parentheses = parentheses_after t place.parentheses;
  level = level_after t place.level;
  number = if begins place t then place.number + 1 else place.number;
}

-- the tokens before the first statement, and the statements
abbrev pub statement_from : Place → Token → List Token × List Statement → List Token × List Statement
statement_from place t cut_after =
    if begins place t
    then ([], record { level = place.level; number = place.number; name = t; rest = cut_after.0 } ∷ cut_after.1)
    else (t ∷ cut_after.0, cut_after.1)

abbrev pub cut : Place → List Token → List Token × List Statement
cut place [] = ([], [])
cut place (t ∷ ts) = statement_from place t (cut (place_after place t) ts)

abbrev pub statements_of : List Token → List Statement
statements_of tokens = (cut first_place tokens).1

-- ---- what a statement says

abbrev pub front_of : (Token → Bool) → List Token → List Token
front_of test [] = []
front_of test (t ∷ ts) = if test t then t ∷ front_of test ts else []

-- the text of a value: of its tokens, with what stands between them
abbrev pub value_text : List Token → List ℕ
value_text [] = []
value_text (t ∷ ts) = t.text ++ flat_map (λ (u : Token). u.gap ++ u.text) ts

-- the value of a simple attribute, given the tokens after its name: what stands after its colon, up to `;` or `}`, or
-- to the last of these tokens
abbrev pub value_in : List Token → Option (List ℕ)
value_in [] = None
value_in (t ∷ ts) =
    if sign_of t == 58 then Some (value_text (front_of (λ u. not (sign_of u == 59 || sign_of u == 125)) ts)) else None

-- the arguments of a group or of a complex attribute: the names, numbers and quoted texts before `)`
abbrev pub arguments_in : List Token → List (List ℕ)
arguments_in tokens =
    map (λ (t : Token). t.text) (filter (λ t. sign_of t == 0) (front_of (λ t. not (sign_of t == 41)) tokens))

-- it is a group of a name
abbrev pub is_group : List ℕ → Statement → Bool
is_group name s = list_any (λ t. sign_of t == 123) s.rest && same_text s.name.text name

abbrev pub arguments : Statement → List (List ℕ)
arguments s = arguments_in s.rest

-- the value of a simple attribute of a name
abbrev pub value_named : List ℕ → Statement → Option (List ℕ)
value_named name s = if same_text s.name.text name then value_in s.rest else None

-- ---- what stands in a group

-- a statement, and those in it
pub record Member : Type 0 where
  pub statement : Statement
  pub inside : List Statement

-- of the statements after one of a level: those that stand in it
abbrev pub within : ℕ → List Statement → List Statement
within level [] = []
within level (s ∷ ss) = if nat_lt level s.level then s ∷ within level ss else []

-- the statements that stand directly at a level, each with those in it
abbrev pub members : ℕ → List Statement → List Member
members level [] = []
members level (s ∷ ss) =
    if s.level == level then record { statement = s; inside = within level ss } ∷ members level ss else members level ss

-- the groups of a name among members
abbrev pub groups : List ℕ → List Member → List Member
groups name = filter (λ (m : Member). is_group name m.statement)

-- the values of the simple attributes of a name among members; the last one counts
abbrev pub values : List ℕ → List Member → List (List ℕ)
values name = filter_map (λ (m : Member). value_named name m.statement)

abbrev pub last_value : List ℕ → List Member → Option (List ℕ)
last_value name ms = last_or None (values name ms)
