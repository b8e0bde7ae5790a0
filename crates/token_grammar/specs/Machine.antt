-- The stack machine of a table: the symbols that are still to come of a text, and what a token leaves of them. This
-- project's own. `error_of` is what it finds in a text; a law says that this is the first syntax error of the text.
use Rattle.std.specs.Prelude.{◌+◌, ◌++◌, ℕ, List, [], ◌∷◌, Option, Some, None, if◌then◌else◌}
use Rattle.std.specs.List.{list_all}
use Rattle.token_grammar.specs.declared.grammar.SyntaxError.{SyntaxError}
use Rattle.token_grammar.specs.declared.grammar.SyntaxError.TheVariants.{Token, End}
use Rattle.token_grammar.specs.Texts.{Table}

-- what a symbol that begins with a token leaves, or else what those after it leave
abbrev pub begun_or : {Symbol : Type 0} → Option (List Symbol) → List Symbol → Option (List Symbol) → Option (List Symbol)
begun_or (Some after) symbols other = Some (after ++ symbols)
begun_or None symbols other = other

-- the symbols that are to come after a token, or none where they do not begin with it
abbrev pub advanced : {Symbol Kind : Type 0} → Table Symbol Kind → List Symbol → Kind → Option (List Symbol)
advanced table [] kind = None
advanced table (symbol ∷ symbols) kind =
    begun_or (table.next symbol kind) symbols (if table.nullable symbol then advanced table symbols kind else None)

-- at the end of the tokens: the symbols that are to come may all be nothing
abbrev pub at_end : {Symbol Kind : Type 0} → Table Symbol Kind → List Symbol → Option SyntaxError
at_end table symbols = if list_all table.nullable symbols then None else Some End

-- the first syntax error in tokens that these symbols are to derive, the first token standing at a place
abbrev pub error_from : {Symbol Kind : Type 0} → Table Symbol Kind → List Symbol → ℕ → List Kind → Option SyntaxError
error_from table symbols place [] = at_end table symbols
error_from table symbols place (kind ∷ kinds) =
    elim (advanced table symbols kind) [ None ↦ Some (Token place) | Some left ↦ error_from table left (place + 1) kinds ]

-- the first syntax error in tokens that are to be a text of a symbol
abbrev pub error_of : {Symbol Kind : Type 0} → Table Symbol Kind → Symbol → List Kind → Option SyntaxError
error_of table start kinds = error_from table (start ∷ []) 0 kinds
