-- The grammar of a library's text (Liberty): groups `name (arguments) { .. }`, simple attributes `name : value ;` and
-- complex attributes `name (arguments) ;`; and the first syntax error of a text. That the `;` may be missing before
-- `}` and where a line ends, that values may be expressions, and the limit on levels are this project's own.
-- A text is one `library` group or more. Read `after`: what stands after a token that each part begins with.
use Rattle.std.specs.Prelude.{◌≡◌, ◌+◌, ◌-◌, ◌==◌, ℕ, Bool, true, false, List, [], ◌∷◌, map, codes, get_or, Option, Some, None, Result, Ok, Err, nat_lt, if◌then◌else◌}
use Rattle.std.specs.List.{list_any}
use Rattle.token_grammar.specs.declared.grammar.SyntaxError.{SyntaxError}
use Rattle.token_grammar.specs.declared.grammar.SyntaxError.TheVariants as error
use Rattle.token_grammar.specs.Texts.{ErrorIs, Table}
use Rattle.source_types.specs.declared.liberty_tokens.Gap.{Gap}
use Rattle.source_types.specs.declared.liberty_tokens.Gap.TheVariants.{Nothing, Blanks, LineEnd}
use Rattle.source_types.specs.declared.liberty_tokens.LibertySymbol.{LibertySymbol}
use Rattle.source_types.specs.declared.liberty_tokens.LibertySymbol.TheVariants as part
use Rattle.source_types.specs.declared.liberty_tokens.LibertyToken.{LibertyToken}
use Rattle.source_types.specs.declared.liberty_tokens.LibertyToken.TheVariants as token
use Rattle.text_model.specs.LastLine.{last_line_of}
use Rattle.library_model.specs.LibertyTokens.{Form, IsLexed, Token, bare, quoted, sign}
use Rattle.text_model.specs.Words.{same_text}

-- ---- kinds of token

abbrev pub gap_of : List ℕ → Gap
gap_of [] = Nothing
gap_of (b ∷ bs) = if list_any (λ c. c == 10) (b ∷ bs) then LineEnd else Blanks

-- the most groups that stand in one another
abbrev pub most_levels : ℕ
most_levels = 100

-- the byte of a sign, and 0 of any other token
abbrev pub sign_byte : Form → List ℕ → ℕ
sign_byte sign (b ∷ bs) = b
sign_byte _ text = 0

abbrev pub sign_of : Token → ℕ
sign_of t = sign_byte t.form t.text

-- the number of groups that are open after a token
abbrev pub level_after : Token → ℕ → ℕ
level_after t level = if sign_of t == 123 then level + 1 else (if sign_of t == 125 then level - 1 else level)

abbrev pub sign_kind : ℕ → Gap → ℕ → LibertyToken
sign_kind level gap b =
    if b == 40 then token.Open gap
    else (if b == 41 then token.Close
    else (if b == 123 then (if nat_lt level most_levels then token.Begin else token.TooDeep)
    else (if b == 125 then token.End
    else (if b == 59 then token.Semicolon
    else (if b == 44 then token.Comma
    else token.Colon)))))

abbrev pub bare_kind : Gap → List ℕ → LibertyToken
bare_kind gap text = if same_text text (codes "library") then token.Library gap else token.Word gap

abbrev pub kind_of_form : Form → ℕ → Gap → List ℕ → LibertyToken
kind_of_form bare level gap text = bare_kind gap text
kind_of_form quoted level gap text = token.Quoted gap
kind_of_form sign level gap text = sign_kind level gap (sign_byte sign text)

-- the kinds of tokens, before which so many groups are open
abbrev pub kinds : ℕ → List Token → List LibertyToken
kinds level [] = []
kinds level (t ∷ ts) = kind_of_form t.form level (gap_of t.gap) t.text ∷ kinds (level_after t level) ts

-- ---- the grammar

-- what stands after the name of a `library` group: the rest of the group, and further ones
abbrev pub library_group : Option (List LibertySymbol)
library_group = Some (part.Parenthesis ∷ part.Arguments ∷ part.Brace ∷ part.Statements ∷ part.GroupEnd ∷ part.MoreLibraries ∷ [])

-- what stands after a token that a part of a text begins with, or none where the part does not begin with it
abbrev pub after : LibertySymbol → LibertyToken → Option (List LibertySymbol)
after part.Libraries (token.Library gap) = library_group
after part.MoreLibraries (token.Library gap) = library_group
after part.Parenthesis (token.Open gap) = Some []
after part.Brace token.Begin = Some []
after part.GroupEnd token.End = Some []
-- arguments: names, numbers and quoted texts, parted by commas or blanks
after part.Arguments (token.Library gap) = Some (part.MoreArguments ∷ [])
after part.Arguments (token.Word gap) = Some (part.MoreArguments ∷ [])
after part.Arguments (token.Quoted gap) = Some (part.MoreArguments ∷ [])
after part.Arguments token.Close = Some []
after part.Argument (token.Library gap) = Some (part.MoreArguments ∷ [])
after part.Argument (token.Word gap) = Some (part.MoreArguments ∷ [])
after part.Argument (token.Quoted gap) = Some (part.MoreArguments ∷ [])
after part.MoreArguments token.Comma = Some (part.Argument ∷ [])
after part.MoreArguments token.Close = Some []
after part.MoreArguments (token.Library Nothing) = None
after part.MoreArguments (token.Word Nothing) = None
after part.MoreArguments (token.Quoted Nothing) = None
after part.MoreArguments (token.Library gap) = Some (part.MoreArguments ∷ [])
after part.MoreArguments (token.Word gap) = Some (part.MoreArguments ∷ [])
after part.MoreArguments (token.Quoted gap) = Some (part.MoreArguments ∷ [])
-- groups and attributes
after part.Statements (token.Library gap) = Some (part.AfterName ∷ [])
after part.Statements (token.Word gap) = Some (part.AfterName ∷ [])
after part.AfterName token.Colon = Some (part.Value ∷ [])
after part.AfterName (token.Open gap) = Some (part.Arguments ∷ part.AfterArguments ∷ [])
after part.AfterArguments token.Begin = Some (part.Statements ∷ part.GroupEnd ∷ part.Statements ∷ [])
after part.AfterArguments token.Semicolon = Some (part.Statements ∷ [])
after part.AfterArguments (token.Library LineEnd) = Some (part.AfterName ∷ [])
after part.AfterArguments (token.Word LineEnd) = Some (part.AfterName ∷ [])
after part.AttributeEnd token.Semicolon = Some (part.Statements ∷ [])
after part.AttributeEnd (token.Library LineEnd) = Some (part.AfterName ∷ [])
after part.AttributeEnd (token.Word LineEnd) = Some (part.AfterName ∷ [])
-- values: a quoted text, or names, numbers and parentheses on one line; a line may end within parentheses
after part.Value (token.Quoted gap) = Some (part.AttributeEnd ∷ [])
after part.Value (token.Library gap) = Some (part.Operands ∷ part.AttributeEnd ∷ [])
after part.Value (token.Word gap) = Some (part.Operands ∷ part.AttributeEnd ∷ [])
after part.Value (token.Open gap) = Some (part.Enclosed ∷ part.Operands ∷ part.AttributeEnd ∷ [])
after part.Operands (token.Library LineEnd) = None
after part.Operands (token.Word LineEnd) = None
after part.Operands (token.Open LineEnd) = None
after part.Operands (token.Library gap) = Some (part.Operands ∷ [])
after part.Operands (token.Word gap) = Some (part.Operands ∷ [])
after part.Operands (token.Open gap) = Some (part.Enclosed ∷ part.Operands ∷ [])
after part.Enclosed (token.Library gap) = Some (part.Enclosed ∷ [])
after part.Enclosed (token.Word gap) = Some (part.Enclosed ∷ [])
after part.Enclosed (token.Open gap) = Some (part.Enclosed ∷ part.Enclosed ∷ [])
after part.Enclosed token.Close = Some []
after _ _ = None

-- what may be nothing
abbrev pub may_be_nothing : LibertySymbol → Bool
may_be_nothing part.MoreLibraries = true
may_be_nothing part.Statements = true
may_be_nothing part.AfterArguments = true
may_be_nothing part.AttributeEnd = true
may_be_nothing part.Operands = true
may_be_nothing _ = false

abbrev pub liberty : Table LibertySymbol LibertyToken
liberty = record { next = after; nullable = may_be_nothing }

-- ---- whole texts

-- the line of the token at a place
abbrev pub line_at : List Token → ℕ → ℕ
line_at tokens place = get_or (map (λ (t : Token). t.line) tokens) place 1

-- the tokens of a text that is one of the grammar, or the line of its first syntax error: that of the first token
-- that no text of
-- the grammar has after those before it, or that of the last byte where the text ends too early, as it does in a
-- comment without end; an empty text has its first syntax error on line 1
abbrev pub formed : List ℕ → List Token → Bool → Option SyntaxError → Result (List Token) ℕ
formed text tokens unfinished (Some (error.Token place)) = Err (line_at tokens place)
formed text tokens unfinished (Some error.End) = Err (last_line_of text 1)
formed text tokens true None = Err (last_line_of text 1)
formed text tokens false None = Ok tokens

pub record IsFormed (text : List ℕ) (outcome : Result (List Token) ℕ) : Type 0 where
  pub tokens : List Token
  pub unfinished : Bool
  pub place : Option SyntaxError
  pub lexed : IsLexed text tokens unfinished
  pub error_is : ErrorIs liberty part.Libraries (kinds 0 tokens) place
  pub gives : outcome ≡ formed text tokens unfinished place
