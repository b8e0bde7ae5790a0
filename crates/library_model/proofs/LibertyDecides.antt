-- The next token decides in the grammar of libraries: each symbol and kinds of token are tried.
use Rattle.std.proofs.Common.{◌≡◌, Bool, true, false, List, [], ◌∷◌, None, refl}
use Rattle.std.specs.Prelude.{◌&&◌, not, is_some}
use Rattle.std.specs.List.{list_all}
use Rattle.std.proofs.lemmas.Bool.{not-true}
use Rattle.source_types.specs.declared.liberty_tokens.Gap.TheVariants.{Nothing, Blanks, LineEnd}
use Rattle.source_types.specs.declared.liberty_tokens.LibertySymbol.{LibertySymbol}
use Rattle.source_types.specs.declared.liberty_tokens.LibertySymbol.TheVariants as part
use Rattle.source_types.specs.declared.liberty_tokens.LibertyToken.{LibertyToken}
use Rattle.source_types.specs.declared.liberty_tokens.LibertyToken.TheVariants as token
use Rattle.text_model.proofs.ListFacts.{Each, each}
use Rattle.library_model.specs.LibertyGrammar.{liberty}
use Rattle.token_grammar.proofs.Samples.{productive}
use Rattle.token_grammar.specs.Deciding.{Decides, is_covered}
use Rattle.token_grammar.specs.Machine.{error_of}

-- ---- the tokens that may stand after each part of a text

-- the end of a group
abbrev is_end : LibertyToken → Bool
is_end token.End = true
is_end _ = false

-- a statement, or the end of a group
abbrev in_group : LibertyToken → Bool
in_group (token.Library gap) = true
in_group (token.Word gap) = true
in_group token.End = true
in_group _ = false

-- the end of an attribute: `;`, the first name on a line, or the end of a group
abbrev ends_attribute : LibertyToken → Bool
ends_attribute (token.Library LineEnd) = true
ends_attribute (token.Word LineEnd) = true
ends_attribute token.Semicolon = true
ends_attribute token.End = true
ends_attribute _ = false

abbrev after_arguments : LibertyToken → Bool
after_arguments token.Begin = true
after_arguments t = ends_attribute t

abbrev begins_arguments : LibertyToken → Bool
begins_arguments (token.Library gap) = true
begins_arguments (token.Word gap) = true
begins_arguments (token.Quoted gap) = true
begins_arguments token.Close = true
begins_arguments _ = false

abbrev after_enclosed : LibertyToken → Bool
after_enclosed (token.Library gap) = true
after_enclosed (token.Word gap) = true
after_enclosed (token.Open gap) = true
after_enclosed token.Close = true
after_enclosed token.Semicolon = true
after_enclosed token.End = true
after_enclosed _ = false

abbrev pub follow : LibertySymbol → LibertyToken → Bool
follow part.Libraries t = false
follow part.MoreLibraries t = false
follow part.Parenthesis t = begins_arguments t
follow part.Arguments t = after_arguments t
follow part.Argument t = after_arguments t
follow part.MoreArguments t = after_arguments t
follow part.Brace t = in_group t
follow part.Statements t = is_end t
follow part.AfterName t = is_end t
follow part.AfterArguments t = is_end t
follow part.Value t = is_end t
follow part.Operands t = ends_attribute t
follow part.Enclosed t = after_enclosed t
follow part.AttributeEnd t = is_end t
follow part.GroupEnd t = in_group t

-- ---- all tokens and all symbols

abbrev tokens : List LibertyToken
tokens =
    token.Library Nothing
    ∷ token.Library Blanks
    ∷ token.Library LineEnd
    ∷ token.Word Nothing
    ∷ token.Word Blanks
    ∷ token.Word LineEnd
    ∷ token.Quoted Nothing
    ∷ token.Quoted Blanks
    ∷ token.Quoted LineEnd
    ∷ token.Open Nothing
    ∷ token.Open Blanks
    ∷ token.Open LineEnd
    ∷ token.Close
    ∷ token.Begin
    ∷ token.TooDeep
    ∷ token.End
    ∷ token.Colon
    ∷ token.Semicolon
    ∷ token.Comma
    ∷ []

abbrev symbols : List LibertySymbol
symbols =
    part.Libraries
    ∷ part.MoreLibraries
    ∷ part.Parenthesis
    ∷ part.Arguments
    ∷ part.Argument
    ∷ part.MoreArguments
    ∷ part.Brace
    ∷ part.Statements
    ∷ part.AfterName
    ∷ part.AfterArguments
    ∷ part.Value
    ∷ part.Operands
    ∷ part.Enclosed
    ∷ part.AttributeEnd
    ∷ part.GroupEnd
    ∷ []

each_token : (test : LibertyToken → Bool) → Each test tokens → (kind : LibertyToken) → test kind ≡ true
each_token test h (token.Library Nothing) = h.0
each_token test h (token.Library Blanks) = h.1.0
each_token test h (token.Library LineEnd) = h.1.1.0
each_token test h (token.Word Nothing) = h.1.1.1.0
each_token test h (token.Word Blanks) = h.1.1.1.1.0
each_token test h (token.Word LineEnd) = h.1.1.1.1.1.0
each_token test h (token.Quoted Nothing) = h.1.1.1.1.1.1.0
each_token test h (token.Quoted Blanks) = h.1.1.1.1.1.1.1.0
each_token test h (token.Quoted LineEnd) = h.1.1.1.1.1.1.1.1.0
each_token test h (token.Open Nothing) = h.1.1.1.1.1.1.1.1.1.0
each_token test h (token.Open Blanks) = h.1.1.1.1.1.1.1.1.1.1.0
each_token test h (token.Open LineEnd) = h.1.1.1.1.1.1.1.1.1.1.1.0
each_token test h token.Close = h.1.1.1.1.1.1.1.1.1.1.1.1.0
each_token test h token.Begin = h.1.1.1.1.1.1.1.1.1.1.1.1.1.0
each_token test h token.TooDeep = h.1.1.1.1.1.1.1.1.1.1.1.1.1.1.0
each_token test h token.End = h.1.1.1.1.1.1.1.1.1.1.1.1.1.1.1.0
each_token test h token.Colon = h.1.1.1.1.1.1.1.1.1.1.1.1.1.1.1.1.0
each_token test h token.Semicolon = h.1.1.1.1.1.1.1.1.1.1.1.1.1.1.1.1.1.0
each_token test h token.Comma = h.1.1.1.1.1.1.1.1.1.1.1.1.1.1.1.1.1.1.0

each_symbol : (test : LibertySymbol → Bool) → Each test symbols → (symbol : LibertySymbol) → test symbol ≡ true
each_symbol test h part.Libraries = h.0
each_symbol test h part.MoreLibraries = h.1.0
each_symbol test h part.Parenthesis = h.1.1.0
each_symbol test h part.Arguments = h.1.1.1.0
each_symbol test h part.Argument = h.1.1.1.1.0
each_symbol test h part.MoreArguments = h.1.1.1.1.1.0
each_symbol test h part.Brace = h.1.1.1.1.1.1.0
each_symbol test h part.Statements = h.1.1.1.1.1.1.1.0
each_symbol test h part.AfterName = h.1.1.1.1.1.1.1.1.0
each_symbol test h part.AfterArguments = h.1.1.1.1.1.1.1.1.1.0
each_symbol test h part.Value = h.1.1.1.1.1.1.1.1.1.1.0
each_symbol test h part.Operands = h.1.1.1.1.1.1.1.1.1.1.1.0
each_symbol test h part.Enclosed = h.1.1.1.1.1.1.1.1.1.1.1.1.0
each_symbol test h part.AttributeEnd = h.1.1.1.1.1.1.1.1.1.1.1.1.1.0
each_symbol test h part.GroupEnd = h.1.1.1.1.1.1.1.1.1.1.1.1.1.1.0

all_tokens : (test : LibertyToken → Bool) → list_all test tokens ≡ true → (kind : LibertyToken) → test kind ≡ true
all_tokens test is kind = each_token test (each test tokens is) kind

all_symbols : (test : LibertySymbol → Bool) → list_all test symbols ≡ true → (symbol : LibertySymbol) → test symbol ≡ true
all_symbols test is symbol = each_symbol test (each test symbols is) symbol

-- ---- no nullable symbol begins with a token that may follow it

abbrev is_apart : LibertySymbol → LibertyToken → Bool
is_apart symbol kind = not (liberty.nullable symbol && (follow symbol kind && is_some (liberty.next symbol kind)))

are_apart : list_all (λ symbol. list_all (is_apart symbol) tokens) symbols ≡ true
are_apart = refl

apart : (symbol : LibertySymbol) (kind : LibertyToken) → (liberty.nullable symbol && (follow symbol kind && is_some (liberty.next symbol kind))) ≡ false
apart symbol kind =
    not-true (liberty.nullable symbol && (follow symbol kind && is_some (liberty.next symbol kind)))
    (all_tokens (is_apart symbol) (all_symbols (λ s. list_all (is_apart s) tokens) are_apart symbol) kind)

-- ---- what may follow covers the right sides

abbrev covers : LibertySymbol → LibertyToken → LibertyToken → Bool
covers symbol kind after = is_covered liberty follow (liberty.next symbol kind) after (follow symbol after)

are_covered : list_all (λ symbol. list_all (λ kind. list_all (covers symbol kind) tokens) tokens) symbols ≡ true
are_covered = refl

covered : (symbol : LibertySymbol) (kind after : LibertyToken) → covers symbol kind after ≡ true
covered symbol kind after =
    all_tokens (covers symbol kind)
    (all_tokens (λ k. list_all (covers symbol k) tokens)
    (all_symbols (λ s. list_all (λ k. list_all (covers s k) tokens) tokens) are_covered symbol) kind)
    after

-- ---- each symbol derives something

abbrev sample : LibertySymbol → List LibertyToken
sample part.Libraries = token.Library Nothing ∷ token.Open Nothing ∷ token.Close ∷ token.Begin ∷ token.End ∷ []
sample part.MoreLibraries = []
sample part.Parenthesis = token.Open Nothing ∷ []
sample part.Arguments = token.Close ∷ []
sample part.Argument = token.Word Nothing ∷ token.Close ∷ []
sample part.MoreArguments = token.Close ∷ []
sample part.Brace = token.Begin ∷ []
sample part.Statements = []
sample part.AfterName = token.Open Nothing ∷ token.Close ∷ []
sample part.AfterArguments = []
sample part.Value = token.Word Nothing ∷ []
sample part.Operands = []
sample part.Enclosed = token.Close ∷ []
sample part.AttributeEnd = []
sample part.GroupEnd = token.End ∷ []

taken : (symbol : LibertySymbol) → error_of liberty symbol (sample symbol) ≡ None
taken part.Libraries = refl
taken part.MoreLibraries = refl
taken part.Parenthesis = refl
taken part.Arguments = refl
taken part.Argument = refl
taken part.MoreArguments = refl
taken part.Brace = refl
taken part.Statements = refl
taken part.AfterName = refl
taken part.AfterArguments = refl
taken part.Value = refl
taken part.Operands = refl
taken part.Enclosed = refl
taken part.AttributeEnd = refl
taken part.GroupEnd = refl

pub decides : Decides liberty follow
decides = record {
  productive = λ symbol. productive liberty sample taken symbol;
  apart = apart;
  covered = covered;
}
