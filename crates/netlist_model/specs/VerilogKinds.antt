-- What a token is by what stands before it: a name in a port declaration whose module does not list it, and a brace
-- after 100 that are open, are tokens that no text of the grammar has. This project's own rule for these two. It
-- reads: a token has its own kind, or one of these two, and leads to what holds after it.
use Rattle.std.specs.Prelude.{◌==◌, ◌+◌, ◌-◌, ℕ, Bool, List, [], ◌∷◌, nat_lt, if◌then◌else◌}
use Rattle.source_types.specs.declared.verilog_tokens.VerilogToken.{VerilogToken}
use Rattle.source_types.specs.declared.verilog_tokens.VerilogToken.TheVariants as kind
use Rattle.netlist_model.specs.VerilogTokens.{Token}
use Rattle.text_model.specs.Words.{is_among}

-- a number for each kind
abbrev pub kind_number : VerilogToken → ℕ
kind_number kind.Module = 0
kind_number kind.EndModule = 1
kind_number kind.Input = 2
kind_number kind.Output = 3
kind_number kind.Inout = 4
kind_number kind.Wire = 5
kind_number kind.Tri = 6
kind_number kind.Supply0 = 7
kind_number kind.Supply1 = 8
kind_number kind.Assign = 9
kind_number kind.Name = 10
kind_number kind.UnlistedName = 11
kind_number kind.Size = 12
kind_number kind.Number = 13
kind_number kind.LargeNumber = 14
kind_number kind.Base = 15
kind_number kind.Digits = 16
kind_number kind.Open = 17
kind_number kind.Close = 18
kind_number kind.OpenBracket = 19
kind_number kind.CloseBracket = 20
kind_number kind.OpenBrace = 21
kind_number kind.CloseBrace = 22
kind_number kind.DeepBrace = 23
kind_number kind.Comma = 24
kind_number kind.Colon = 25
kind_number kind.Semicolon = 26
kind_number kind.Dot = 27
kind_number kind.Equals = 28
kind_number kind.Other = 29

-- two kinds are one
abbrev pub same_kind : VerilogToken → VerilogToken → Bool
same_kind j k = kind_number j == kind_number k

-- the part of a module that a token stands in: before its name, in its header, in a statement, in a port declaration
pub data Part : Type 0 where
  naming : Part
  header : Part
  statement : Part
  declaring : Part

-- what the tokens before one tell: the part of the module, the names in its header, and the number of open braces
pub record Context : Type 0 where
  pub part : Part
  pub listed : List (List ℕ)
  pub braces : ℕ

abbrev pub at_start : Context
at_start = record { part = statement; listed = []; braces = 0 }

-- the part after a name, a semicolon, and a direction
abbrev pub after_name : Part → Part
after_name naming = header
after_name part = part

abbrev pub after_semicolon : Part → Part
after_semicolon header = statement
after_semicolon declaring = statement
after_semicolon part = part

abbrev pub after_direction : Part → Part
after_direction statement = declaring
after_direction part = part

-- the part after a kind of token
abbrev pub part_after : Part → VerilogToken → Part
part_after part kind.Module = naming
part_after part kind.Name = after_name part
part_after part kind.Semicolon = after_semicolon part
part_after part kind.Input = after_direction part
part_after part kind.Output = after_direction part
part_after part kind.Inout = after_direction part
part_after part k = part

-- the names of a header after one more name, where it stands there
abbrev pub with_name : Part → List (List ℕ) → List ℕ → List (List ℕ)
with_name header listed name = name ∷ listed
with_name part listed name = listed

-- the names of a header so far, after a kind of token with this text; none where a module begins
abbrev pub listed_after : Part → List (List ℕ) → List ℕ → VerilogToken → List (List ℕ)
listed_after part listed text kind.Module = []
listed_after part listed text kind.Name = with_name part listed text
listed_after part listed text k = listed

abbrev pub braces_after : ℕ → VerilogToken → ℕ
braces_after count kind.OpenBrace = count + 1
braces_after count kind.CloseBrace = count - 1
braces_after count k = count

abbrev pub context_after : Context → Token → Context
context_after context token = record {
  part = part_after context.part token.kind;
  listed = listed_after context.part context.listed token.text token.kind;
  braces = braces_after context.braces token.kind;
}

-- a name, or, in a port declaration, one that is none of the header's
abbrev pub name_kind : Part → List (List ℕ) → List ℕ → VerilogToken
name_kind declaring listed name = if is_among listed name then kind.Name else kind.UnlistedName
name_kind part listed name = kind.Name

-- an opening brace after so many that are open
abbrev pub brace_kind : ℕ → VerilogToken
brace_kind count = if nat_lt count 100 then kind.OpenBrace else kind.DeepBrace

abbrev pub kind_in : Context → List ℕ → VerilogToken → VerilogToken
kind_in context text kind.Name = name_kind context.part context.listed text
kind_in context text kind.OpenBrace = brace_kind context.braces
kind_in context text k = k

-- the kinds of tokens in a row
abbrev pub kinds_from : Context → List Token → List VerilogToken
kinds_from context [] = []
kinds_from context (token ∷ tokens) = kind_in context token.text token.kind ∷ kinds_from (context_after context token) tokens

abbrev pub kinds_of : List Token → List VerilogToken
kinds_of tokens = kinds_from at_start tokens
