-- The next token decides in the grammar of structural Verilog: each symbol and kinds of token are tried.
use Rattle.std.proofs.Common.{◌≡◌, Bool, true, false, List, [], ◌∷◌, None, refl}
use Rattle.std.specs.Prelude.{◌&&◌, ◌||◌, Some, not, is_some, if◌then◌else◌}
use Rattle.std.specs.List.{list_all}
use Rattle.std.proofs.lemmas.Bool.{not-true}
use Rattle.sdc_base.proofs.CaseFacts.{by_bool}
use Rattle.source_types.specs.declared.verilog_tokens.VerilogSymbol.{VerilogSymbol}
use Rattle.source_types.specs.declared.verilog_tokens.VerilogSymbol.TheVariants as part
use Rattle.source_types.specs.declared.verilog_tokens.VerilogToken.{VerilogToken}
use Rattle.source_types.specs.declared.verilog_tokens.VerilogToken.TheVariants as token
use Rattle.text_model.proofs.ListFacts.{Each, all_pass, each}
use Rattle.netlist_model.specs.VerilogGrammar.{verilog}
use Rattle.netlist_model.specs.VerilogKinds.{same_kind}
use Rattle.token_grammar.proofs.Samples.{productive}
use Rattle.token_grammar.specs.Deciding.{Decides, is_covered}
use Rattle.token_grammar.specs.Machine.{error_of}

-- ---- the tokens that may stand after what may be nothing, and after what ends with it

-- after what is connected
abbrev after_connected : VerilogToken → Bool
after_connected token.Comma = true
after_connected token.Close = true
after_connected _ = false

-- after a net or its select
abbrev after_net : VerilogToken → Bool
after_net token.Comma = true
after_net token.Semicolon = true
after_net token.Equals = true
after_net token.Close = true
after_net token.CloseBrace = true
after_net _ = false

abbrev pub follow : VerilogSymbol → VerilogToken → Bool
follow part.Source t = false
follow part.Left t = after_net t
follow part.Select t = after_net t
follow part.Bits t = after_net t
follow part.Connected t = after_connected t
follow _ t = true

-- ---- all tokens and all symbols

abbrev tokens : List VerilogToken
tokens =
    token.Module
    ∷ token.EndModule
    ∷ token.Input
    ∷ token.Output
    ∷ token.Inout
    ∷ token.Wire
    ∷ token.Tri
    ∷ token.Supply0
    ∷ token.Supply1
    ∷ token.Assign
    ∷ token.Name
    ∷ token.UnlistedName
    ∷ token.Size
    ∷ token.Number
    ∷ token.LargeNumber
    ∷ token.Base
    ∷ token.Digits
    ∷ token.Open
    ∷ token.Close
    ∷ token.OpenBracket
    ∷ token.CloseBracket
    ∷ token.OpenBrace
    ∷ token.CloseBrace
    ∷ token.DeepBrace
    ∷ token.Comma
    ∷ token.Colon
    ∷ token.Semicolon
    ∷ token.Dot
    ∷ token.Equals
    ∷ token.Other
    ∷ []

-- the symbols that are no tokens
abbrev symbols : List VerilogSymbol
symbols =
    part.Source
    ∷ part.Header
    ∷ part.Ports
    ∷ part.ListedPorts
    ∷ part.DeclaredPort
    ∷ part.NamedPort
    ∷ part.DeclaredPorts
    ∷ part.NextPort
    ∷ part.Statements
    ∷ part.PortStatements
    ∷ part.Declaration
    ∷ part.PortDeclaration
    ∷ part.Names
    ∷ part.Bound
    ∷ part.Assignments
    ∷ part.Left
    ∷ part.LeftParts
    ∷ part.Select
    ∷ part.SelectEnd
    ∷ part.Index
    ∷ part.Bits
    ∷ part.Parts
    ∷ part.Instances
    ∷ part.Connections
    ∷ part.Connected
    ∷ part.OrderedConnections
    ∷ part.NamedConnections
    ∷ []

each_token : (test : VerilogToken → Bool) → Each test tokens → (kind : VerilogToken) → test kind ≡ true
each_token test h token.Module = h.0
each_token test h token.EndModule = h.1.0
each_token test h token.Input = h.1.1.0
each_token test h token.Output = h.1.1.1.0
each_token test h token.Inout = h.1.1.1.1.0
each_token test h token.Wire = h.1.1.1.1.1.0
each_token test h token.Tri = h.1.1.1.1.1.1.0
each_token test h token.Supply0 = h.1.1.1.1.1.1.1.0
each_token test h token.Supply1 = h.1.1.1.1.1.1.1.1.0
each_token test h token.Assign = h.1.1.1.1.1.1.1.1.1.0
each_token test h token.Name = h.1.1.1.1.1.1.1.1.1.1.0
each_token test h token.UnlistedName = h.1.1.1.1.1.1.1.1.1.1.1.0
each_token test h token.Size = h.1.1.1.1.1.1.1.1.1.1.1.1.0
each_token test h token.Number = h.1.1.1.1.1.1.1.1.1.1.1.1.1.0
each_token test h token.LargeNumber = h.1.1.1.1.1.1.1.1.1.1.1.1.1.1.0
each_token test h token.Base = h.1.1.1.1.1.1.1.1.1.1.1.1.1.1.1.0
each_token test h token.Digits = h.1.1.1.1.1.1.1.1.1.1.1.1.1.1.1.1.0
each_token test h token.Open = h.1.1.1.1.1.1.1.1.1.1.1.1.1.1.1.1.1.0
each_token test h token.Close = h.1.1.1.1.1.1.1.1.1.1.1.1.1.1.1.1.1.1.0
each_token test h token.OpenBracket = h.1.1.1.1.1.1.1.1.1.1.1.1.1.1.1.1.1.1.1.0
each_token test h token.CloseBracket = h.1.1.1.1.1.1.1.1.1.1.1.1.1.1.1.1.1.1.1.1.0
each_token test h token.OpenBrace = h.1.1.1.1.1.1.1.1.1.1.1.1.1.1.1.1.1.1.1.1.1.0
each_token test h token.CloseBrace = h.1.1.1.1.1.1.1.1.1.1.1.1.1.1.1.1.1.1.1.1.1.1.0
each_token test h token.DeepBrace = h.1.1.1.1.1.1.1.1.1.1.1.1.1.1.1.1.1.1.1.1.1.1.1.0
each_token test h token.Comma = h.1.1.1.1.1.1.1.1.1.1.1.1.1.1.1.1.1.1.1.1.1.1.1.1.0
each_token test h token.Colon = h.1.1.1.1.1.1.1.1.1.1.1.1.1.1.1.1.1.1.1.1.1.1.1.1.1.0
each_token test h token.Semicolon = h.1.1.1.1.1.1.1.1.1.1.1.1.1.1.1.1.1.1.1.1.1.1.1.1.1.1.0
each_token test h token.Dot = h.1.1.1.1.1.1.1.1.1.1.1.1.1.1.1.1.1.1.1.1.1.1.1.1.1.1.1.0
each_token test h token.Equals = h.1.1.1.1.1.1.1.1.1.1.1.1.1.1.1.1.1.1.1.1.1.1.1.1.1.1.1.1.0
each_token test h token.Other = h.1.1.1.1.1.1.1.1.1.1.1.1.1.1.1.1.1.1.1.1.1.1.1.1.1.1.1.1.1.0

all_tokens : (test : VerilogToken → Bool) → list_all test tokens ≡ true → (kind : VerilogToken) → test kind ≡ true
all_tokens test is kind = each_token test (each test tokens is) kind

each_symbol : (test : VerilogSymbol → Bool) → ((t : VerilogToken) → test (part.Token t) ≡ true) → Each test symbols → (symbol : VerilogSymbol) → test symbol ≡ true
each_symbol test of_token h (part.Token t) = of_token t
each_symbol test of_token h part.Source = h.0
each_symbol test of_token h part.Header = h.1.0
each_symbol test of_token h part.Ports = h.1.1.0
each_symbol test of_token h part.ListedPorts = h.1.1.1.0
each_symbol test of_token h part.DeclaredPort = h.1.1.1.1.0
each_symbol test of_token h part.NamedPort = h.1.1.1.1.1.0
each_symbol test of_token h part.DeclaredPorts = h.1.1.1.1.1.1.0
each_symbol test of_token h part.NextPort = h.1.1.1.1.1.1.1.0
each_symbol test of_token h part.Statements = h.1.1.1.1.1.1.1.1.0
each_symbol test of_token h part.PortStatements = h.1.1.1.1.1.1.1.1.1.0
each_symbol test of_token h part.Declaration = h.1.1.1.1.1.1.1.1.1.1.0
each_symbol test of_token h part.PortDeclaration = h.1.1.1.1.1.1.1.1.1.1.1.0
each_symbol test of_token h part.Names = h.1.1.1.1.1.1.1.1.1.1.1.1.0
each_symbol test of_token h part.Bound = h.1.1.1.1.1.1.1.1.1.1.1.1.1.0
each_symbol test of_token h part.Assignments = h.1.1.1.1.1.1.1.1.1.1.1.1.1.1.0
each_symbol test of_token h part.Left = h.1.1.1.1.1.1.1.1.1.1.1.1.1.1.1.0
each_symbol test of_token h part.LeftParts = h.1.1.1.1.1.1.1.1.1.1.1.1.1.1.1.1.0
each_symbol test of_token h part.Select = h.1.1.1.1.1.1.1.1.1.1.1.1.1.1.1.1.1.0
each_symbol test of_token h part.SelectEnd = h.1.1.1.1.1.1.1.1.1.1.1.1.1.1.1.1.1.1.0
each_symbol test of_token h part.Index = h.1.1.1.1.1.1.1.1.1.1.1.1.1.1.1.1.1.1.1.0
each_symbol test of_token h part.Bits = h.1.1.1.1.1.1.1.1.1.1.1.1.1.1.1.1.1.1.1.1.0
each_symbol test of_token h part.Parts = h.1.1.1.1.1.1.1.1.1.1.1.1.1.1.1.1.1.1.1.1.1.0
each_symbol test of_token h part.Instances = h.1.1.1.1.1.1.1.1.1.1.1.1.1.1.1.1.1.1.1.1.1.1.0
each_symbol test of_token h part.Connections = h.1.1.1.1.1.1.1.1.1.1.1.1.1.1.1.1.1.1.1.1.1.1.1.0
each_symbol test of_token h part.Connected = h.1.1.1.1.1.1.1.1.1.1.1.1.1.1.1.1.1.1.1.1.1.1.1.1.0
each_symbol test of_token h part.OrderedConnections = h.1.1.1.1.1.1.1.1.1.1.1.1.1.1.1.1.1.1.1.1.1.1.1.1.1.0
each_symbol test of_token h part.NamedConnections = h.1.1.1.1.1.1.1.1.1.1.1.1.1.1.1.1.1.1.1.1.1.1.1.1.1.1.0

all_symbols : (test : VerilogSymbol → Bool) → ((t : VerilogToken) → test (part.Token t) ≡ true) → list_all test symbols ≡ true → (symbol : VerilogSymbol) → test symbol ≡ true
all_symbols test of_token is symbol = each_symbol test of_token (each test symbols is) symbol

-- ---- no nullable symbol begins with a token that may follow it

abbrev is_apart : VerilogSymbol → VerilogToken → Bool
is_apart symbol kind = not (verilog.nullable symbol && (follow symbol kind && is_some (verilog.next symbol kind)))

are_apart : list_all (λ symbol. list_all (is_apart symbol) tokens) symbols ≡ true
are_apart = refl

apart : (symbol : VerilogSymbol) (kind : VerilogToken) → (verilog.nullable symbol && (follow symbol kind && is_some (verilog.next symbol kind))) ≡ false
apart symbol kind =
    not-true (verilog.nullable symbol && (follow symbol kind && is_some (verilog.next symbol kind)))
    (all_tokens (is_apart symbol) (all_symbols (λ s. list_all (is_apart s) tokens) (λ t. refl) are_apart symbol) kind)

-- ---- what may follow covers the right sides

abbrev covers : VerilogSymbol → VerilogToken → VerilogToken → Bool
covers symbol kind after = is_covered verilog follow (verilog.next symbol kind) after (follow symbol after)

are_covered : list_all (λ symbol. list_all (λ kind. list_all (covers symbol kind) tokens) tokens) symbols ≡ true
are_covered = refl

-- after a token stands nothing
token_covered : (t kind after : VerilogToken) → covers (part.Token t) kind after ≡ true
token_covered t kind after =
    by_bool (λ b. is_covered verilog follow (if b then Some [] else None) after true ≡ true) (same_kind t kind) (λ is. refl) (λ is. refl)

all_covered : (symbol : VerilogSymbol) → list_all (λ kind. list_all (covers symbol kind) tokens) tokens ≡ true
all_covered symbol =
    all_symbols (λ s. list_all (λ kind. list_all (covers s kind) tokens) tokens)
    (λ t. all_pass (λ kind. list_all (covers (part.Token t) kind) tokens) (λ kind. all_pass (covers (part.Token t) kind) (token_covered t kind) tokens) tokens)
    are_covered symbol

covered : (symbol : VerilogSymbol) (kind after : VerilogToken) → covers symbol kind after ≡ true
covered symbol kind after =
    all_tokens (covers symbol kind) (all_tokens (λ k. list_all (covers symbol k) tokens) (all_covered symbol) kind) after

-- ---- each symbol derives something

abbrev sample : VerilogSymbol → List VerilogToken
sample (part.Token t) = t ∷ []
sample part.Source = []
sample part.Header = token.Semicolon ∷ token.EndModule ∷ []
sample part.Ports = token.Close ∷ token.Semicolon ∷ token.EndModule ∷ []
sample part.ListedPorts = token.Close ∷ token.Semicolon ∷ token.EndModule ∷ []
sample part.DeclaredPort = token.Name ∷ token.Close ∷ token.Semicolon ∷ token.EndModule ∷ []
sample part.NamedPort = token.Name ∷ token.Close ∷ token.Semicolon ∷ token.EndModule ∷ []
sample part.DeclaredPorts = token.Close ∷ token.Semicolon ∷ token.EndModule ∷ []
sample part.NextPort = token.Name ∷ token.Close ∷ token.Semicolon ∷ token.EndModule ∷ []
sample part.Statements = token.EndModule ∷ []
sample part.PortStatements = token.EndModule ∷ []
sample part.Declaration = token.Name ∷ token.Semicolon ∷ []
sample part.PortDeclaration = token.Name ∷ token.Semicolon ∷ []
sample part.Names = token.Semicolon ∷ []
sample part.Bound = token.Number ∷ []
sample part.Assignments = token.Semicolon ∷ []
sample part.Left = token.Name ∷ []
sample part.LeftParts = token.CloseBrace ∷ []
sample part.Select = []
sample part.SelectEnd = token.CloseBracket ∷ []
sample part.Index = token.Number ∷ []
sample part.Bits = token.Name ∷ []
sample part.Parts = token.CloseBrace ∷ []
sample part.Instances = token.Semicolon ∷ []
sample part.Connections = token.Close ∷ []
sample part.Connected = []
sample part.OrderedConnections = token.Close ∷ []
sample part.NamedConnections = token.Close ∷ []

token_taken : (t : VerilogToken) → error_of verilog (part.Token t) (t ∷ []) ≡ None
token_taken token.Module = refl
token_taken token.EndModule = refl
token_taken token.Input = refl
token_taken token.Output = refl
token_taken token.Inout = refl
token_taken token.Wire = refl
token_taken token.Tri = refl
token_taken token.Supply0 = refl
token_taken token.Supply1 = refl
token_taken token.Assign = refl
token_taken token.Name = refl
token_taken token.UnlistedName = refl
token_taken token.Size = refl
token_taken token.Number = refl
token_taken token.LargeNumber = refl
token_taken token.Base = refl
token_taken token.Digits = refl
token_taken token.Open = refl
token_taken token.Close = refl
token_taken token.OpenBracket = refl
token_taken token.CloseBracket = refl
token_taken token.OpenBrace = refl
token_taken token.CloseBrace = refl
token_taken token.DeepBrace = refl
token_taken token.Comma = refl
token_taken token.Colon = refl
token_taken token.Semicolon = refl
token_taken token.Dot = refl
token_taken token.Equals = refl
token_taken token.Other = refl

taken : (symbol : VerilogSymbol) → error_of verilog symbol (sample symbol) ≡ None
taken (part.Token t) = token_taken t
taken part.Source = refl
taken part.Header = refl
taken part.Ports = refl
taken part.ListedPorts = refl
taken part.DeclaredPort = refl
taken part.NamedPort = refl
taken part.DeclaredPorts = refl
taken part.NextPort = refl
taken part.Statements = refl
taken part.PortStatements = refl
taken part.Declaration = refl
taken part.PortDeclaration = refl
taken part.Names = refl
taken part.Bound = refl
taken part.Assignments = refl
taken part.Left = refl
taken part.LeftParts = refl
taken part.Select = refl
taken part.SelectEnd = refl
taken part.Index = refl
taken part.Bits = refl
taken part.Parts = refl
taken part.Instances = refl
taken part.Connections = refl
taken part.Connected = refl
taken part.OrderedConnections = refl
taken part.NamedConnections = refl

pub decides : Decides verilog follow
decides = record {
  productive = λ symbol. productive verilog sample taken symbol;
  apart = apart;
  covered = covered;
}
