-- The grammar of what is assigned and connected in structural Verilog (IEEE 1364-2005, syntax of nets, constants,
-- concatenations and instances, as far as it is read here). It reads: a symbol that begins with a token is that token
-- with these symbols after it.
use Rattle.std.specs.Prelude.{List, [], ◌∷◌, Option, Some, None}
use Rattle.source_types.specs.declared.verilog_tokens.VerilogSymbol.{VerilogSymbol}
use Rattle.source_types.specs.declared.verilog_tokens.VerilogSymbol.TheVariants.{Token, Assignments, Left, LeftParts, Select, SelectEnd, Index, Bits, Parts, Instances, Connections, Connected, OrderedConnections, NamedConnections}
use Rattle.source_types.specs.declared.verilog_tokens.VerilogToken.{VerilogToken}
use Rattle.source_types.specs.declared.verilog_tokens.VerilogToken.TheVariants as kind

-- what stands after a token
abbrev pub After : Type 0
After = Option (List VerilogSymbol)

-- ---- numbers and bits

abbrev pub bound : VerilogToken → After
bound kind.Size = Some []
bound kind.Number = Some []
bound _ = None

abbrev pub assignments : VerilogToken → After
assignments kind.Comma = Some (Left ∷ Token kind.Equals ∷ Bits ∷ Assignments ∷ [])
assignments kind.Semicolon = Some []
assignments _ = None

abbrev pub left : VerilogToken → After
left kind.Name = Some (Select ∷ [])
left kind.OpenBrace = Some (Left ∷ LeftParts ∷ [])
left _ = None

abbrev pub left_parts : VerilogToken → After
left_parts kind.Comma = Some (Left ∷ LeftParts ∷ [])
left_parts kind.CloseBrace = Some []
left_parts _ = None

abbrev pub select : VerilogToken → After
select kind.OpenBracket = Some (Index ∷ SelectEnd ∷ [])
select _ = None

abbrev pub select_end : VerilogToken → After
select_end kind.Colon = Some (Index ∷ Token kind.CloseBracket ∷ [])
select_end kind.CloseBracket = Some []
select_end _ = None

abbrev pub index : VerilogToken → After
index kind.LargeNumber = Some []
index k = bound k

abbrev pub bits : VerilogToken → After
bits kind.Name = Some (Select ∷ [])
bits kind.Size = Some (Token kind.Base ∷ Token kind.Digits ∷ [])
bits kind.OpenBrace = Some (Bits ∷ Parts ∷ [])
bits _ = None

abbrev pub parts : VerilogToken → After
parts kind.Comma = Some (Bits ∷ Parts ∷ [])
parts kind.CloseBrace = Some []
parts _ = None

-- ---- instances

abbrev pub instances : VerilogToken → After
instances kind.Comma = Some (Token kind.Name ∷ Token kind.Open ∷ Connections ∷ Instances ∷ [])
instances kind.Semicolon = Some []
instances _ = None

-- none, named ones, or ordered ones; where a comma stands first, the first of them is empty
abbrev pub connections : VerilogToken → After
connections kind.Close = Some []
connections kind.Dot = Some (Token kind.Name ∷ Token kind.Open ∷ Connected ∷ Token kind.Close ∷ NamedConnections ∷ [])
connections kind.Comma = Some (Connected ∷ OrderedConnections ∷ [])
connections kind.Name = Some (Select ∷ OrderedConnections ∷ [])
connections kind.Size = Some (Token kind.Base ∷ Token kind.Digits ∷ OrderedConnections ∷ [])
connections kind.OpenBrace = Some (Bits ∷ Parts ∷ OrderedConnections ∷ [])
connections _ = None

abbrev pub ordered_connections : VerilogToken → After
ordered_connections kind.Comma = Some (Connected ∷ OrderedConnections ∷ [])
ordered_connections kind.Close = Some []
ordered_connections _ = None

abbrev pub named_connections : VerilogToken → After
named_connections kind.Comma = Some (Token kind.Dot ∷ Token kind.Name ∷ Token kind.Open ∷ Connected ∷ Token kind.Close ∷ NamedConnections ∷ [])
named_connections kind.Close = Some []
named_connections _ = None
