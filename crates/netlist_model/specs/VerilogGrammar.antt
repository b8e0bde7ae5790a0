-- The grammar of structural Verilog (IEEE 1364-2005, syntax of modules, declarations, instances and continuous
-- assignments, as far as it is read here), as a table. It reads: a symbol that begins with a token is that token with
-- these symbols after it; a source, a select and what is connected may be nothing.
use Rattle.std.specs.Prelude.{Bool, true, false, [], ◌∷◌, Some, None, if◌then◌else◌}
use Rattle.source_types.specs.declared.verilog_tokens.VerilogSymbol.{VerilogSymbol}
use Rattle.source_types.specs.declared.verilog_tokens.VerilogSymbol.TheVariants.{Token, Source, Header, Ports, ListedPorts, DeclaredPort, NamedPort, DeclaredPorts, NextPort, Statements, PortStatements, Declaration, PortDeclaration, Names, Bound, Assignments, Left, LeftParts, Select, SelectEnd, Index, Bits, Parts, Instances, Connections, Connected, OrderedConnections, NamedConnections}
use Rattle.source_types.specs.declared.verilog_tokens.VerilogToken.{VerilogToken}
use Rattle.source_types.specs.declared.verilog_tokens.VerilogToken.TheVariants as kind
use Rattle.netlist_model.specs.VerilogBits.{After, assignments, bits, bound, connections, index, instances, left, left_parts, named_connections, ordered_connections, parts, select, select_end}
use Rattle.netlist_model.specs.VerilogKinds.{same_kind}
use Rattle.token_grammar.specs.Texts.{Table}

-- ---- modules and their ports

abbrev pub source : VerilogToken → After
source kind.Module = Some (Token kind.Name ∷ Header ∷ Source ∷ [])
source _ = None

abbrev pub header : VerilogToken → After
header kind.Semicolon = Some (Statements ∷ [])
header kind.Open = Some (Ports ∷ [])
header _ = None

-- an empty list, a list of names, or one of declarations
abbrev pub ports : VerilogToken → After
ports kind.Close = Some (Token kind.Semicolon ∷ Statements ∷ [])
ports kind.Name = Some (ListedPorts ∷ [])
ports kind.Input = Some (DeclaredPort ∷ [])
ports kind.Output = Some (DeclaredPort ∷ [])
ports kind.Inout = Some (DeclaredPort ∷ [])
ports _ = None

abbrev pub listed_ports : VerilogToken → After
listed_ports kind.Comma = Some (Token kind.Name ∷ ListedPorts ∷ [])
listed_ports kind.Close = Some (Token kind.Semicolon ∷ PortStatements ∷ [])
listed_ports _ = None

abbrev pub named_port : VerilogToken → After
named_port kind.OpenBracket = Some (Bound ∷ Token kind.Colon ∷ Bound ∷ Token kind.CloseBracket ∷ Token kind.Name ∷ DeclaredPorts ∷ [])
named_port kind.Name = Some (DeclaredPorts ∷ [])
named_port _ = None

abbrev pub declared_port : VerilogToken → After
declared_port kind.Wire = Some (NamedPort ∷ [])
declared_port kind.Tri = Some (NamedPort ∷ [])
declared_port k = named_port k

abbrev pub declared_ports : VerilogToken → After
declared_ports kind.Comma = Some (NextPort ∷ [])
declared_ports kind.Close = Some (Token kind.Semicolon ∷ Statements ∷ [])
declared_ports _ = None

abbrev pub next_port : VerilogToken → After
next_port kind.Name = Some (DeclaredPorts ∷ [])
next_port kind.Input = Some (DeclaredPort ∷ [])
next_port kind.Output = Some (DeclaredPort ∷ [])
next_port kind.Inout = Some (DeclaredPort ∷ [])
next_port _ = None

-- ---- statements

abbrev pub statements : VerilogToken → After
statements kind.EndModule = Some []
statements kind.Wire = Some (Declaration ∷ Statements ∷ [])
statements kind.Tri = Some (Declaration ∷ Statements ∷ [])
statements kind.Supply0 = Some (Declaration ∷ Statements ∷ [])
statements kind.Supply1 = Some (Declaration ∷ Statements ∷ [])
statements kind.Assign = Some (Left ∷ Token kind.Equals ∷ Bits ∷ Assignments ∷ Statements ∷ [])
statements kind.Name = Some (Token kind.Name ∷ Token kind.Open ∷ Connections ∷ Instances ∷ Statements ∷ [])
statements _ = None

abbrev pub port_statements : VerilogToken → After
port_statements kind.EndModule = Some []
port_statements kind.Input = Some (PortDeclaration ∷ PortStatements ∷ [])
port_statements kind.Output = Some (PortDeclaration ∷ PortStatements ∷ [])
port_statements kind.Inout = Some (PortDeclaration ∷ PortStatements ∷ [])
port_statements kind.Wire = Some (Declaration ∷ PortStatements ∷ [])
port_statements kind.Tri = Some (Declaration ∷ PortStatements ∷ [])
port_statements kind.Supply0 = Some (Declaration ∷ PortStatements ∷ [])
port_statements kind.Supply1 = Some (Declaration ∷ PortStatements ∷ [])
port_statements kind.Assign = Some (Left ∷ Token kind.Equals ∷ Bits ∷ Assignments ∷ PortStatements ∷ [])
port_statements kind.Name = Some (Token kind.Name ∷ Token kind.Open ∷ Connections ∷ Instances ∷ PortStatements ∷ [])
port_statements _ = None

abbrev pub declaration : VerilogToken → After
declaration kind.OpenBracket = Some (Bound ∷ Token kind.Colon ∷ Bound ∷ Token kind.CloseBracket ∷ Token kind.Name ∷ Names ∷ [])
declaration kind.Name = Some (Names ∷ [])
declaration _ = None

abbrev pub port_declaration : VerilogToken → After
port_declaration kind.Wire = Some (Declaration ∷ [])
port_declaration kind.Tri = Some (Declaration ∷ [])
port_declaration k = declaration k

abbrev pub names : VerilogToken → After
names kind.Comma = Some (Token kind.Name ∷ Names ∷ [])
names kind.Semicolon = Some []
names _ = None

-- ---- the table

abbrev pub next : VerilogSymbol → VerilogToken → After
next (Token token) k = if same_kind token k then Some [] else None
next Source k = source k
next Header k = header k
next Ports k = ports k
next ListedPorts k = listed_ports k
next DeclaredPort k = declared_port k
next NamedPort k = named_port k
next DeclaredPorts k = declared_ports k
next NextPort k = next_port k
next Statements k = statements k
next PortStatements k = port_statements k
next Declaration k = declaration k
next PortDeclaration k = port_declaration k
next Names k = names k
next Bound k = bound k
next Assignments k = assignments k
next Left k = left k
next LeftParts k = left_parts k
next Select k = select k
next SelectEnd k = select_end k
next Index k = index k
next Bits k = bits k
next Parts k = parts k
next Instances k = instances k
next Connections k = connections k
next Connected k = bits k
next OrderedConnections k = ordered_connections k
next NamedConnections k = named_connections k

abbrev pub nullable : VerilogSymbol → Bool
nullable Source = true
nullable Select = true
nullable Connected = true
nullable _ = false

abbrev pub verilog : Table VerilogSymbol VerilogToken
verilog = record { next = next; nullable = nullable }
