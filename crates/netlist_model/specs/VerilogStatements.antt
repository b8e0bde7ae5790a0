-- Modules of a Verilog text as they are written, before names are looked up (IEEE 1364-2005, in the part that is read
-- here): what each declares, its instances and its assignments. It speaks of texts of the grammar.
use Rattle.std.specs.Prelude.{◌++◌, ◌-◌, List, [], ◌∷◌, drop, length, map, take, if◌then◌else◌}
use Rattle.std.specs.List.{after_first, before_first, filter, flat_map, slice_split}
use Rattle.source_types.specs.declared.verilog_tokens.VerilogToken.{VerilogToken}
use Rattle.source_types.specs.declared.verilog_tokens.VerilogToken.TheVariants as kind
use Rattle.netlist_model.specs.VerilogSyntax.{Declared, Piece, header_declares, header_lists, is, net_pieces, parts_of, pieces_of, statement_declares}
use Rattle.netlist_model.specs.VerilogTokens.{Token}

-- ---- assignments

-- the two sides of an assignment
pub record Sides : Type 0 where
  pub left : List Piece
  pub right : List Piece

-- a statement that assigns, by its keyword
pub record Assigning : Type 0 where
  pub keyword : Token
  pub all : List Sides

abbrev pub sides_of : List Token → Sides
sides_of tokens = record {
  left = net_pieces (before_first (is kind.Equals) tokens);
  right = pieces_of (after_first (is kind.Equals) tokens);
}

-- ---- instances

-- the connections of an instance, as they are written
pub data Connections : Type 0 where
  ordered : List (List Piece) → Connections
  named : List (Token × List Piece) → Connections

-- an instance, by the token of its name
pub record Placed : Type 0 where
  pub kind : Token
  pub name : Token
  pub connections : Connections

-- a named connection, from its dot on
abbrev pub named_one : List Token → List (Token × List Piece)
named_one (dot ∷ port ∷ tokens) = (port, pieces_of tokens) ∷ []
named_one tokens = []

-- the connections of these tokens: none, ordered ones, or named ones where a dot stands first
abbrev pub connections_of : List Token → Connections
connections_of [] = ordered []
connections_of (token ∷ tokens) =
    if is kind.Dot token then named (flat_map named_one (parts_of (token ∷ tokens)))
    else ordered (map pieces_of (parts_of (token ∷ tokens)))

-- an instance of a kind: its name, and in parentheses its connections
abbrev pub instance_of : Token → List Token → List Placed
instance_of kind_name (name ∷ mark ∷ tokens) =
    record { kind = kind_name; name = name; connections = connections_of (take (length tokens - 1) tokens) } ∷ []
instance_of kind_name tokens = []

-- ---- statements and modules

-- a statement
pub data Statement : Type 0 where
  declares : List Declared → Statement
  assigns : Assigning → Statement
  places : List Placed → Statement

-- a statement that begins with a token
abbrev pub statement_at : VerilogToken → Token → List Token → Statement
statement_at kind.Assign token tokens = assigns (record { keyword = token; all = map sides_of (parts_of tokens) })
statement_at kind.Name token tokens = places (flat_map (instance_of token) (parts_of tokens))
statement_at k token tokens = declares (statement_declares (token ∷ tokens))

abbrev pub statement_of : List Token → Statement
statement_of [] = declares []
statement_of (token ∷ tokens) = statement_at token.kind token tokens

-- a module as it is written: its name, the ports that its header declares and those that it only lists, its statements,
-- and each `inout`
pub record Written : Type 0 where
  pub name : Token
  pub header : List Declared
  pub listed : List Token
  pub statements : List Statement
  pub inouts : List Token

-- a module of these tokens after `module`: its header and its statements, the last of which is its end
abbrev pub written_by : List (List Token) → List Token → List Written
written_by ((name ∷ header) ∷ statements) tokens = record {
  name = name;
  header = header_declares header;
  listed = header_lists header;
  statements = map statement_of statements;
  inouts = filter (is kind.Inout) tokens;
} ∷ []
written_by statements tokens = []

abbrev pub module_of : List Token → List Written
module_of tokens = written_by (slice_split (is kind.Semicolon) tokens) tokens

-- the modules of a text
abbrev pub modules_of : List Token → List Written
modules_of tokens = flat_map module_of (drop 1 (slice_split (is kind.Module) tokens))

-- what a statement declares, and all that a module declares, in the order of the text
abbrev pub declared_by : Statement → List Declared
declared_by (declares all) = all
declared_by (assigns all) = []
declared_by (places all) = []

abbrev pub declarations : Written → List Declared
declarations m = m.header ++ flat_map declared_by m.statements
