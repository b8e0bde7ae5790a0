-- What the tokens of a Verilog text declare and connect, token by token, before names are looked up (IEEE 1364-2005, in
-- the part that is read here). It speaks of texts of the grammar, whose shape it uses: modules begin at `module`,
-- statements end at `;`, what is listed is parted by commas outside parentheses and braces, and a range is the two
-- numbers of its declaration.
use Rattle.std.specs.Prelude.{◌==◌, ◌||◌, ◌&&◌, ◌+◌, ◌-◌, ◌++◌, ℕ, Bool, true, false, List, [], ◌∷◌, Option, Some, None, map, if◌then◌else◌}
use Rattle.std.specs.List.{before_first, filter, list_any}
use Rattle.pin_types.specs.declared.library_cells.Direction.{Direction}
use Rattle.pin_types.specs.declared.library_cells.Direction.TheVariants as direction
use Rattle.source_types.specs.declared.netlists.Range.{Range}
use Rattle.source_types.specs.declared.verilog_tokens.VerilogToken.{VerilogToken}
use Rattle.source_types.specs.declared.verilog_tokens.VerilogToken.TheVariants as kind
use Rattle.netlist_model.specs.VerilogConstants.{constant_bits, lower, number_of}
use Rattle.netlist_model.specs.VerilogKinds.{same_kind}
use Rattle.netlist_model.specs.VerilogTokens.{Token}

-- ---- words on tokens

abbrev pub is : VerilogToken → Token → Bool
is k token = same_kind k token.kind

abbrev pub is_direction : Token → Bool
is_direction token = is kind.Input token || is kind.Output token || is kind.Inout token

-- a number that a range may have
abbrev pub is_bound : Token → Bool
is_bound token = is kind.Size token || is kind.Number token

-- ---- what is declared

-- what a name is declared as: a port of a direction, a wire, or a net that is tied to a value
pub data Role : Type 0 where
  port : Direction → Role
  wire : Role
  tied : Bool → Role

-- a name that is declared, by its token
pub record Declared : Type 0 where
  pub name : Token
  pub role : Role
  pub range : Option Range

-- the range of a declaration: its two numbers, or none
abbrev pub range_of : List Token → Option Range
range_of (left ∷ right ∷ tokens) = Some (record { left = number_of left.text; right = number_of right.text })
range_of tokens = None

-- what these tokens declare after a keyword: each of their names, with their range
abbrev pub declared_as : Role → List Token → List Declared
declared_as role tokens =
    map (λ (name : Token). record { name = name; role = role; range = range_of (filter is_bound tokens) }) (filter (is kind.Name) tokens)

-- the role that a keyword begins
abbrev pub role_of : VerilogToken → Option Role
role_of kind.Input = Some (port direction.Input)
role_of kind.Output = Some (port direction.Output)
role_of kind.Inout = Some (port direction.Other)
role_of kind.Wire = Some wire
role_of kind.Tri = Some wire
role_of kind.Supply0 = Some (tied false)
role_of kind.Supply1 = Some (tied true)
role_of k = None

-- what a statement declares; the kind of net after a direction changes nothing
abbrev pub statement_declares : List Token → List Declared
statement_declares [] = []
statement_declares (token ∷ tokens) = elim (role_of token.kind) [ None ↦ [] | Some role ↦ declared_as role tokens ]

-- what a header declares: each direction's names up to the next direction
abbrev pub header_declares : List Token → List Declared
header_declares [] = []
header_declares (token ∷ tokens) =
    (if is_direction token then statement_declares (token ∷ before_first is_direction tokens) else []) ++ header_declares tokens

-- the names that a header only lists
abbrev pub header_lists : List Token → List Token
header_lists tokens = if list_any is_direction tokens then [] else filter (is kind.Name) tokens

-- ---- what is connected

-- a part of what is connected or assigned: a net, a bit or a part of one, by the token of its name, or a constant's
-- bits
pub data Piece : Type 0 where
  whole : Token → Piece
  bit : Token → ℕ → Piece
  part : Token → ℕ → ℕ → Piece
  constant : List (Option Bool) → Piece

-- after `[` and the number after it: a bit, or a part where `:` stands there
abbrev pub selected : Token → ℕ → List Token → Piece
selected name left (mark ∷ right ∷ tokens) = if is kind.Colon mark then part name left (number_of right.text) else bit name left
selected name left tokens = bit name left

-- a net, by its name and the tokens after it
abbrev pub net_piece : Token → List Token → Piece
net_piece name (mark ∷ left ∷ tokens) = if is kind.OpenBracket mark then selected name (number_of left.text) tokens else whole name
net_piece name tokens = whole name

-- the small letter of a base
abbrev pub letter_of : List ℕ → ℕ
letter_of [] = 0
letter_of (b ∷ bs) = lower b

-- a constant, by its size and the tokens after it; a number before no base is an index
abbrev pub constant_piece : Token → List Token → List Piece
constant_piece size (base ∷ digits ∷ tokens) =
    if is kind.Base base then constant (constant_bits (number_of size.text) (letter_of base.text) digits.text) ∷ [] else []
constant_piece size tokens = []

-- the piece that begins with a token
abbrev pub piece_at : VerilogToken → Token → List Token → List Piece
piece_at kind.Name token tokens = net_piece token tokens ∷ []
piece_at kind.Size token tokens = constant_piece token tokens
piece_at k token tokens = []

-- the pieces of what is connected, from the leftmost on; braces and commas only join them
abbrev pub pieces_of : List Token → List Piece
pieces_of [] = []
pieces_of (token ∷ tokens) = piece_at token.kind token tokens ++ pieces_of tokens

-- the nets alone, from the leftmost on: the left side of an assignment has no constants
abbrev pub net_pieces : List Token → List Piece
net_pieces [] = []
net_pieces (token ∷ tokens) = (if is kind.Name token then net_piece token tokens ∷ [] else []) ++ net_pieces tokens

-- the depth after a token that stands at a depth of parentheses and braces
abbrev pub depth_after : ℕ → VerilogToken → ℕ
depth_after depth kind.Open = depth + 1
depth_after depth kind.OpenBrace = depth + 1
depth_after depth kind.Close = depth - 1
depth_after depth kind.CloseBrace = depth - 1
depth_after depth k = depth

-- a token put before the first of some parts
abbrev pub onto : Token → List (List Token) → List (List Token)
onto token [] = (token ∷ []) ∷ []
onto token (first ∷ parts) = (token ∷ first) ∷ parts

-- what commas outside all parentheses and braces part; no tokens are one empty part
abbrev pub parts_at : ℕ → List Token → List (List Token)
parts_at depth [] = [] ∷ []
parts_at depth (token ∷ tokens) =
    if depth == 0 && is kind.Comma token then [] ∷ parts_at depth tokens
    else onto token (parts_at (depth_after depth token.kind) tokens)

abbrev pub parts_of : List Token → List (List Token)
parts_of tokens = parts_at 0 tokens
