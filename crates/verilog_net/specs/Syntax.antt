-- What the reader's tokens declare and connect, as the definitions have it. This project's own. Each function says for
-- a value of the code what it is there.
use Rattle.std.specs.Prelude.{◌&&◌, ℕ, Bool, not, List, [], ◌∷◌, Option, Some, None, map, nat_le}
use Rattle.std.specs.List.{prefix_len}
use denote.Ref.{Bor}
use Rattle.source_types.specs.declared.netlists.Range.{Range}
use Rattle.source_types.specs.declared.verilog_tokens.VerilogToken.{VerilogToken}
use Rattle.netlist_model.specs.VerilogConstants.{constant_bits, number_of}
use Rattle.netlist_model.specs.VerilogSyntax as grammar
use Rattle.netlist_model.specs.VerilogTokens as lexical
use Rattle.verilog_net.specs.declared.parsing.declarations.Declared.{Declared}
use Rattle.verilog_net.specs.declared.parsing.declarations.Role.{Role}
use Rattle.verilog_net.specs.declared.parsing.declarations.Role.TheVariants as role
use Rattle.verilog_net.specs.declared.parsing.pieces.Piece.{Piece}
use Rattle.verilog_net.specs.declared.parsing.pieces.Piece.TheVariants as piece
use Rattle.verilog_net.specs.declared.lexing.tokens.Token.{Token}
use Rattle.verilog_net.specs.Seen.{token_seen, tokens_seen}

-- ---- declarations

abbrev pub role_seen : Role → grammar.Role
role_seen (role.Port direction) = grammar.port direction
role_seen role.Wire = grammar.wire
role_seen (role.Tied value) = grammar.tied value

abbrev pub declared_seen : Declared → grammar.Declared
declared_seen d = record { name = token_seen d.name; role = role_seen d.role; range = d.range }

abbrev pub declareds_seen : List Declared → List grammar.Declared
declareds_seen all = map declared_seen all

abbrev pub is_direction_seen : Token → Bool
is_direction_seen token = grammar.is_direction (token_seen token)

-- the number of tokens before the first direction
abbrev pub directions_len : List Token → ℕ
directions_len tokens = prefix_len (λ token. not (grammar.is_direction (token_seen token))) tokens

-- the range of bounds that are left, after a first one if it was read
abbrev pub range_after : Option ℕ → List lexical.Token → Option Range
range_after None tokens = grammar.range_of tokens
range_after (Some left) [] = None
range_after (Some left) (right ∷ tokens) = Some (record { left = left; right = number_of right.text })

-- ---- numbers

-- the number of a token passes 32 bits
abbrev pub is_long : Token → Bool
is_long token = not (nat_le (number_of token.text.now) 4294967295)

-- it is one that a range may have
abbrev pub is_long_bound : Token → Bool
is_long_bound token = grammar.is_bound (token_seen token) && is_long token

-- ---- parts

-- the tokens of parts
abbrev pub parts_seen : List (Bor (List Token)) → List (List lexical.Token)
parts_seen parts = map (λ (part : Bor (List Token)). tokens_seen part.now) parts

-- a token is no one of a kind
abbrev pub is_other : VerilogToken → Token → Bool
is_other k token = not (grammar.is k (token_seen token))

-- the number of tokens before the first one of a kind
abbrev pub others_len : VerilogToken → List Token → ℕ
others_len k tokens = prefix_len (is_other k) tokens

-- ---- pieces

abbrev pub piece_seen : Piece → grammar.Piece
piece_seen (piece.Whole name) = grammar.whole (token_seen name)
piece_seen (piece.Bit name index) = grammar.bit (token_seen name) (number_of index.text.now)
piece_seen (piece.Part name left right) = grammar.part (token_seen name) (number_of left.text.now) (number_of right.text.now)
piece_seen (piece.Constant size base digits) =
    grammar.constant (constant_bits (number_of size.text.now) (grammar.letter_of base.text.now) digits.text.now)

abbrev pub pieces_seen : List Piece → List grammar.Piece
pieces_seen pieces = map piece_seen pieces
