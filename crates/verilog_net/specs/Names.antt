-- The reader's declarations of a module, each found by its name. This project's own.
use Rattle.std.specs.Prelude.{◌≡◌, ◌≤◌, ◌^◌, ◌&&◌, ◌||◌, ◌⊎◌, ℕ, Bool, true, false, length, List, [], ◌∷◌, Option, Some, None, String, map, not, if◌then◌else◌}
use Rattle.std.specs.List.{list_any}
use Rattle.std.specs.Option.{option_map}
use Rattle.indexmap.specs.IndexMap.{IndexMap, get_by_text}
use Rattle.netlist_model.specs.Ranges.{span, width}
use Rattle.netlist_model.specs.VerilogConstants.{number_of}
use Rattle.netlist_model.specs.VerilogNets.{bits_of, declaration_of, is_of, is_port, range_named}
use Rattle.netlist_model.specs.VerilogStatements.{Written, declarations}
use Rattle.netlist_model.specs.VerilogSyntax as grammar
use Rattle.verilog_net.specs.declared.parsing.declarations.Declared.{Declared}
use Rattle.verilog_net.specs.declared.checking.names.Named.{Named}
use Rattle.verilog_net.specs.declared.checking.names.Names.{Names}
use Rattle.verilog_net.specs.declared.parsing.pieces.Piece.{Piece}
use Rattle.verilog_net.specs.declared.parsing.pieces.Piece.TheVariants as piece
use Rattle.verilog_net.specs.Modules.{written_seen}
use Rattle.verilog_net.specs.Syntax.{declared_seen, declareds_seen, is_long, pieces_seen}

abbrev pub declarations_of : Names → List grammar.Declared
declarations_of names = declareds_seen names.declared.items

-- the declaration that is kept of a name
abbrev pub entry_seen : {A S : Type 0} → IndexMap (String A) Declared S → List ℕ → Option grammar.Declared
entry_seen entries name = option_map declared_seen (get_by_text entries name)

-- each name has the declaration that gives it its range
abbrev pub IsTied : Names → Type 0
IsTied names = (name : List ℕ) → entry_seen names.entries name ≡ declaration_of (declarations_of names) name

-- of a declaration that is known and one more, the one that gives the range: a port before another
abbrev pub better : Option grammar.Declared → grammar.Declared → grammar.Declared
better None d = d
better (Some known) d = if is_port d && not (is_port known) then d else known

-- what is known of a name after one more declaration
abbrev pub with_entry : grammar.Declared → List ℕ → Option grammar.Declared → Option grammar.Declared
with_entry d name known = if is_of name d then Some (better known d) else known

-- what is known of a name after more declarations
abbrev pub with_entries : List grammar.Declared → List ℕ → Option grammar.Declared → Option grammar.Declared
with_entries [] name known = known
with_entries (d ∷ ds) name known = with_entries ds name (with_entry d name known)

-- a declaration, if it is one of a port
abbrev pub ports_only : Option grammar.Declared → Option grammar.Declared
ports_only None = None
ports_only (Some d) = if is_port d then Some d else None

-- ---- numbers of bits

-- the number of bits of a piece
abbrev pub len_of : Names → Piece → ℕ
len_of names (piece.Whole name) = width (range_named (declarations_of names) name.text.now)
len_of names (piece.Bit name index) = 1
len_of names (piece.Part name left right) = span (number_of left.text.now) (number_of right.text.now)
len_of names (piece.Constant size base digits) = number_of size.text.now

-- one of the numbers that give a piece its number of bits passes 32 bits
abbrev pub has_long : Piece → Bool
has_long (piece.Whole name) = false
has_long (piece.Bit name index) = false
has_long (piece.Part name left right) = is_long left || is_long right
has_long (piece.Constant size base digits) = is_long size

-- so does a number of pieces, or their number of bits passes 64 bits
abbrev pub AreOverlong : Names → List Piece → Type 0
AreOverlong names pieces = (list_any has_long pieces ≡ true) ⊎ (2 ^ 64 ≤ length (bits_of (declarations_of names) (pieces_seen pieces)))

-- ---- modules

-- the declarations of a module are found by their names
abbrev pub IsNamed : Named → Type 0
IsNamed named = IsTied named.names × (declarations_of named.names ≡ declarations (written_seen named.written))

abbrev pub named_modules : List Named → List Written
named_modules modules = map (λ (named : Named). written_seen named.written) modules
