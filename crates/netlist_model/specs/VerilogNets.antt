-- What a module of a Verilog text means: its ports, its nets, and the bits of its instances and assignments (IEEE
-- 1364-2005). A name that is declared nowhere is a scalar wire (the standard's implicit nets). It reads: a port has the
-- range of its port declaration; nets are the ports and then the wires, each where it is declared or first used.
use Rattle.std.specs.Prelude.{◌++◌, ◌&&◌, ℕ, Bool, true, false, List, [], ◌∷◌, Option, Some, None, map, if◌then◌else◌}
use Rattle.std.specs.List.{filter_map, find, flat_map}
use Rattle.std.specs.Option.{option_or}
use Rattle.pin_types.specs.declared.library_cells.Direction.{Direction}
use Rattle.source_types.specs.declared.netlists.Assign.{Assign}
use Rattle.source_types.specs.declared.netlists.Bit.{Bit}
use Rattle.source_types.specs.declared.netlists.Bit.TheVariants as bits
use Rattle.source_types.specs.declared.netlists.Instance.{Instance}
use Rattle.source_types.specs.declared.netlists.Links.{Links}
use Rattle.source_types.specs.declared.netlists.Links.TheVariants as links
use Rattle.source_types.specs.declared.netlists.Module.{Module}
use Rattle.source_types.specs.declared.netlists.Port.{Port}
use Rattle.source_types.specs.declared.netlists.Range.{Range}
use Rattle.source_types.specs.declared.netlists.Wire.{Wire}
use Rattle.netlist_model.specs.Ranges.{from_to, indices}
use Rattle.netlist_model.specs.VerilogStatements.{Connections, Placed, Sides, Statement, Written, assigns, declarations, declares, named, ordered, places}
use Rattle.netlist_model.specs.VerilogSyntax.{Declared, Piece, Role, bit, constant, part, port, tied, whole, wire}
use Rattle.netlist_model.specs.VerilogTokens.{Token}
use Rattle.netlist_model.specs.WellFormedNetlist.{net_of_port}
use Rattle.text_model.specs.Words.{is_among, same_text}

-- ---- names

-- a declaration of a name
abbrev pub is_of : List ℕ → Declared → Bool
is_of name d = same_text d.name.text name

-- the direction of a port declaration
abbrev pub direction_of : Role → Option Direction
direction_of (port direction) = Some direction
direction_of wire = None
direction_of (tied value) = None

abbrev pub is_port : Declared → Bool
is_port d = elim d.role [ port direction ↦ true | wire ↦ false | tied value ↦ false ]

-- a declaration of a name as a port
abbrev pub is_port_of : List ℕ → Declared → Bool
is_port_of name d = is_port d && is_of name d

-- the declaration that gives a name its range: that of a port, or else that of a net
abbrev pub declaration_of : List Declared → List ℕ → Option Declared
declaration_of all name = option_or (find (is_port_of name) all) (find (is_of name) all)

-- the range of a name; a name that is declared nowhere is a scalar
abbrev pub range_named : List Declared → List ℕ → Option Range
range_named all name = elim (declaration_of all name) [ None ↦ None | Some d ↦ d.range ]

-- ---- bits

abbrev pub net_bit : List ℕ → Option ℕ → Bit
net_bit name index = bits.Net name index

-- the bits of a piece from the leftmost on
abbrev pub piece_bits : List Declared → Piece → List Bit
piece_bits all (whole name) = map (net_bit name.text) (indices (range_named all name.text))
piece_bits all (bit name i) = net_bit name.text (Some i) ∷ []
piece_bits all (part name left right) = map (λ i. net_bit name.text (Some i)) (from_to left right)
piece_bits all (constant values) = map bits.Constant values

abbrev pub bits_of : List Declared → List Piece → List Bit
bits_of all pieces = flat_map (piece_bits all) pieces

-- ---- nets

-- a port of a name that is listed or declared in the header
abbrev pub port_of : List Declared → List ℕ → Option Port
port_of all name =
    elim (find (is_port_of name) all) [
      | None ↦ None
      | Some d ↦ elim (direction_of d.role) [ None ↦ None | Some direction ↦ Some (record { name = name; direction = direction; range = d.range }) ]
    ]

-- the names of the ports, in order
abbrev pub port_names : Written → List (List ℕ)
port_names m = map (λ (d : Declared). d.name.text) m.header ++ map (λ (token : Token). token.text) m.listed

abbrev pub ports_of : Written → List Port
ports_of m = filter_map (port_of (declarations m)) (port_names m)

-- the value that a net is tied to
abbrev pub tie_of : Role → Option Bool
tie_of (port direction) = None
tie_of wire = None
tie_of (tied value) = Some value

abbrev pub declared_wire : List Declared → Declared → Wire
declared_wire all d = record { name = d.name.text; range = range_named all d.name.text; tie = tie_of d.role }

-- the wire that a use of a name makes, where it is declared nowhere
abbrev pub used_wire : List Declared → Piece → Option Wire
used_wire all (whole name) =
    elim (declaration_of all name.text) [ None ↦ Some (record { name = name.text; range = None; tie = None }) | Some d ↦ None ]
used_wire all piece = None

abbrev pub connected : Connections → List Piece
connected (ordered all) = flat_map (λ (pieces : List Piece). pieces) all
connected (named all) = flat_map (λ (link : Token × List Piece). link.1) all

-- the pieces that a statement uses, in the order of the text
abbrev pub pieces_in : Statement → List Piece
pieces_in (declares all) = []
pieces_in (assigns a) = flat_map (λ (sides : Sides). sides.left ++ sides.right) a.all
pieces_in (places all) = flat_map (λ (placed : Placed). connected placed.connections) all

-- the wires that a statement declares or makes; those of ports have names already
abbrev pub wires_in : List Declared → Statement → List Wire
wires_in all (declares ds) = map (declared_wire all) ds
wires_in all statement = filter_map (used_wire all) (pieces_in statement)

-- each wire where its name comes first, after nets that have names already
abbrev pub new_wires : List (List ℕ) → List Wire → List Wire
new_wires names [] = []
new_wires names (w ∷ ws) =
    if is_among names w.name then new_wires names ws else w ∷ new_wires (w.name ∷ names) ws

abbrev pub nets_of : Written → List Wire
nets_of m = map net_of_port (ports_of m) ++ new_wires (port_names m) (flat_map (wires_in (declarations m)) m.statements)

-- ---- the module

abbrev pub links_of : List Declared → Connections → Links
links_of all (ordered connections) = links.Ordered (map (bits_of all) connections)
links_of all (named connections) = links.Named (map (λ (c : Token × List Piece). record { port = c.0.text; bits = bits_of all c.1 }) connections)

abbrev pub instance_from : List Declared → Placed → Instance
instance_from all p =
    record { line = p.name.line; kind = p.kind.text; name = p.name.text; links = links_of all p.connections }

abbrev pub assign_from : List Declared → Sides → Assign
assign_from all sides = record { left = bits_of all sides.left; right = bits_of all sides.right }

abbrev pub instances_in : List Declared → Statement → List Instance
instances_in all (places placed) = map (instance_from all) placed
instances_in all statement = []

abbrev pub assigns_in : List Declared → Statement → List Assign
assigns_in all (assigns a) = map (assign_from all) a.all
assigns_in all statement = []

abbrev pub meant_module : Written → Module
meant_module m = record {
  name = m.name.text;
  line = m.name.line;
  ports = ports_of m;
  nets = nets_of m;
  instances = flat_map (instances_in (declarations m)) m.statements;
  assigns = flat_map (assigns_in (declarations m)) m.statements;
}
