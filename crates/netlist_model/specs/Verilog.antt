-- What a Verilog file is read as: the modules that it means, or its first fault. The faults and their order are this
-- project's own: a file that is no text; a syntax error, at the first token that no text has after those
-- before it, or on the line of the last byte where the text ends too early; and then all others by their place.
use Rattle.std.specs.Prelude.{◌≡◌, ◌⊎◌, ◌||◌, ◌&&◌, ◌==◌, ◌++◌, ℕ, Bool, true, false, not, List, [], ◌∷◌, length, map, Option, Some, None, Result, Ok, Err, nat_le, slice_get, if◌then◌else◌}
use Rattle.std.specs.List.{filter, flat_map, list_any}
use Rattle.std.specs.Str.{IsUtf8}
use Rattle.sdc_base.specs.declared.memory.At.{At}
use Rattle.source_types.specs.declared.fault_kinds.VerilogKind.{VerilogKind}
use Rattle.source_types.specs.declared.fault_kinds.VerilogKind.TheVariants.{DoubleName, InoutPort, NotText, UnknownNet, VerilogForm, WidthMismatch}
use Rattle.source_types.specs.declared.netlists.Module.{Module}
use Rattle.source_types.specs.declared.netlists.Range.{Range}
use Rattle.source_types.specs.declared.verilog_tokens.VerilogSymbol.TheVariants.{Source}
use Rattle.text_model.specs.LastLine.{broken_text_line, last_line_of}
use Rattle.netlist_model.specs.Ranges.{width}
use Rattle.netlist_model.specs.VerilogGrammar.{verilog}
use Rattle.netlist_model.specs.VerilogKinds.{kinds_of}
use Rattle.netlist_model.specs.VerilogNets.{bits_of, is_of, is_port, is_port_of, meant_module, pieces_in, range_named}
use Rattle.netlist_model.specs.VerilogStatements.{Sides, Statement, Written, assigns, declarations, declares, modules_of, places}
use Rattle.netlist_model.specs.VerilogSyntax.{Declared, Piece, bit, constant, part, port, tied, whole, wire}
use Rattle.netlist_model.specs.VerilogTokens.{AreTokens, Token}
use Rattle.text_model.specs.Words.{is_among}
use Rattle.token_grammar.specs.declared.grammar.SyntaxError.{SyntaxError}
use Rattle.token_grammar.specs.declared.grammar.SyntaxError.TheVariants as broken
use Rattle.token_grammar.specs.Texts.{ErrorIs}

-- a fault at a token
pub record Wrong : Type 0 where
  pub token : Token
  pub kind : VerilogKind

abbrev pub wrong_at : VerilogKind → Token → Wrong
wrong_at kind token = record { token = token; kind = kind }

-- ---- names

-- each of some names that stands after the same name
abbrev pub repeated : List (List ℕ) → List Token → List Token
repeated before [] = []
repeated before (token ∷ tokens) =
    (if is_among before token.text then token ∷ [] else []) ++ repeated (token.text ∷ before) tokens

abbrev pub is_wire : Declared → Bool
is_wire d = elim d.role [ port direction ↦ false | wire ↦ true | tied value ↦ false ]

-- a port and a wire of one width: two declarations of one name that are allowed
abbrev pub are_one : Declared → Declared → Bool
are_one a b = ((is_port a && is_wire b) || (is_wire a && is_port b)) && width a.range == width b.range

-- a declaration is a second one after those of its name
abbrev pub is_second : List Declared → Declared → Bool
is_second [] d = false
is_second (a ∷ []) d = not (are_one a d)
is_second (a ∷ b ∷ ds) d = true

abbrev pub seconds : List Declared → List Declared → List Token
seconds before [] = []
seconds before (d ∷ ds) =
    (if is_second (filter (is_of d.name.text) before) d then d.name ∷ [] else []) ++ seconds (before ++ d ∷ []) ds

-- a listed port that no direction declares
abbrev pub undeclared : List Declared → List Token → List Token
undeclared all listed = filter (λ token. not (list_any (is_port_of token.text) all)) listed

-- ---- uses

-- an index is in a range
abbrev pub is_within : Range → ℕ → Bool
is_within range i =
    (nat_le range.left i && nat_le i range.right) || (nat_le range.right i && nat_le i range.left)

abbrev pub has_index : Option Range → ℕ → Bool
has_index (Some range) i = is_within range i
has_index None i = false

-- the name of a piece that selects what is not there
abbrev pub unknown_in : List Declared → Piece → List Token
unknown_in all (whole name) = []
unknown_in all (bit name i) = if has_index (range_named all name.text) i then [] else name ∷ []
unknown_in all (part name left right) =
    if has_index (range_named all name.text) left && has_index (range_named all name.text) right then [] else name ∷ []
unknown_in all (constant values) = []

abbrev pub is_empty : List Token → Bool
is_empty [] = true
is_empty (token ∷ tokens) = false

-- an assignment of known nets has sides of different widths
abbrev pub is_uneven : List Declared → Sides → Bool
is_uneven all sides =
    is_empty (flat_map (unknown_in all) (sides.left ++ sides.right))
    && not (length (bits_of all sides.left) == length (bits_of all sides.right))

abbrev pub uneven : List Declared → Statement → List Token
uneven all (assigns a) = if list_any (is_uneven all) a.all then a.keyword ∷ [] else []
uneven all (declares ds) = []
uneven all (places placed) = []

-- ---- all faults

abbrev pub module_wrongs : Written → List Wrong
module_wrongs m =
    map (wrong_at InoutPort) m.inouts
    ++ map (wrong_at DoubleName) (repeated [] m.listed ++ seconds [] (declarations m))
    ++ map (wrong_at WidthMismatch) (flat_map (uneven (declarations m)) m.statements)
    ++ map (wrong_at UnknownNet)
    (undeclared (declarations m) m.listed ++ flat_map (unknown_in (declarations m)) (flat_map pieces_in m.statements))

-- the faults of modules, a second module of one name among them
abbrev pub wrongs : List Written → List Wrong
wrongs modules =
    map (wrong_at DoubleName) (repeated [] (map (λ (m : Written). m.name) modules)) ++ flat_map module_wrongs modules

-- the earlier of a fault and what may be one
abbrev pub earlier : Wrong → Option Wrong → Wrong
earlier wrong None = wrong
earlier wrong (Some other) = if nat_le wrong.token.at other.token.at then wrong else other

abbrev pub first_wrong : List Wrong → Option Wrong
first_wrong [] = None
first_wrong (wrong ∷ others) = Some (earlier wrong (first_wrong others))

-- ---- the whole file

abbrev pub fault : ℕ → VerilogKind → Result (List Module) (At VerilogKind)
fault line kind = Err (record { line = line; kind = kind })

-- the meaning of modules
abbrev pub meant : List Written → Result (List Module) (At VerilogKind)
meant modules =
    elim (first_wrong (wrongs modules)) [
      | None ↦ Ok (map meant_module modules)
      | Some wrong ↦ fault wrong.token.line wrong.kind
    ]

-- the line of a token
abbrev pub line_of : Option Token → ℕ
line_of None = 1
line_of (Some token) = token.line

-- what tokens mean that have a syntax error at this place, or are a text
abbrev pub meaning : List ℕ → List Token → Option SyntaxError → Result (List Module) (At VerilogKind)
meaning bytes tokens None = meant (modules_of tokens)
meaning bytes tokens (Some (broken.Token place)) = fault (line_of (slice_get tokens place)) VerilogForm
meaning bytes tokens (Some broken.End) = fault (last_line_of bytes 1) VerilogForm

-- what a file that is text is read as
pub record ReadsText (bytes : List ℕ) (result : Result (List Module) (At VerilogKind)) : Type 0 where
  pub tokens : List Token
  pub error : Option SyntaxError
  pub text : IsUtf8 bytes
  pub stand : AreTokens bytes tokens
  pub error_is : ErrorIs verilog Source (kinds_of tokens) error
  pub is : result ≡ meaning bytes tokens error

-- what a file is read as
abbrev pub ReadsVerilog : List ℕ → Result (List Module) (At VerilogKind) → Type 0
ReadsVerilog bytes result = ReadsText bytes result ⊎ ((IsUtf8 bytes → ⊥) × (result ≡ fault (broken_text_line bytes) NotText))

-- bytes mean something, and one thing
abbrev pub HasMeaning : List ℕ → Type 0
HasMeaning bytes = (outcome : Result (List Module) (At VerilogKind)) × ReadsVerilog bytes outcome

abbrev pub HasOneMeaning : List ℕ → Type 0
HasOneMeaning bytes =
    (one other : Result (List Module) (At VerilogKind)) → ReadsVerilog bytes one → ReadsVerilog bytes other → one ≡ other
