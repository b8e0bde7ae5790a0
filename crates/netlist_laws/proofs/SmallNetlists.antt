-- That a small text of a netlist means what it is read as, and short words for the modules that it means.
use Rattle.std.proofs.Common.{◌≡◌, ℕ, zero, suc, true, List, [], ◌∷◌, None, Some, Result, Ok, arith, subst}
use Rattle.std.specs.Prelude.{◌&&◌, Bool, codes, nat_lt}
use Rattle.std.specs.Str.{IsAscii}
use Rattle.std.proofs.lemmas.Bool.{and_parts, ltb-true}
use Rattle.std.proofs.lemmas.Str.{IsUtf8-from_ascii}
use Rattle.sdc_base.specs.declared.memory.At.{At}
use Rattle.source_types.specs.declared.fault_kinds.VerilogKind.{VerilogKind}
use Rattle.pin_types.specs.declared.library_cells.Direction.{Direction}
use Rattle.source_types.specs.declared.netlists.Assign.{Assign}
use Rattle.source_types.specs.declared.netlists.Bit.{Bit}
use Rattle.source_types.specs.declared.netlists.Bit.TheVariants as bits
use Rattle.source_types.specs.declared.netlists.Instance.{Instance}
use Rattle.source_types.specs.declared.netlists.Link.{Link}
use Rattle.source_types.specs.declared.netlists.Links.TheVariants as links
use Rattle.source_types.specs.declared.netlists.Module.{Module}
use Rattle.source_types.specs.declared.netlists.Port.{Port}
use Rattle.source_types.specs.declared.netlists.Wire.{Wire}
use Rattle.netlist_model.specs.Verilog.{ReadsText}
use Rattle.netlist_laws.proofs.NetlistMeans.{read, text_read}

-- a text of ASCII bytes means what it is read as
abbrev are_ascii : List ℕ → Bool
are_ascii [] = true
are_ascii (b ∷ bs) = nat_lt b 128 && are_ascii bs

ascii : (text : List ℕ) → are_ascii text ≡ true → IsAscii text
ascii [] passes i = omega arith
ascii (b ∷ bs) passes zero = ltb-true b 128 (and_parts (nat_lt b 128) (are_ascii bs) passes).0
ascii (b ∷ bs) passes (suc i) = ascii bs (and_parts (nat_lt b 128) (are_ascii bs) passes).1 i

pub means : {text : List ℕ} {meant : Result (List Module) (At VerilogKind)} → are_ascii text ≡ true → read text ≡ meant → ReadsText text meant
means {text = text} passes is = subst (ReadsText text) is (text_read text (IsUtf8-from_ascii text (ascii text passes)))

-- ---- modules and their parts

abbrev pub port : Direction → List ℕ → Port
port direction name = record { name = name; direction = direction; range = None }

abbrev pub net : List ℕ → Wire
net name = record { name = name; range = None; tie = None }

abbrev pub bus : List ℕ → ℕ → ℕ → Wire
bus name left right = record { name = name; range = Some (record { left = left; right = right }); tie = None }

abbrev pub scalar : List ℕ → Bit
scalar name = bits.Net name None

abbrev pub bit : List ℕ → ℕ → Bit
bit name index = bits.Net name (Some index)

abbrev pub link : List ℕ → List Bit → Link
link name connected = record { port = name; bits = connected }

abbrev pub named : List ℕ → List ℕ → List Link → Instance
named kind name all = record { line = 1; kind = kind; name = name; links = links.Named all }

abbrev pub ordered : List ℕ → List ℕ → List (List Bit) → Instance
ordered kind name all = record { line = 1; kind = kind; name = name; links = links.Ordered all }

abbrev pub module_of : ℕ → List Port → List Wire → List Instance → List Assign → Module
module_of line ports nets instances assigns =
    record { name = codes "m"; line = line; ports = ports; nets = nets; instances = instances; assigns = assigns }

-- a module `m` on line 1 without ports or instances that assigns these bits to a net
abbrev pub assigned : Wire → List Bit → List Bit → Result (List Module) (At VerilogKind)
assigned wire left right = Ok (module_of 1 [] (wire ∷ []) [] (record { left = left; right = right } ∷ []) ∷ [])

abbrev pub bare : ℕ → Result (List Module) (At VerilogKind)
bare line = Ok (module_of line [] [] [] [] ∷ [])
