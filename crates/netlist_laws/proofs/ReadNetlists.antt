-- The modules that a text means are well-formed: its names are each the name of one thing, and its bits are of its
-- nets.
use Rattle.sdc_base.specs.declared.memory.At.{At}
use Rattle.netlist_laws.proofs.ConnectedBits.{assigns_fine, fine_statement, instances_fine}
use Rattle.text_model.proofs.EachItem.{both_nothing}
use Rattle.netlist_laws.proofs.FaultlessModules.{Faultless, faultless, ports_named}
use Rattle.text_model.proofs.Members.{find_in, In, no_map}
use Rattle.netlist_laws.proofs.NetNames.{distinct, names_of, nets_fresh, tokens_fresh, wire_names}
use Rattle.netlist_laws.proofs.NetTexts.{all_nets, from_text, IsFromText, no_inout}
use Rattle.netlist_laws.proofs.NetsOfModules.{declares_nets}
use Rattle.text_model.proofs.Outcomes.{ok_err, same_ok}
use Rattle.netlist_model.specs.Verilog.{earlier, fault, first_wrong, meaning, meant, module_wrongs, ReadsVerilog, repeated, Wrong, wrong_at, wrongs}
use Rattle.netlist_model.specs.VerilogNets.{direction_of, is_port_of, meant_module, new_wires, port_names, port_of, ports_of, wires_in}
use Rattle.netlist_model.specs.VerilogStatements.{declarations, modules_of, Written}
use Rattle.netlist_model.specs.VerilogSyntax.{Declared, port, Role, tied, wire}
use Rattle.netlist_model.specs.VerilogTokens.{Token}
use Rattle.text_model.specs.Names.{AreDistinct}
use Rattle.netlist_model.specs.WellFormedNetlist.{IsNetOfPort, IsWellFormedModule, IsWellFormedNetlist, net_of_port}
use Rattle.source_types.specs.declared.fault_kinds.VerilogKind.TheVariants.{DoubleName}
use Rattle.source_types.specs.declared.fault_kinds.VerilogKind.{VerilogKind}
use Rattle.pin_types.specs.declared.library_cells.Direction.TheVariants.{Other}
use Rattle.pin_types.specs.declared.library_cells.Direction.{Direction}
use Rattle.source_types.specs.declared.netlists.Module.{Module}
use Rattle.source_types.specs.declared.netlists.Port.{Port}
use Rattle.source_types.specs.declared.netlists.Range.{Range}
use Rattle.source_types.specs.declared.netlists.Wire.{Wire}
use Rattle.std.proofs.Common.{◌++◌, ◌∙◌, ◌∷◌, ◌≡◌, [], ap, inl, inr, List, map, None, Ok, Option, refl, Result, Some, subst, sym, ℕ}
use Rattle.std.proofs.lemmas.List.Elements.{All-cons, All-nil}
use Rattle.std.proofs.lemmas.Option.{none-some}
use Rattle.std.specs.List.{All, AllZip, cons_option, filter_map, find, flat_map}
use Rattle.token_grammar.proofs.Derivations.{by_option}
use Rattle.token_grammar.specs.declared.grammar.SyntaxError.TheVariants as broken
use Rattle.token_grammar.specs.declared.grammar.SyntaxError.{SyntaxError}

-- ---- directions and the first nets

directed : (all : List Declared) (name : List ℕ) (q : Port) → port_of all name ≡ Some q → (d : Declared) × In d all × (d.role ≡ port q.direction)
directed all name q h =
    by_option (λ o. find (is_port_of name) all ≡ o → (elim o [ None ↦ None | Some d ↦ elim (direction_of d.role) [ None ↦ None | Some direction ↦ Some (record { name = name; direction = direction; range = d.range }) ] ]) ≡ Some q → (d : Declared) × In d all × (d.role ≡ port q.direction)) (find (is_port_of name) all)
    (λ d _ e is. (d, (find_in (is_port_of name) all d e).0, role_is d.role name d.range q is))
    (λ _ e is. absurd (none-some q is)) refl h where
      role_is : (role : Role) (name : List ℕ) (range : Option Range) (q : Port) → (elim (direction_of role) [ None ↦ None | Some direction ↦ Some (record { name = name; direction = direction; range = range }) ]) ≡ Some q → role ≡ port q.direction
      role_is (port direction) name range q h = let same : direction ≡ q.direction = cc in ap (λ (d : Direction). port d) same
      role_is wire name range q h = cc
      role_is (tied value) name range q h = cc

directions_fine : (m : Written) → IsFromText m → Faultless m → (names : List (List ℕ)) → All (λ (q : Port). q.direction ≡ Other → ⊥) (filter_map (port_of (declarations m)) names)
directions_fine m f ok [] = All-nil (λ (q : Port). q.direction ≡ Other → ⊥)
directions_fine m f ok (n ∷ names) =
    by_option (λ o. All (λ (q : Port). q.direction ≡ Other → ⊥) (cons_option o (filter_map (port_of (declarations m)) names))) (port_of (declarations m) n)
    (λ q is. All-cons (λ (p : Port). p.direction ≡ Other → ⊥) q (filter_map (port_of (declarations m)) names)
    (λ other. let d = directed (declarations m) n q is in no_inout m f ok.inouts d.0 d.1 (d.2 ∙ ap (λ (x : Direction). port x) other))
    (directions_fine m f ok names))
    (λ is. directions_fine m f ok names)

port_nets : (ports : List Port) → AllZip IsNetOfPort ports (map net_of_port ports)
port_nets [] = tt
port_nets (p ∷ ports) = ((refl, refl), port_nets ports)

net_names : (ports : List Port) (ws : List Wire) → names_of ports ++ wire_names ws ≡ map (λ (net : Wire). net.name) (map net_of_port ports ++ ws)
net_names [] ws = refl
net_names (p ∷ ports) ws = ap (λ ns. p.name ∷ ns) (net_names ports ws)

-- ---- modules

module_fine : (m : Written) → IsFromText m → Faultless m → IsWellFormedModule (meant_module m)
module_fine m f ok =
    let ds = declares_nets m f ok in
    let fine = fine_statement m f ok in
    let wires = new_wires (port_names m) (flat_map (wires_in (declarations m)) m.statements) in
    record {
      directions = directions_fine m f ok (port_names m);
      ports = (map net_of_port (ports_of m), wires, refl, port_nets (ports_of m));
      names = subst AreDistinct (net_names (ports_of m) wires)
          (distinct [] (names_of (ports_of m) ++ wire_names wires) (nets_fresh (declarations m) (port_names m) (flat_map (wires_in (declarations m)) m.statements) (ports_named m f ok)));
      instances = instances_fine m ds m.statements fine;
      assigns = assigns_fine m ds m.statements (all_nets m f) ok.even fine;
    }

modules_fine : (ms all : List Written) → ((m : Written) → In m ms → In m all) → ((m : Written) → In m all → IsFromText m) → flat_map module_wrongs ms ≡ [] → All IsWellFormedModule (map meant_module ms)
modules_fine [] all within text none = All-nil IsWellFormedModule
modules_fine (m ∷ ms) all within text none =
    let parts = both_nothing (module_wrongs m) (flat_map module_wrongs ms) none in
    All-cons IsWellFormedModule (meant_module m) (map meant_module ms)
    (module_fine m (text m (within m (inl refl))) (faultless m parts.0))
    (modules_fine ms all (λ n at. within n (inr at)) text parts.1)

module_names : (ms : List Written) → map (λ (token : Token). token.text) (map (λ (m : Written). m.name) ms) ≡ map (λ (m : Module). m.name) (map meant_module ms)
module_names [] = refl
module_names (m ∷ ms) = ap (λ ns. m.name.text ∷ ns) (module_names ms)

no_wrong : (ws : List Wrong) → first_wrong ws ≡ None → ws ≡ []
no_wrong [] h = refl
no_wrong (w ∷ ws) h = absurd (none-some (earlier w (first_wrong ws)) (sym h))

abbrev Given : Type 0
Given = Result (List Module) (At VerilogKind)

meant_fine : (tokens : List Token) (modules : List Module) → ◌≡◌ {A = Given} (Ok modules) (meant (modules_of tokens)) → IsWellFormedNetlist modules
meant_fine tokens modules h =
    by_option (λ o. first_wrong (wrongs (modules_of tokens)) ≡ o → ◌≡◌ {A = Given} (Ok modules) (elim o [ None ↦ Ok (map meant_module (modules_of tokens)) | Some wrong ↦ fault wrong.token.line wrong.kind ]) → IsWellFormedNetlist modules) (first_wrong (wrongs (modules_of tokens)))
    (λ w _ e is. absurd (ok_err modules _ is))
    (λ _ e is. fine (no_wrong (wrongs (modules_of tokens)) e) (same_ok modules (map meant_module (modules_of tokens)) is)) refl h where
      fine : wrongs (modules_of tokens) ≡ [] → modules ≡ map meant_module (modules_of tokens) → IsWellFormedNetlist modules
      fine none same =
          let parts = both_nothing (map (wrong_at DoubleName) (repeated [] (map (λ (m : Written). m.name) (modules_of tokens)))) (flat_map module_wrongs (modules_of tokens)) none in
          let names = distinct [] (map (λ (token : Token). token.text) (map (λ (m : Written). m.name) (modules_of tokens)))
          (tokens_fresh [] (map (λ (m : Written). m.name) (modules_of tokens)) (no_map (wrong_at DoubleName) (repeated [] (map (λ (m : Written). m.name) (modules_of tokens))) parts.0)) in
          subst IsWellFormedNetlist (sym same)
          (modules_fine (modules_of tokens) (modules_of tokens) (λ m at. at) (from_text tokens) parts.1, subst AreDistinct (module_names (modules_of tokens)) names)

meaning_fine : (bytes : List ℕ) (tokens : List Token) (error : Option SyntaxError) (modules : List Module) → ◌≡◌ {A = Given} (Ok modules) (meaning bytes tokens error) → IsWellFormedNetlist modules
meaning_fine bytes tokens None modules h = meant_fine tokens modules h
meaning_fine bytes tokens (Some (broken.Token place)) modules h = cc
meaning_fine bytes tokens (Some broken.End) modules h = cc

-- what bytes mean is well formed
pub netlist_fine : (bytes : List ℕ) (modules : List Module) → ReadsVerilog bytes (Ok modules) → IsWellFormedNetlist modules
netlist_fine bytes modules (inl read) = meaning_fine bytes read.tokens read.error modules read.is
netlist_fine bytes modules (inr none) = absurd (ok_err modules _ none.1)
