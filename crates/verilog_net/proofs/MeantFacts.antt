-- What a module means, member by member.
use Rattle.std.proofs.Common.{◌≡◌, ◌∙◌, ◌+◌, ◌<◌, ◌++◌, ◌∷◌, [], ℕ, List, append_assoc, drop, get_or, length, map, sym, ap}
use Rattle.std.proofs.lemmas.List.{drop_more}
use Rattle.std.specs.List.{filter_map, flat_map}
use Rattle.source_types.specs.declared.netlists.Assign.{Assign}
use Rattle.source_types.specs.declared.netlists.Instance.{Instance}
use Rattle.source_types.specs.declared.netlists.Module.{Module}
use Rattle.source_types.specs.declared.netlists.Port.{Port}
use Rattle.source_types.specs.declared.netlists.Wire.{Wire}
use Rattle.netlist_model.specs.VerilogNets as spec
use Rattle.netlist_model.specs.VerilogStatements as grammar
use Rattle.netlist_model.specs.VerilogSyntax as syntax
use Rattle.netlist_model.specs.WellFormedNetlist.{net_of_port}
use Rattle.verilog_net.specs.declared.checking.names.Named.{Named}
use Rattle.verilog_net.specs.Modules.{written_seen}
use Rattle.verilog_net.specs.Names.{named_modules}

same_module : (n o : List ℕ) (l : ℕ) (ps qs : List Port) (ws vs : List Wire) (is js : List Instance) (cs bs : List Assign) → n ≡ o → ps ≡ qs → ws ≡ vs → is ≡ js → cs ≡ bs
    → ◌≡◌ {A = Module} (record { name = n; line = l; ports = ps; nets = ws; instances = is; assigns = cs }) (record { name = o; line = l; ports = qs; nets = vs; instances = js; assigns = bs })
same_module n o l ps qs ws vs is js cs bs e f g h k = cc

pub module_is : (m : grammar.Written) (all : List syntax.Declared) (name : List ℕ) (names : List (List ℕ)) (ports : List Port) (nets : List Wire) (instances : List Instance) (assigns : List Assign) → all ≡ grammar.declarations m
    → name ≡ m.name.text → names ≡ spec.port_names m → ports ≡ filter_map (spec.port_of all) names
    → nets ≡ map net_of_port ports ++ spec.new_wires names (flat_map (spec.wires_in all) m.statements)
    → instances ≡ flat_map (spec.instances_in all) m.statements → assigns ≡ flat_map (spec.assigns_in all) m.statements
    → ◌≡◌ {A = Module} (record { name = name; line = m.name.line; ports = ports; nets = nets; instances = instances; assigns = assigns }) (spec.meant_module m)
module_is m all name names ports nets instances assigns all_is name_is names_are ports_are nets_are instances_are assigns_are =
    let ports_same : ports ≡ spec.ports_of m = ports_are ∙ (ap (λ (ds : List syntax.Declared). filter_map (spec.port_of ds) names) all_is ∙ ap (filter_map (spec.port_of (grammar.declarations m))) names_are) in
    let nets_same : nets ≡ spec.nets_of m =
    nets_are ∙ (ap (λ (ps : List Port). map net_of_port ps ++ spec.new_wires names (flat_map (spec.wires_in all) m.statements)) ports_same
    ∙ (ap (λ (ns : List (List ℕ)). map net_of_port (spec.ports_of m) ++ spec.new_wires ns (flat_map (spec.wires_in all) m.statements)) names_are
    ∙ ap (λ (ds : List syntax.Declared). map net_of_port (spec.ports_of m) ++ spec.new_wires (spec.port_names m) (flat_map (spec.wires_in ds) m.statements)) all_is)) in
    same_module name m.name.text m.name.line ports (spec.ports_of m) nets (spec.nets_of m) instances (flat_map (spec.instances_in (grammar.declarations m)) m.statements) assigns (flat_map (spec.assigns_in (grammar.declarations m)) m.statements)
    name_is ports_same nets_same
    (instances_are ∙ ap (λ (ds : List syntax.Declared). flat_map (spec.instances_in ds) m.statements) all_is)
    (assigns_are ∙ ap (λ (ds : List syntax.Declared). flat_map (spec.assigns_in ds) m.statements) all_is)

-- one more module
pub modules_more : (all : List Named) (i : ℕ) (found more : List Module) (one : Module) (named : Named) (total : List Module) → i < length all → named ≡ get_or all i named
    → one ≡ spec.meant_module (written_seen named.written) → more ≡ found ++ one ∷ [] → found ++ map spec.meant_module (named_modules (drop i all)) ≡ total → more ++ map spec.meant_module (named_modules (drop (i + 1) all)) ≡ total
modules_more all i found more one named total inside item one_is is so_far =
    ap (λ (ms : List Module). ms ++ map spec.meant_module (named_modules (drop (i + 1) all))) (is ∙ ap (λ (m : Module). found ++ m ∷ []) one_is)
    ∙ (append_assoc found (spec.meant_module (written_seen named.written) ∷ []) (map spec.meant_module (named_modules (drop (i + 1) all)))
    ∙ (ap (λ (n : Named). found ++ spec.meant_module (written_seen n.written) ∷ map spec.meant_module (named_modules (drop (i + 1) all))) item
    ∙ (ap (λ (ns : List Named). found ++ map spec.meant_module (named_modules ns)) (sym (drop_more all i named inside)) ∙ so_far)))
