-- Named connections and instances, part by part.
use Rattle.std.proofs.Common.{◌≡◌, ◌++◌, ◌∷◌, List, map}
use Rattle.std.proofs.lemmas.List.{map-append}
use Rattle.std.specs.List.{flat_map}
use Rattle.netlist_model.specs.VerilogNets.{instance_from}
use Rattle.netlist_model.specs.VerilogStatements as grammar
use Rattle.netlist_model.specs.VerilogSyntax as syntax
use Rattle.netlist_model.specs.VerilogTokens as lexical
use Rattle.verilog_net.specs.Links.{link_from}

pub links_more : (all : List syntax.Declared) (part : List lexical.Token) (parts : List (List lexical.Token)) → map (link_from all) (flat_map grammar.named_one (part ∷ parts))
    ≡ map (link_from all) (grammar.named_one part) ++ map (link_from all) (flat_map grammar.named_one parts)
links_more all part parts = map-append (link_from all) (grammar.named_one part) (flat_map grammar.named_one parts)

pub instances_more : (all : List syntax.Declared) (kind : lexical.Token) (part : List lexical.Token) (parts : List (List lexical.Token)) → map (instance_from all) (flat_map (grammar.instance_of kind) (part ∷ parts))
    ≡ map (instance_from all) (grammar.instance_of kind part) ++ map (instance_from all) (flat_map (grammar.instance_of kind) parts)
instances_more all kind part parts = map-append (instance_from all) (grammar.instance_of kind part) (flat_map (grammar.instance_of kind) parts)
