-- Pieces of connections and instances, part by part.
use Rattle.std.proofs.Common.{◌≡◌, ◌++◌, ◌∷◌, List}
use Rattle.std.proofs.lemmas.List.Concat.{flat_map-append}
use Rattle.std.specs.List.{flat_map}
use Rattle.netlist_model.specs.VerilogNets.{connected}
use Rattle.netlist_model.specs.VerilogStatements as grammar
use Rattle.netlist_model.specs.VerilogSyntax as syntax
use Rattle.netlist_model.specs.VerilogTokens as lexical

pub link_more : (part : List lexical.Token) (parts : List (List lexical.Token)) → flat_map (λ (link : lexical.Token × List syntax.Piece). link.1) (flat_map grammar.named_one (part ∷ parts))
    ≡ flat_map (λ (link : lexical.Token × List syntax.Piece). link.1) (grammar.named_one part) ++ flat_map (λ (link : lexical.Token × List syntax.Piece). link.1) (flat_map grammar.named_one parts)
link_more part parts = flat_map-append (λ (link : lexical.Token × List syntax.Piece). link.1) (grammar.named_one part) (flat_map grammar.named_one parts)

pub placed_more : (kind : lexical.Token) (part : List lexical.Token) (parts : List (List lexical.Token)) → flat_map (λ (placed : grammar.Placed). connected placed.connections) (flat_map (grammar.instance_of kind) (part ∷ parts))
    ≡ flat_map (λ (placed : grammar.Placed). connected placed.connections) (grammar.instance_of kind part) ++ flat_map (λ (placed : grammar.Placed). connected placed.connections) (flat_map (grammar.instance_of kind) parts)
placed_more kind part parts = flat_map-append (λ (placed : grammar.Placed). connected placed.connections) (grammar.instance_of kind part) (flat_map (grammar.instance_of kind) parts)
