use Rattle.std.proofs.Common.{◌≡◌, ◌++◌, drop, map}
use Rattle.netlist_model.specs.VerilogSyntax as syntax
use Rattle.verilog_net.specs.Seen.{tokens_seen}
use Rattle.verilog_net.specs.Syntax.{declareds_seen}
use Rattle.verilog_net.specs.Wires.{texts}
use Rattle.verilog_net.proofs.meaning.ports.add_declared_names.Given as goal

abbrev pub invariant-loop-one : goal.invariant-loop-one
invariant-loop-one l =
    texts (tokens_seen l.names.items) ++ map (λ (d : syntax.Declared). d.name.text) (declareds_seen (drop l.one-index l.declared))
    ≡ texts (tokens_seen l.fn.names.items) ++ map (λ (d : syntax.Declared). d.name.text) (declareds_seen l.declared)
