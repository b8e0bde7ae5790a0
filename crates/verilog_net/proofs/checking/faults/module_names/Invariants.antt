use Rattle.std.proofs.Common.{◌≡◌, ◌++◌, drop, map}
use Rattle.netlist_model.specs.VerilogStatements as grammar
use Rattle.verilog_net.specs.Names.{named_modules}
use Rattle.verilog_net.specs.Seen.{tokens_seen}
use Rattle.verilog_net.proofs.checking.faults.module_names.Given as goal

abbrev pub invariant-loop-named : goal.invariant-loop-named
invariant-loop-named l =
    tokens_seen l.names.items ++ map (λ (m : grammar.Written). m.name) (named_modules (drop l.named-index l.modules))
    ≡ map (λ (m : grammar.Written). m.name) (named_modules l.modules)
