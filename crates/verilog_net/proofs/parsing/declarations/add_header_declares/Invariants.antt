use Rattle.std.proofs.Common.{◌≡◌, ◌++◌, drop}
use Rattle.netlist_model.specs.VerilogSyntax as grammar
use Rattle.verilog_net.specs.Seen.{tokens_seen}
use Rattle.verilog_net.specs.Syntax.{declareds_seen}
use Rattle.verilog_net.proofs.parsing.declarations.add_header_declares.Given as goal

abbrev pub invariant-loop-at : goal.invariant-loop-at
invariant-loop-at l =
    declareds_seen l.found.items ++ grammar.header_declares (tokens_seen (drop l.at l.tokens)) ≡ declareds_seen l.fn.found.items ++ grammar.header_declares (tokens_seen l.tokens)
