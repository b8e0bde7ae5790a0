use Rattle.std.proofs.Common.{◌≡◌, drop}
use Rattle.std.specs.List.{filter}
use Rattle.netlist_model.specs.VerilogSyntax as grammar
use Rattle.verilog_net.specs.Seen.{tokens_seen}
use Rattle.verilog_net.specs.Syntax.{range_after}
use Rattle.verilog_net.proofs.parsing.declarations.range_of.Given as goal

abbrev pub invariant-loop-token : goal.invariant-loop-token
invariant-loop-token l =
    range_after l.left (filter grammar.is_bound (tokens_seen (drop l.token-index l.tokens))) ≡ grammar.range_of (filter grammar.is_bound (tokens_seen l.tokens))
