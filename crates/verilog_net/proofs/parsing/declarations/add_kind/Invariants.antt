use Rattle.std.proofs.Common.{◌≡◌, ◌++◌, drop}
use Rattle.std.specs.List.{filter}
use Rattle.netlist_model.specs.VerilogSyntax as grammar
use Rattle.verilog_net.specs.Seen.{tokens_seen}
use Rattle.verilog_net.proofs.parsing.declarations.add_kind.Given as goal

abbrev pub invariant-loop-token : goal.invariant-loop-token
invariant-loop-token l =
    tokens_seen l.found.items ++ filter (grammar.is l.kind) (tokens_seen (drop l.token-index l.tokens)) ≡ tokens_seen l.fn.found.items ++ filter (grammar.is l.kind) (tokens_seen l.tokens)
