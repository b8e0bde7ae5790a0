use Rattle.std.proofs.Common.{◌≡◌, ◌++◌, drop, map}
use Rattle.netlist_model.specs.Verilog as spec
use Rattle.verilog_net.specs.Faults.{wrongs_seen}
use Rattle.verilog_net.specs.Seen.{tokens_seen}
use Rattle.verilog_net.proofs.checking.faults.add_wrongs.Given as goal

abbrev pub invariant-loop-token : goal.invariant-loop-token
invariant-loop-token l =
    wrongs_seen l.found.items ++ map (spec.wrong_at l.kind) (tokens_seen (drop l.token-index l.tokens))
    ≡ wrongs_seen l.fn.found.items ++ map (spec.wrong_at l.kind) (tokens_seen l.tokens)
