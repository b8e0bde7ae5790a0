use Rattle.std.proofs.Common.{drop}
use Rattle.verilog_net.proofs.TableFacts.{EntriesSoFar}
use Rattle.verilog_net.proofs.checking.names.add_entries.Given as goal

abbrev pub invariant-loop-one : goal.invariant-loop-one
invariant-loop-one l = EntriesSoFar l.fn.entries l.entries (drop l.one-index l.declared) l.declared
