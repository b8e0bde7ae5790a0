use Rattle.std.proofs.Common.{◌≡◌, ◌++◌, drop}
use Rattle.std.specs.List.{AllByRecursion}
use Rattle.verilog_net.specs.Modules.{modules_from}
use Rattle.verilog_net.specs.Names.{IsNamed, named_modules}
use Rattle.verilog_net.specs.Seen.{tokens_seen}
use Rattle.verilog_net.proofs.parsing.modules.modules_of.Given as goal

abbrev pub invariant-loop-at : goal.invariant-loop-at
invariant-loop-at l = record {
  all : AllByRecursion IsNamed l.found.items;
  same : named_modules l.found.items ++ modules_from (tokens_seen (drop l.at l.tokens)) ≡ modules_from (tokens_seen l.tokens);
}
