use Rattle.std.proofs.Common.{arith}
use Rattle.std.proofs.lemmas.Str.{IsCharBoundary-start}
use Rattle.tcl_eval.proofs.running.command_reader.CommandReader.new.Goals as goal

pub invariant_of-result : goal.invariant_of-result
invariant_of-result c = (omega arith, IsCharBoundary-start c.args.script.now c.utf8.script)
