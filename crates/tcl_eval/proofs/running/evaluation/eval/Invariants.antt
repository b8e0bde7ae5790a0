use Rattle.std.proofs.Common.{length}
use Rattle.tcl_eval.specs.Worlds.{world}
use Rattle.tcl_eval.proofs.CommandRuns.{ScriptOn}
use Rattle.tcl_eval.proofs.running.evaluation.eval.Given as goal

-- whatever is told after the place, is told from the beginning on
abbrev pub invariant-loop-run : goal.invariant-loop-run
invariant-loop-run g l =
    ScriptOn g.H.Commands.host l.script (g.H.Commands.state l.initial.host) l.reader (world l.run (g.H.Commands.state l.host))

abbrev pub decreases-loop-run : goal.decreases-loop-run
decreases-loop-run g l = length l.reader.text
