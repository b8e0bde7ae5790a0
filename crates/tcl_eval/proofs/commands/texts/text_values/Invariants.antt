use Rattle.std.proofs.Common.{◌≡◌, ◌++◌, map, drop}
use Rattle.tcl_model.specs.HostCalls.{text_in}
use Rattle.tcl_eval.proofs.commands.texts.text_values.Given as goal

-- the texts so far and those of the values that are left are those of all
abbrev pub invariant-loop-value : goal.invariant-loop-value
invariant-loop-value g l =
    l.texts ++ map (text_in g.H.Commands.host (g.H.Commands.state l.host)) (drop l.value-index l.values)
    ≡ map (text_in g.H.Commands.host (g.H.Commands.state l.host)) l.values
