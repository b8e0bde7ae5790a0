use Rattle.std.proofs.Common.{Some, false, drop, length, ◌-◌}
use Rattle.text_model.specs.Enclosed as grammar
use Rattle.tcl_words.specs.Nests.{nest_of}
use Rattle.tcl_words.proofs.NestFacts.{InNest}
use Rattle.tcl_words.proofs.enclosed.nest_end.Given as goal

abbrev pub invariant-loop-at : goal.invariant-loop-at
invariant-loop-at l =
    InNest (grammar.after_open (nest_of (Some l.initial.nest)) l.initial.begins false (drop l.from l.bytes)) l.bytes l.from l.at l.nest l.begins

abbrev pub decreases-loop-at : goal.decreases-loop-at
decreases-loop-at l = length l.bytes - l.at
