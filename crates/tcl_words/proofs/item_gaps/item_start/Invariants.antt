use Rattle.std.proofs.Common.{length, ◌-◌}
use Rattle.tcl_model.specs.ListItems.{after_parting}
use Rattle.tcl_words.proofs.GapFacts.{Reached}
use Rattle.tcl_words.proofs.item_gaps.item_start.Given as goal

abbrev pub invariant-loop-at : goal.invariant-loop-at
invariant-loop-at l = Reached after_parting l.bytes l.from l.at

abbrev pub decreases-loop-at : goal.decreases-loop-at
decreases-loop-at l = length l.bytes - l.at
