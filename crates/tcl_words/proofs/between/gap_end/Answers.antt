use Rattle.std.proofs.Common.{false}
use Rattle.text_model.specs.Continued.{after_gap}
use Rattle.text_model.proofs.ByteFacts.{gap_nil}
use Rattle.tcl_words.proofs.GapFacts.{reached_end}
use Rattle.tcl_words.proofs.between.gap_end.Goals as goal

pub returns : goal.returns
returns c = reached_end (after_gap false) c.args.bytes.now c.args.from c.loop-at.at gap_nil c.loop-at.invariant c.loop-at-test.false
