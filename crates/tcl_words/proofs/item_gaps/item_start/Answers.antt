use Rattle.std.proofs.Common.{arith}
use Rattle.tcl_model.specs.ListItems.{after_parting}
use Rattle.tcl_words.proofs.GapFacts.{reached_end}
use Rattle.tcl_words.proofs.ItemGaps.{parting_nil}
use Rattle.tcl_words.proofs.item_gaps.item_start.Goals as goal

pub returns : goal.returns
returns c = reached_end after_parting c.args.bytes.now c.args.from c.loop-at.at parting_nil c.loop-at.invariant (omega (arith, c.loop-at-test.false))
