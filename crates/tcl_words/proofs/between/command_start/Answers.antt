use Rattle.text_model.specs.Continued.{from_command, parting}
use Rattle.tcl_words.proofs.BetweenFacts.{from_command_nil}
use Rattle.tcl_words.proofs.GapFacts.{reached_end}
use Rattle.tcl_words.proofs.between.command_start.Goals as goal

pub returns : goal.returns
returns c = reached_end (from_command parting) c.args.bytes.now c.args.from c.loop-at.at (from_command_nil parting) c.loop-at.invariant c.loop-at-test.false
