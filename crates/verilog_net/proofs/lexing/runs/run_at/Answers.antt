use Rattle.verilog_net.proofs.RunFacts.{run_cuts}
use Rattle.verilog_net.proofs.lexing.runs.run_at.Goals as goal

pub piece-requires-clause-to : goal.piece-requires-clause-to
piece-requires-clause-to c = run_cuts c.args.run c.args.text.now c.args.at c.run_len-len.result c.utf8.text c.requires.within c.requires.first (rw c.as_bytes.ensures.value at c.run_len-len.ensures.is)
