use Rattle.std.proofs.lemmas.Str.{IsCharBoundary-after_ascii}
use Rattle.verilog_net.proofs.lexing.runs.byte_at.Goals as goal

pub piece-requires-clause-to : goal.piece-requires-clause-to
piece-requires-clause-to c = IsCharBoundary-after_ascii c.args.text.now c.args.at c.utf8.text c.requires.within c.requires.ascii
