use Rattle.std.proofs.Common.{arith}
use Rattle.std.proofs.lemmas.Str.{IsCharBoundary-after_ascii}
use Rattle.tcl_words.proofs.operand.quoted_operand.Goals as goal

pub pieces_at-requires-clause-boundary : goal.pieces_at-requires-clause-boundary
pieces_at-requires-clause-boundary c = IsCharBoundary-after_ascii c.args.text.now c.args.from c.utf8.text c.requires.within (omega (arith, c.requires.opens))
