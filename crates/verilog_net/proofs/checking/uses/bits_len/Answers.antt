use Rattle.verilog_net.proofs.KindFacts.{no_token}
use Rattle.verilog_net.specs.declared.parsing.pieces.Piece.TheVariants.{Whole}
use Rattle.verilog_net.proofs.UseFacts.{len_more, overlong_sum}
use Rattle.verilog_net.proofs.checking.uses.bits_len.Goals as goal

pub loop-piece-preserved : goal.loop-piece-preserved
loop-piece-preserved c =
    len_more c.args.names.now c.args.pieces.now c.loop-piece.piece-index c.loop-piece.len c.in_ok-more.more c.in_ok-longer.longer _ (Whole no_token)
    c.loop-piece-test.true c.in_ok-more.ensures.is c.in_ok-longer.ensures.is c.loop-piece.invariant

pub returns-in_err-longer-clause-limit : goal.returns-in_err-longer-clause-limit
returns-in_err-longer-clause-limit c =
    overlong_sum c.from_residual-in_err-longer.result c.args.names.now c.args.pieces.now c.loop-piece.piece-index c.loop-piece.len c.in_ok-more.more (Whole no_token)
    c.loop-piece-test.true c.in_ok-more.ensures.is c.in_err-longer.ensures.limit c.loop-piece.invariant
