use Rattle.std.proofs.Common.{◌+◌, drop, arith}
use Rattle.std.proofs.lemmas.Result.{err_from_is_err_and}
use Rattle.std.proofs.lemmas.Str.{IsCharBoundary-after_ascii}
use Rattle.text_model.specs.Enclosed.{after_brace}
use Rattle.tcl_model.specs.ExpressionTokens.{IsBracedToken}
use Rattle.tcl_words.proofs.OperandFacts.{braced_stop}
use Rattle.tcl_words.proofs.operand.braced_operand.Goals as goal

pub range-requires-clause-start_boundary : goal.range-requires-clause-start_boundary
range-requires-clause-start_boundary c = λ _. IsCharBoundary-after_ascii c.args.text.now c.args.from c.utf8.text c.requires.within (omega (arith, c.requires.opens))

pub returns-in_err-word : goal.returns-in_err-word
returns-in_err-word c =
    let inside = drop (c.args.from + 1) c.args.text.now in
    let same = err_from_is_err_and c.from_residual-in_err-word.result c.from_residual-in_err-word.ensures.1 in
    rw (same.1, same.2) (braced_stop (IsBracedToken inside (after_brace inside)) c.args.text.now c.range.result.now c.args.from c.in_err-word.field-0.0 c.in_err-word.ensures)
