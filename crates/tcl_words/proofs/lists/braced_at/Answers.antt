use Rattle.std.proofs.Common.{arith}
use Rattle.std.proofs.lemmas.Result.{err_from_is_err_and}
use Rattle.std.proofs.lemmas.Str.{IsCharBoundary-after_ascii}
use Rattle.tcl_words.proofs.ItemFacts.{braced_stop}
use Rattle.tcl_words.proofs.lists.braced_at.Goals as goal

pub range-requires-clause-start_boundary : goal.range-requires-clause-start_boundary
range-requires-clause-start_boundary c = λ _. IsCharBoundary-after_ascii c.args.text.now c.args.from c.utf8.text c.requires.within (omega (arith, c.requires.opens))

pub returns-in_err-item : goal.returns-in_err-item
returns-in_err-item c =
    let same = err_from_is_err_and c.from_residual-in_err-item.result c.from_residual-in_err-item.ensures.1 in
    rw (same.1, same.2) (braced_stop c.args.text.now c.range.result.now c.args.from c.in_err-item.field-0.0 c.in_err-item.ensures)
