use Rattle.std.proofs.Common.{List, ℕ, Err, drop, subst}
use Rattle.sdc_base.specs.Gives.{Meets}
use Rattle.tcl_model.specs.Pieces as grammar
use Rattle.tcl_words.specs.declared.pieces.Step.{Step}
use Rattle.tcl_words.specs.Steps.{StepAt}
use Rattle.tcl_words.proofs.OperandFacts.{variable_stop}
use Rattle.tcl_words.proofs.operand.variable_operand.Goals as goal

pub returns-in-Err : goal.returns-in-Err
returns-in-Err c =
    let text = c.args.text.now in
    let step = subst (λ (t : List ℕ). Meets {T = Step} (Err c.in-Err.stop) (StepAt (grammar.piece_at grammar.bare (drop c.args.from t)) t c.args.from)) c.as_bytes.ensures.value c.in-Err.ensures in
    variable_stop text c.args.from c.in-Err.stop c.malformed.result c.requires.within c.requires.opens c.malformed.ensures step
