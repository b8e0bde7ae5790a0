use Rattle.tcl_eval.proofs.OneParse.{expressions_once}
use Rattle.tcl_eval.proofs.laws.expression_is_one.Goals as goal

pub returns : goal.returns
returns c = λ text. expressions_once text
