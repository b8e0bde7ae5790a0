use Rattle.std.proofs.Common.{sym}
use Rattle.tcl_eval.proofs.OperatorFacts.{pair_token, single_token}
use Rattle.tcl_eval.proofs.expressions.operators.operator_at.Goals as goal

pub returns-in-Some : goal.returns-in-Some
returns-in-Some c = pair_token c.args.bytes.now c.args.at c.in-Some.operator c.in-Some.ensures

pub returns-in-Some-single : goal.returns-in-Some-single
returns-in-Some-single c =
    single_token c.args.bytes.now c.args.at c.in-Some-single.token c.requires c.in_default.ensures (sym c.in-Some-single.ensures)
