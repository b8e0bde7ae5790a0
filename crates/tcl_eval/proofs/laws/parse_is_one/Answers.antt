use Rattle.tcl_eval.proofs.OneParse.{parses_once}
use Rattle.tcl_eval.proofs.laws.parse_is_one.Goals as goal

pub returns : goal.returns
returns c = λ text. parses_once text
