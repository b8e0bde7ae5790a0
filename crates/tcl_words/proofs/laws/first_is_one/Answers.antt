use Rattle.tcl_words.proofs.OneOutcome.{from_once}
use Rattle.tcl_words.proofs.laws.first_is_one.Goals as goal

pub returns : goal.returns
returns c = λ text from line r s p q. from_once text from line r s p q
