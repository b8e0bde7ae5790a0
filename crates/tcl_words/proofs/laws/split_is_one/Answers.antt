use Rattle.tcl_words.proofs.OneOutcome.{splits_once}
use Rattle.tcl_words.proofs.laws.split_is_one.Goals as goal

pub returns : goal.returns
returns c = λ text r s p q. splits_once text r s p q
