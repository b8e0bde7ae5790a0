use Rattle.flat_design.proofs.EmptyFacts.{empty_is_formed}
use Rattle.flat_design.proofs.empty_design.empty.Goals as goal

pub returns-clause-formed : goal.returns-clause-formed
returns-clause-formed c = rw (c.new.ensures, c.new-2.ensures, c.new-3.ensures, c.new-4.ensures, c.new-5.ensures) empty_is_formed
