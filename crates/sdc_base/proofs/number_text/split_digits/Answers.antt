use Rattle.sdc_base.proofs.DigitFacts.{all_digits-take_while}
use Rattle.sdc_base.proofs.number_text.split_digits.Goals as goal

pub returns-clause-all : goal.returns-clause-all
returns-clause-all c = rw (c.split_at.ensures.front, c.count_digits.ensures.count) (all_digits-take_while c.args.text.now)
