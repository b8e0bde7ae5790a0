use Rattle.sdc_base.proofs.LawFacts.{read_is_spelled, spelled_is_read, range_is_exact, form_is_exact}
use Rattle.sdc_base.proofs.number_laws.reading_is_exact.Goals as goal

pub returns-clause-read : goal.returns-clause-read
returns-clause-read c = read_is_spelled

pub returns-clause-spelled : goal.returns-clause-spelled
returns-clause-spelled c = spelled_is_read

pub returns-clause-range : goal.returns-clause-range
returns-clause-range c = range_is_exact

pub returns-clause-form : goal.returns-clause-form
returns-clause-form c = form_is_exact
