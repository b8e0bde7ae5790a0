use Rattle.sdc_base.proofs.NumberBack.{number_text_reads_back, number_text_is_plain}
use Rattle.sdc_base.proofs.number_laws.number_texts_read_back.Goals as goal

pub returns-clause-back : goal.returns-clause-back
returns-clause-back c = number_text_reads_back

pub returns-clause-plain : goal.returns-clause-plain
returns-clause-plain c = number_text_is_plain
