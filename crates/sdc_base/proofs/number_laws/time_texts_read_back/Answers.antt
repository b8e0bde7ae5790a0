use Rattle.sdc_base.proofs.ReadBackFacts.{time_text_reads_back, time_text_plain}
use Rattle.sdc_base.proofs.number_laws.time_texts_read_back.Goals as goal

pub returns-clause-back : goal.returns-clause-back
returns-clause-back c = time_text_reads_back

pub returns-clause-plain : goal.returns-clause-plain
returns-clause-plain c = time_text_plain
