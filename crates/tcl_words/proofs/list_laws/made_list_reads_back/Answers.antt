use Rattle.tcl_words.proofs.ItemsBack.{list_back}
use Rattle.tcl_words.proofs.list_laws.made_list_reads_back.Goals as goal

pub returns : goal.returns
returns c = λ items. list_back items
