use Rattle.timing_laws.proofs.MetLists.{no_list_lost}
use Rattle.timing_laws.proofs.classes.prefixes_lose_no_met_list.Goals as goal

pub returns : goal.returns
returns c lists node nodes count more is after = no_list_lost lists node nodes count more is after
