use Rattle.tcl_words.proofs.ListRead.{is_list_of, list_of_is}
use Rattle.tcl_words.proofs.list_laws.list_is_one.Goals as goal

pub returns : goal.returns
returns c = λ text outcome. (λ l. list_of_is text outcome l, λ e. is_list_of text outcome e)
