use Rattle.library_laws.proofs.ReadIsSpelled.{read_is_spelled}
use Rattle.library_laws.proofs.SpelledIsRead.{spelled_is_read}
use Rattle.library_laws.proofs.functions.functions_are_read_as_spelled.Goals as goal

pub returns : goal.returns
returns c = λ names text e. (read_is_spelled names text e, spelled_is_read names text e)
