use Rattle.library_laws.proofs.LibraryMeans.{library_some}
use Rattle.library_laws.proofs.OneLibrary.{library_once}
use Rattle.library_laws.proofs.libraries.libraries_have_one_meaning.Goals as goal

pub returns-clause-some : goal.returns-clause-some
returns-clause-some c = λ bytes. library_some bytes

pub returns-clause-one : goal.returns-clause-one
returns-clause-one c = λ bytes one other h k. library_once bytes one other h k
