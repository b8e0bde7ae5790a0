use Rattle.library_laws.proofs.UsableLibraries.{library_usable}
use Rattle.library_laws.proofs.libraries.read_libraries_can_be_used.Goals as goal

pub returns : goal.returns
returns c = λ bytes library. library_usable bytes library
