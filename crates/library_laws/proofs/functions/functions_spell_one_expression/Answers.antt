use Rattle.library_laws.proofs.SpelledIsRead.{spells_one}
use Rattle.library_laws.proofs.functions.functions_spell_one_expression.Goals as goal

pub returns : goal.returns
returns c = λ names text d e. spells_one names text d e
