use Rattle.token_grammar.proofs.SyntaxErrors.{error_is_one}
use Rattle.token_grammar.proofs.laws.error_is_one.Goals as goal

pub returns : goal.returns
returns g c start kinds one other h k = error_is_one g.G.Grammar.table start kinds one other h k
