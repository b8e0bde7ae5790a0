use Rattle.token_grammar.proofs.SyntaxErrors.{error_is}
use Rattle.token_grammar.proofs.laws.machine_finds_the_error.Goals as goal

pub returns : goal.returns
returns g c start kinds = error_is g.G.Grammar.table g.G.Grammar.follow g.met.G.Grammar.decides start kinds
