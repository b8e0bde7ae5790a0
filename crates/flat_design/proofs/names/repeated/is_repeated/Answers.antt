use Rattle.std.proofs.Common.{ℕ, Option, not, ◌∙◌, ap}
use Rattle.flat_design.specs.Fitting.{stands_first}
use Rattle.flat_design.proofs.RepeatFacts.{repeated_at}
use Rattle.flat_design.proofs.TableFacts.{table_gives}
use Rattle.flat_design.proofs.names.repeated.is_repeated.Goals as goal

pub returns : goal.returns
returns c = λ names is at.
    ap not (c.stands_first.ensures ∙ ap (λ (found : Option ℕ). stands_first found c.args.at)
    (table_gives c.args.places.now names c.place.result c.as_str.result.now c.args.name.now is c.place.ensures c.as_str.ensures))
    ∙ repeated_at names c.args.at c.args.name.now at
