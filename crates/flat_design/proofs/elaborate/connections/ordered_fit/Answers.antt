use Rattle.std.proofs.Common.{List, ℕ, ◌∙◌, ap}
use Rattle.flat_design.specs.Fitting.{fit_from}
use Rattle.flat_design.proofs.FittingFacts.{fit_ordered}
use Rattle.flat_design.proofs.elaborate.connections.ordered_fit.Goals as goal

pub returns : goal.returns
returns c = λ terminals same.
    c.fit_in_order.ensures
    ∙ (ap (λ (ws : List ℕ). fit_from ws 0 c.args.connections.now) same ∙ fit_ordered terminals c.args.connections.now)
