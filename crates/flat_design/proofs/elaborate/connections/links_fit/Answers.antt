use Rattle.std.proofs.Common.{List, ◌∙◌, ap, sym}
use Rattle.source_types.specs.declared.netlists.Bit.{Bit}
use Rattle.source_types.specs.declared.netlists.Links.{Links}
use Rattle.flat_model.specs.Connections.{links_fit, ordered_fit}
use Rattle.flat_design.proofs.elaborate.connections.links_fit.Goals as goal

pub returns-in-Ordered : goal.returns-in-Ordered
returns-in-Ordered c = λ all is same.
    c.ordered_fit.ensures all same
    ∙ (ap (λ (cs : List (List Bit)). ordered_fit all cs) c.as_slice.ensures ∙ ap (λ (ls : Links). links_fit all ls) (sym c.in-Ordered.is))
