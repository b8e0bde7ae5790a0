use Rattle.std.proofs.Common.{ℕ, Option, Some, sym, ◌∙◌, ap, subst}
use Rattle.netlist_model.specs.Ranges.{from_to}
use Rattle.netlist_model.specs.WellFormedNetlist.{Selects}
use Rattle.flat_design.proofs.RangeFacts.{map_at}
use Rattle.flat_design.proofs.drivers.net_numbers.offset_in.Goals as goal

pub between-requires : goal.between-requires
between-requires c = subst (λ (o : Option ℕ). Selects o (Some c.args.range)) c.in-Some.is c.requires

pub returns-in-Some : goal.returns-in-Some
returns-in-Some c =
    map_at (λ (i : ℕ). Some i) (from_to c.args.range.left c.args.range.right) c.between.result c.in-Some.index c.between.ensures
    ∙ ap (λ (o : Option ℕ). Some o) (sym c.in-Some.is)

pub returns-in-None : goal.returns-in-None
returns-in-None c = absurd (subst (λ (o : Option ℕ). Selects o (Some c.args.range)) c.in-None.is c.requires)
