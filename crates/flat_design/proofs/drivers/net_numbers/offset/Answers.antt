use Rattle.std.proofs.Common.{Option, slice_get, ◌∙◌, ap, subst}
use Rattle.source_types.specs.declared.netlists.Range.{Range}
use Rattle.netlist_model.specs.Ranges.{indices}
use Rattle.netlist_model.specs.WellFormedNetlist.{Selects}
use Rattle.flat_design.proofs.NumberFacts.{scalar_index}
use Rattle.flat_design.proofs.drivers.net_numbers.offset.Goals as goal

pub offset_in-requires : goal.offset_in-requires
offset_in-requires c = subst (λ (o : Option Range). Selects c.args.index o) c.in-Some.is c.requires

pub returns-in-Some : goal.returns-in-Some
returns-in-Some c = ap (λ (o : Option Range). slice_get (indices o) c.offset_in.result) c.in-Some.is ∙ c.offset_in.ensures

pub returns-in-None : goal.returns-in-None
returns-in-None c =
    ap (λ (o : Option Range). slice_get (indices o) 0) c.in-None.is
    ∙ scalar_index c.args.index (subst (λ (o : Option Range). Selects c.args.index o) c.in-None.is c.requires)
