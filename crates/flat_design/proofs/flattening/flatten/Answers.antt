use Rattle.std.proofs.Common.{List, sym, subst}
use Rattle.source_types.specs.declared.netlists.Module.{Module}
use Rattle.flat_model.specs.Flattening.{CanFlatten}
use Rattle.flat_design.specs.Elaborating.{IsElaborated}
use Rattle.flat_design.proofs.FlattenedFacts.{built_flattens, built_formed}
use Rattle.flat_design.proofs.flattening.flatten.Goals as goal

pub elaborate-requires : goal.elaborate-requires
elaborate-requires c = subst (λ (ms : List Module). CanFlatten ms c.args.lib.now) (sym c.as_slice.ensures) c.requires

pub returns-in-Ok-clause-flattens : goal.returns-in-Ok-clause-flattens
returns-in-Ok-clause-flattens c =
    built_flattens c.args.modules.now c.args.lib.now c.args.top.now c.in-Ok.design c.build.result
    (subst (λ (ms : List Module). IsElaborated ms c.args.lib.now c.args.top.now c.in-Ok.design) c.as_slice.ensures c.in-Ok.ensures) c.build.ensures

pub returns-in-Ok-clause-formed : goal.returns-in-Ok-clause-formed
returns-in-Ok-clause-formed c =
    built_formed c.args.modules.now c.args.lib.now c.args.top.now c.in-Ok.design c.build.result c.requires
    (subst (λ (ms : List Module). IsElaborated ms c.args.lib.now c.args.top.now c.in-Ok.design) c.as_slice.ensures c.in-Ok.ensures) c.build.ensures
