use Rattle.std.proofs.Common.{◌≡◌, List, Some, None, Err, sym, ◌∙◌, ap, subst}
use Rattle.sdc_base.specs.declared.memory.At.{At}
use Rattle.source_types.specs.declared.fault_kinds.DesignKind.{DesignKind}
use Rattle.source_types.specs.declared.libraries.Library.{Library}
use Rattle.source_types.specs.declared.netlists.Module.{Module}
use Rattle.flat_model.specs.Flattening.{Flattens}
use Rattle.flat_design.specs.Names.{place_of}
use Rattle.flat_design.specs.Steps.{all_steps, module_names}
use Rattle.flat_design.specs.Walk.{AreOrdered}
use Rattle.flat_design.proofs.Elaborated.{fault_lifted, hierarchy_lifted, steps_count, steps_within, top_at, unknown_top}
use Rattle.flat_design.proofs.StepFacts.{module_within}
use Rattle.flat_design.proofs.elaborate.instances.elaborate.Goals as goal

pub all_steps-requires : goal.all_steps-requires
all_steps-requires c = c.in_ok-tables.ensures.2

pub module_place-requires : goal.module_place-requires
module_place-requires c = c.in_ok-tables.ensures.2

pub returns-in-None : goal.returns-in-None
returns-in-None c =
    let none : place_of (module_names c.args.modules.now) c.args.top.now ≡ None =
    ap (λ (ms : List Module). place_of (module_names ms) c.args.top.now) (sym c.in_ok-tables.ensures.0) ∙ (sym c.module_place.ensures ∙ c.in-None.is) in
    subst (λ (first : At DesignKind). Flattens c.args.modules.now c.args.library.now c.args.top.now (Err first)) (sym c.without_line.ensures)
    (unknown_top c.args.modules.now c.args.library.now c.args.top.now none)

pub check_instances-requires-clause-top : goal.check_instances-requires-clause-top
check_instances-requires-clause-top c =
    let modules = c.args.modules.now in
    let library = c.args.library.now in
    let at : place_of (module_names modules) c.args.top.now ≡ Some c.in-Some.place =
    ap (λ (ms : List Module). place_of (module_names ms) c.args.top.now) (sym c.in_ok-tables.ensures.0) ∙ (sym c.module_place.ensures ∙ c.in-Some.is) in
    let steps : c.as_slice-known.result.now ≡ all_steps modules library =
    c.as_slice-known.ensures ∙ (c.in_ok-steps.ensures ∙ (ap (λ (ms : List Module). all_steps ms c.in_ok-tables.tables.library.now) c.in_ok-tables.ensures.0
    ∙ ap (λ (lib : Library). all_steps modules lib) c.in_ok-tables.ensures.1)) in
    steps_count modules library c.as_slice-known.result.now c.args.top.now c.in-Some.place steps at

pub check_instances-requires-clause-within : goal.check_instances-requires-clause-within
check_instances-requires-clause-within c =
    let modules = c.args.modules.now in
    let library = c.args.library.now in
    let steps : c.as_slice-known.result.now ≡ all_steps modules library =
    c.as_slice-known.ensures ∙ (c.in_ok-steps.ensures ∙ (ap (λ (ms : List Module). all_steps ms c.in_ok-tables.tables.library.now) c.in_ok-tables.ensures.0
    ∙ ap (λ (lib : Library). all_steps modules lib) c.in_ok-tables.ensures.1)) in
    steps_within modules library c.as_slice-known.result.now steps

pub returns-in-Err : goal.returns-in-Err
returns-in-Err c =
    let modules = c.args.modules.now in
    let library = c.args.library.now in
    let at : place_of (module_names modules) c.args.top.now ≡ Some c.in-Some.place =
    ap (λ (ms : List Module). place_of (module_names ms) c.args.top.now) (sym c.in_ok-tables.ensures.0) ∙ (sym c.module_place.ensures ∙ c.in-Some.is) in
    let steps : c.as_slice-known.result.now ≡ all_steps modules library =
    c.as_slice-known.ensures ∙ (c.in_ok-steps.ensures ∙ (ap (λ (ms : List Module). all_steps ms c.in_ok-tables.tables.library.now) c.in_ok-tables.ensures.0
    ∙ ap (λ (lib : Library). all_steps modules lib) c.in_ok-tables.ensures.1)) in
    let body = top_at modules c.args.top.now c.in-Some.place at in
    fault_lifted modules library c.args.top.now body.0 body.1 c.in-Err.stop (c.in-Err.ensures.sound library body.0 c.requires.0.1 steps body.2)

pub expanded-requires-clause-top : goal.expanded-requires-clause-top
expanded-requires-clause-top c =
    let modules = c.args.modules.now in
    let at : place_of (module_names modules) c.args.top.now ≡ Some c.in-Some.place =
    ap (λ (ms : List Module). place_of (module_names ms) c.args.top.now) (sym c.in_ok-tables.ensures.0) ∙ (sym c.module_place.ensures ∙ c.in-Some.is) in
    module_within modules c.args.top.now c.in-Some.place at

pub expanded-requires-clause-netlist : goal.expanded-requires-clause-netlist
expanded-requires-clause-netlist c = c.requires.0

pub expanded-requires-clause-steps : goal.expanded-requires-clause-steps
expanded-requires-clause-steps c =
    c.as_slice-known.ensures ∙ (c.in_ok-steps.ensures ∙ (ap (λ (ms : List Module). all_steps ms c.in_ok-tables.tables.library.now) c.in_ok-tables.ensures.0
    ∙ ap (λ (lib : Library). all_steps c.args.modules.now lib) c.in_ok-tables.ensures.1))

pub expanded-requires-clause-order : goal.expanded-requires-clause-order
expanded-requires-clause-order c =
    subst (AreOrdered c.as_slice-known.result.now) (sym c.as_slice.ensures) c.in-Ok.ensures.order

pub expanded-requires-clause-sound : goal.expanded-requires-clause-sound
expanded-requires-clause-sound c = λ body found.
    let modules = c.args.modules.now in
    let library = c.args.library.now in
    let steps : c.as_slice-known.result.now ≡ all_steps modules library =
    c.as_slice-known.ensures ∙ (c.in_ok-steps.ensures ∙ (ap (λ (ms : List Module). all_steps ms c.in_ok-tables.tables.library.now) c.in_ok-tables.ensures.0
    ∙ ap (λ (lib : Library). all_steps modules lib) c.in_ok-tables.ensures.1)) in
    c.in-Ok.ensures.sound library body c.requires.0.1 steps found

pub returns : goal.returns
returns c =
    let modules = c.args.modules.now in
    let library = c.args.library.now in
    let at : place_of (module_names modules) c.args.top.now ≡ Some c.in-Some.place =
    ap (λ (ms : List Module). place_of (module_names ms) c.args.top.now) (sym c.in_ok-tables.ensures.0) ∙ (sym c.module_place.ensures ∙ c.in-Some.is) in
    let steps : c.as_slice-known.result.now ≡ all_steps modules library =
    c.as_slice-known.ensures ∙ (c.in_ok-steps.ensures ∙ (ap (λ (ms : List Module). all_steps ms c.in_ok-tables.tables.library.now) c.in_ok-tables.ensures.0
    ∙ ap (λ (lib : Library). all_steps modules lib) c.in_ok-tables.ensures.1)) in
    let body = top_at modules c.args.top.now c.in-Some.place at in
    hierarchy_lifted modules library c.args.top.now body.0 body.1 (c.in-Ok.ensures.sound library body.0 c.requires.0.1 steps body.2) c.expanded.result (c.expanded.ensures body.0 body.2)
