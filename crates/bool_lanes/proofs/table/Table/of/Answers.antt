use Rattle.std.proofs.Common.{◌≡◌, ◌≢◌, ◌≤◌, ◌<◌, ◌^◌, false, length, get_or, set, get_or-set_other, get_or-set_same, length-set, below_more, arith, subst}
use Rattle.function_model.specs.FunctionValue.{pin_value, value_of}
use Rattle.bool_lanes.proofs.Completions.{few_completions}
use Rattle.bool_lanes.proofs.table.Table.of.Goals as goal

pub bounds-values-from : goal.bounds-values-from
bounds-values-from c =
    let few : 2 ^ c.args.inputs ≤ 1024 = few_completions c.args.inputs c.requires.few in
    grind (arith, few, c.from.ensures, c.loop-completion-test.true, c.completions-completion-end.ensures)

pub loop-completion-preserved : goal.loop-completion-preserved
loop-completion-preserved c =
    let e : c.from.result ≡ c.loop-completion.completion = c.from.ensures in
    let few : 2 ^ c.args.inputs ≤ 1024 = few_completions c.args.inputs c.requires.few in
    let within : c.from.result < 1024 =
    grind (arith, few, e, c.loop-completion-test.true, c.completions-completion-end.ensures) in
    let room : length c.loop-completion.values ≡ 1024 = c.loop-completion.invariant.room in
    let lt : c.from.result < length c.loop-completion.values = omega (arith, within, room) in
    record {
      room = rw length-set room;
      each = below_more _ _
          (λ k h. let ne : k ≢ c.from.result = omega (arith, e, h) in rw get_or-set_other (c.loop-completion.invariant.each k h))
          (subst (λ j. get_or (set c.loop-completion.values c.from.result c.value_under.result) j false
          ≡ value_of (pin_value c.loop-completion.completion) c.args.expr.now) e (rw get_or-set_same c.value_under.ensures));
    }
