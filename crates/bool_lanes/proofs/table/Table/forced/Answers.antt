use Rattle.std.proofs.Common.{◌≡◌, ◌↔◌, Some, sym, subst}
use Rattle.function_model.specs.FunctionValue.{Forces}
use Rattle.bool_lanes.proofs.ForcedFacts.{forced_is}
use Rattle.bool_lanes.proofs.table.Table.forced.Goals as goal

pub returns : goal.returns
returns c = λ v. subst (λ o. (o ≡ Some v) ↔ Forces c.args.self.now c.args.known.now.mask c.args.known.now.value v) (sym c.only_value.ensures)
    (forced_is c.args.self.now c.args.known.now.mask c.args.known.now.value c.takes-zero.result c.takes-one.result v c.takes-zero.ensures c.takes-one.ensures)
