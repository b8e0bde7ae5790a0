use Rattle.std.proofs.Common.{arith}
use Rattle.std.proofs.lemmas.Int.{ints}
use Rattle.clock_tree.proofs.Remainder.{IsStep, IsStep-from_lengths, IsRelation-from_code}
use Rattle.clock_tree.proofs.edge_relation.relation.Goals as goal

-- what is known once the divisor is found, and still after the remainder
found : (c : goal.After-greatest_common_divisor-step) → IsStep c.args.p c.args.q c.greatest_common_divisor-step.result
found c =
    IsStep-from_lengths c.args.a c.args.p c.args.q _ _ _ c.ranges.p c.ranges.q c.requires.launch c.unsigned_abs.ensures.value c.unsigned_abs-2.ensures.value c.greatest_common_divisor-step.ensures

step : (c : goal.After-rem_euclid-setup) → IsStep c.args.p c.args.q c.greatest_common_divisor-step.result
step c =
    IsStep-from_lengths c.args.a c.args.p c.args.q _ _ _ c.ranges.p c.ranges.q c.requires.launch c.unsigned_abs.ensures.value c.unsigned_abs-2.ensures.value c.greatest_common_divisor-step.ensures

pub overflow_cast-step : goal.overflow_cast-step
overflow_cast-step c = let step = found c in omega (arith, ints)

pub rem_euclid-setup-requires-clause-nonzero : goal.rem_euclid-setup-requires-clause-nonzero
rem_euclid-setup-requires-clause-nonzero c = let step = found c in omega (arith, ints)

pub overflow_add-setup : goal.overflow_add-setup
overflow_add-setup c = let step = step c in omega (arith, ints)

pub overflow_sub-result : goal.overflow_sub-result
overflow_sub-result c = let step = step c in omega (arith, ints)

pub returns : goal.returns
returns c = IsRelation-from_code c.args.a c.args.p c.args.b c.args.q c.rem_euclid-setup.result c.greatest_common_divisor-step.result c.requires.launch c.requires.capture (step c) c.rem_euclid-setup.ensures.value c.rem_euclid-setup.ensures.lower_bound c.rem_euclid-setup.ensures.upper_bound
