use Rattle.std.proofs.Common.{◌^◌, sym, arith}
use Rattle.sdc_base.proofs.NearestFacts.{nearest_small, ten_mono, ten_pos}
use Rattle.sdc_base.proofs.rounding.shrunk.Goals as goal

pub returns-then-count-gt31 : goal.returns-then-count-gt31
returns-then-count-gt31 c =
    sym (nearest_small c.args.value (10 ^ c.args.count) (omega (arith, ten_mono 31 c.args.count (omega arith))))

pub pow-requires : goal.pow-requires
pow-requires c = omega (arith, ten_mono c.args.count 31 (omega arith))

pub nearest-requires-clause-positive : goal.nearest-requires-clause-positive
nearest-requires-clause-positive c = omega (arith, ten_pos c.args.count)

pub nearest-requires-clause-divisor : goal.nearest-requires-clause-divisor
nearest-requires-clause-divisor c = omega (arith, ten_mono c.args.count 31 (omega arith))
