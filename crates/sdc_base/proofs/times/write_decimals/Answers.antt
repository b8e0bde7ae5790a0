use Rattle.std.proofs.Common.{◌≡◌, length, arith, rules}
use Rattle.sdc_base.proofs.TimeBytes.{decimals_written}
use Rattle.sdc_base.proofs.times.write_decimals.Goals as goal

pub returns-clause-text : goal.returns-clause-text
returns-clause-text c =
    let long : length c.args.bytes.now ≡ 28 = search rules in
    decimals_written c.args.bytes.now _ c.args.rest c.args.unit long (omega arith) c.write_places.ensures.text
