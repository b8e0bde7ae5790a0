use Rattle.std.proofs.Common.{◌∙◌, arith}
use Rattle.flat_design.proofs.NameFacts.{bits_all, bits_more}
use Rattle.flat_design.proofs.names.object_names.add_bit_names.Goals as goal

pub loop-place-preserved : goal.loop-place-preserved
loop-place-preserved c =
    c.in_ok-push.ensures.ok ∙ bits_more c.args.prefix.now c.args.name.now c.args.range c.loop-place.place c.index_at-index.result c.in_ok-bit.bit c.args.names.now c.loop-place.names
    c.index_at-index.ensures c.in_ok-bit.ensures c.loop-place.invariant

pub returns : goal.returns
returns c =
    bits_all c.args.prefix.now c.args.name.now c.args.range c.args.names.now c.loop-place.names c.loop-place.place
    (omega (arith, c.loop-place-test.false, c.width-place-end.ensures)) c.loop-place.invariant
