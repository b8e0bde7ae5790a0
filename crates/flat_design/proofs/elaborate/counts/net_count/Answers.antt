use Rattle.source_types.specs.declared.netlists.Wire.{Wire}
use Rattle.netlist_model.specs.Ranges.{width}
use Rattle.std.proofs.Common.{◌∙◌}
use Rattle.flat_design.proofs.CountFacts.{count_more}
use Rattle.flat_design.proofs.elaborate.counts.net_count.Goals as goal

pub loop-net-preserved : goal.loop-net-preserved
loop-net-preserved c =
    c.capped-count.ensures ∙ count_more (λ (net : Wire). width net.range) c.args.nets.now c.loop-net.net-index c.net-item.result c.loop-net.count c.width.result
    c.loop-net-test.true c.net-item.is c.width.ensures c.loop-net.invariant
