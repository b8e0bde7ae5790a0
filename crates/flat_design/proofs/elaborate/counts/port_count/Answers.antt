use Rattle.source_types.specs.declared.netlists.Port.{Port}
use Rattle.netlist_model.specs.Ranges.{width}
use Rattle.std.proofs.Common.{◌∙◌}
use Rattle.flat_design.proofs.CountFacts.{count_more}
use Rattle.flat_design.proofs.elaborate.counts.port_count.Goals as goal

pub loop-port-preserved : goal.loop-port-preserved
loop-port-preserved c =
    c.capped-count.ensures ∙ count_more (λ (port : Port). width port.range) c.args.ports.now c.loop-port.port-index c.port-item.result c.loop-port.count c.width.result
    c.loop-port-test.true c.port-item.is c.width.ensures c.loop-port.invariant
