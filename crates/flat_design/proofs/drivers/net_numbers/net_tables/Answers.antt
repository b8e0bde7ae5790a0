use Rattle.std.proofs.Common.{List, ◌+◌, take, sym, ◌∙◌, ap, subst}
use Rattle.std.specs.List.{AllZip}
use Rattle.source_types.specs.declared.netlists.Module.{Module}
use Rattle.source_types.specs.declared.netlists.Wire.{Wire}
use Rattle.flat_design.specs.declared.drivers.net_numbers.NetTable.{NetTable}
use Rattle.flat_design.specs.Names.{IsTable}
use Rattle.flat_design.specs.NetNumbers.{IsNetTable, net_names, net_starts}
use Rattle.flat_design.proofs.TerminalFacts.{zip_more}
use Rattle.flat_design.proofs.drivers.net_numbers.net_tables.Goals as goal

pub loop-body-preserved : goal.loop-body-preserved
loop-body-preserved c =
    let body = c.body-item.result in
    let one : NetTable = record { places = c.in_ok-places.places; starts = c.in_ok-starts.starts } in
    let is : IsNetTable body.nets one = record {
      places = subst (λ (nets : List Wire). IsTable c.in_ok-places.places (net_names nets)) c.as_slice-nets.ensures c.in_ok-places.ensures;
      starts = c.in_ok-starts.ensures ∙ ap (net_starts 0) c.as_slice-nets.ensures;
    } in
    subst (λ (all : List NetTable). AllZip (λ (m : Module) found. IsNetTable m.nets found) (take (c.loop-body.body-index + 1) c.args.modules.now) all)
    (sym c.in_ok-push.ensures.items)
    (zip_more (λ (m : Module) found. IsNetTable m.nets found) c.args.modules.now c.loop-body.all.items c.loop-body.body-index body one
    c.loop-body-test.true c.body-item.is c.loop-body.invariant is)
