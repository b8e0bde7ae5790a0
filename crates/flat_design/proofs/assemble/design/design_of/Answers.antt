use Rattle.std.proofs.Common.{rules, sym, subst}
use Rattle.std.specs.List.{AllZip}
use Rattle.flat_design.specs.Hierarchy.{pins_of_design}
use Rattle.flat_design.specs.PinRows.{IsPinRow}
use Rattle.flat_design.proofs.DesignFacts.{ends_named, nets_are, pins_are, rows_named}
use Rattle.flat_design.proofs.assemble.design.design_of.Goals as goal

pub nets_of-requires : goal.nets_of-requires
nets_of-requires c = ends_named c.args.design.now c.args.net_names c.args.ends.now c.requires.is c.requires.ends c.requires.nets

pub pins_of-requires : goal.pins_of-requires
pins_of-requires c =
    let rows : AllZip (IsPinRow c.args.design.now) (pins_of_design c.args.design.now) c.as_slice.result.now =
    subst (AllZip (IsPinRow c.args.design.now) (pins_of_design c.args.design.now)) (sym c.as_slice.ensures) c.in_ok-rows.ensures in
    rows_named c.args.design.now c.args.pin_names c.as_slice.result.now c.requires.pins rows

pub returns : goal.returns
returns c =
    let rows : AllZip (IsPinRow c.args.design.now) (pins_of_design c.args.design.now) c.as_slice.result.now =
    subst (AllZip (IsPinRow c.args.design.now) (pins_of_design c.args.design.now)) (sym c.as_slice.ensures) c.in_ok-rows.ensures in
    record {
      top = c.in_ok-top.ensures;
      unit = search rules;
      kinds = c.in_ok-kinds.ensures;
      pins = pins_are c.args.design.now c.args.pin_names c.as_slice.result.now _ c.requires.pins rows c.in_ok-pins.ensures;
      cells = c.in_ok-cells.ensures;
      nets = nets_are c.args.design.now c.args.net_names c.args.ends.now _ c.requires.is c.requires.ends c.requires.nets c.in_ok-nets.ensures;
    }
