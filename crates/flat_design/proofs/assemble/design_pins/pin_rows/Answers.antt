use Rattle.std.proofs.Common.{List, subst}
use Rattle.std.specs.List.{enumerate_from, flat_map}
use Rattle.flat_model.specs.FlatDesign.{cell_pins, port_pins}
use Rattle.flat_design.specs.declared.assemble.pin_rows.PinRow.{PinRow}
use Rattle.flat_design.specs.Hierarchy.{cells_in, pins_of_design}
use Rattle.flat_design.specs.PinRows.{AddsPins, IsPinRow}
use Rattle.flat_design.proofs.RowFacts.{rows_all, rows_then}
use Rattle.flat_design.proofs.assemble.design_pins.pin_rows.Goals as goal

pub returns : goal.returns
returns c =
    let design = c.args.design.now in
    let whole : AddsPins design (pins_of_design design) c.new-rows.result c.add_cells.new.rows =
    rows_then (IsPinRow design) (port_pins design.top.now) (flat_map cell_pins (enumerate_from 0 (cells_in design))) c.new-rows.result c.add_ports.new.rows c.add_cells.new.rows
    c.in_ok-add_ports.ensures c.in_ok-add_cells.ensures in
    rows_all (IsPinRow design) (pins_of_design design) c.add_cells.new.rows
    (subst (λ (old : List PinRow). AddsPins design (pins_of_design design) old c.add_cells.new.rows) c.new-rows.ensures whole)
