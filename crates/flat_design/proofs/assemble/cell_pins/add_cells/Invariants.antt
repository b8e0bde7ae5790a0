-- The pins of the cells so far are added.
use Rattle.std.proofs.Common.{take}
use Rattle.std.specs.List.{enumerate_from, flat_map}
use Rattle.flat_model.specs.FlatDesign.{cell_pins}
use Rattle.flat_design.specs.Hierarchy.{cells_in}
use Rattle.flat_design.specs.PinRows.{AddsPins}
use Rattle.flat_design.proofs.assemble.cell_pins.add_cells.Given as goal

abbrev pub invariant-loop-cell : goal.invariant-loop-cell
invariant-loop-cell l = AddsPins l.design (flat_map cell_pins (take l.cell (enumerate_from 0 (cells_in l.design)))) l.initial.rows l.rows
