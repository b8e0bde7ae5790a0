use Rattle.std.proofs.Common.{List, map, refl, subst}
use Rattle.std.specs.List.{AllZip}
use Rattle.pin_types.specs.declared.library_cells.LibCell.{LibCell}
use Rattle.flat_model.specs.Connections.{pins_of}
use Rattle.flat_design.specs.Names.{IsTable}
use Rattle.flat_design.specs.Tables.{IsTerminals}
use Rattle.flat_design.proofs.elaborate.steps.tables_of.Goals as goal

pub returns : goal.returns
returns c = (
  refl,
  refl,
  record {
    modules = c.in_ok-module_places.ensures;
    cells = subst (λ (cells : List LibCell). IsTable c.in_ok-cell_places.cell_places (map (λ (cell : LibCell). cell.name) cells)) c.as_slice-cells.ensures c.in_ok-cell_places.ensures;
    ports = c.in_ok-ports.ensures;
    pins = subst (λ (cells : List LibCell). AllZip (λ cell found. IsTerminals (pins_of cell) found) cells c.in_ok-pins.pins.items) c.as_slice-cells.ensures c.in_ok-pins.ensures;
  },
)
