-- The two forms of a library cell: a refused one has its name alone, and any other has its pins, arcs and checks.
use Rattle.std.proofs.Common.{◌≡◌, true, false, [], map}
use Rattle.std.specs.Prelude.{if◌then◌else◌}
use Rattle.pin_types.specs.declared.library_cells.LibCell.{LibCell}
use Rattle.sdc_base.proofs.CaseFacts.{by_bool}
use Rattle.library_model.specs.LibertyArcs.{arcs_of, checks_of, is_refused, lib_cell}
use Rattle.library_model.specs.LibertyCells.{lib_pin, name_of, pins}
use Rattle.library_model.specs.LibertyStatements.{Member}

abbrev pub refused_cell : Member → LibCell
refused_cell cell = record { name = name_of cell; pins = []; arcs = []; checks = []; refused = true }

abbrev pub whole_cell : Member → LibCell
whole_cell cell = record { name = name_of cell; pins = map (lib_pin cell) (pins cell); arcs = arcs_of cell; checks = checks_of cell; refused = false }

-- what holds of both forms holds of the cell
pub by_form : (P : LibCell → Type 0) (cell : Member) → P (refused_cell cell) → (is_refused cell ≡ false → P (whole_cell cell)) → P (lib_cell cell)
by_form P cell refused whole =
    by_bool (λ b. P (if b then refused_cell cell else whole_cell cell)) (is_refused cell) (λ is. refused) whole
