-- What a pin of a cell drives, by its direction.
use Rattle.std.proofs.Common.{◌≡◌, ℕ, zero, suc, List, [], ◌∷◌, map, slice_get, Some, None, refl, ap, subst}
use Rattle.std.specs.List.{AllZip, filter_map}
use Rattle.pin_types.specs.declared.library_cells.Direction.TheVariants as direction
use Rattle.pin_types.specs.declared.library_cells.LibCell.{LibCell}
use Rattle.pin_types.specs.declared.library_cells.LibPin.{LibPin}
use Rattle.source_types.specs.declared.netlists.Bit.{Bit}
use Rattle.flat_model.specs.Connections.{names_of, pins_of}
use Rattle.flat_model.specs.FlatNets.{output_drivers}
use Rattle.flat_model.specs.Instances.{PlacedCell}
use Rattle.flat_design.specs.declared.elaborate.terminals.Terminals.{Terminals}
use Rattle.flat_design.specs.Drivers.{pin_drive}
use Rattle.flat_design.specs.Tables.{IsTerminals}
use Rattle.flat_design.proofs.HierarchyFacts.{one_at}
use Rattle.flat_design.proofs.TerminalFacts.{zip_at}

pub driven_by_input : (cell : PlacedCell) (at : ℕ) (pin : LibPin) (own : List Bit) → pin.direction ≡ direction.Input → output_drivers cell ((at, pin), own) ≡ []
driven_by_input cell at pin own is = rw (output_drivers, is) refl

pub driven_by_other : (cell : PlacedCell) (at : ℕ) (pin : LibPin) (own : List Bit) → pin.direction ≡ direction.Other → output_drivers cell ((at, pin), own) ≡ []
driven_by_other cell at pin own is = rw (output_drivers, is) refl

pub driven_by_output : (cell : PlacedCell) (at : ℕ) (pin : LibPin) (own : List Bit) → pin.direction ≡ direction.Output
    → output_drivers cell ((at, pin), own) ≡ filter_map (pin_drive cell at) own
driven_by_output cell at pin own is = rw (output_drivers, is) refl

-- ---- terminals by place

pub cell_terminals : (cells : List LibCell) (tables : List Terminals) (n : ℕ) (kind : LibCell) (table : Terminals)
    → AllZip (λ (one : LibCell) found. IsTerminals (pins_of one) found) cells tables → slice_get cells n ≡ Some kind → slice_get tables n ≡ Some table
    → IsTerminals (pins_of kind) table
cell_terminals cells tables n kind table all at found =
    let own = zip_at (λ (one : LibCell) other. IsTerminals (pins_of one) other) cells tables all n kind at in
    subst (IsTerminals (pins_of kind)) (one_at tables n own.0 table own.1 found) own.2

pub pin_named : (pins : List LibPin) (n : ℕ) (pin : LibPin) → slice_get pins n ≡ Some pin
    → slice_get (names_of (map (λ (one : LibPin). record { name = one.name; width = 1 }) pins)) n ≡ Some pin.name
pin_named [] n pin at = let bad : None ≡ Some pin = at in cc
pin_named (p ∷ pins) zero pin at = let e : Some p ≡ Some pin = at in let same : p ≡ pin = cc in ap (λ (one : LibPin). Some one.name) same
pin_named (p ∷ pins) (suc n) pin at = pin_named pins n pin at
