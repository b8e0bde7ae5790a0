-- The cells of a design, with the numbers of their first pins.
use Rattle.std.proofs.Common.{◌≡◌, ◌+◌, ◌<◌, ◌≤◌, ℕ, List, [], ◌∷◌, ◌++◌, length, map, take, slice_get, Some, sym, ◌∙◌, ap, subst, arith}
use Rattle.std.proofs.lemmas.List.{length-append, length-map, length-take, take_all}
use Rattle.std.proofs.lemmas.Option.{slice_get_within}
use Rattle.std.proofs.lemmas.Slice.Zip.{AllZip-long}
use Rattle.std.specs.List.{AllZip}
use Rattle.timing_types.specs.declared.designs.CellInfo.{CellInfo}
use Rattle.flat_model.specs.FlatDesign.{FlatCell, IsCell, port_pins}
use Rattle.text_model.proofs.ListFacts.{element_at}
use Rattle.flat_design.specs.declared.elaborate.hierarchy.Hierarchy.{Hierarchy}
use Rattle.flat_design.specs.declared.elaborate.elaboration.CellRow.{CellRow}
use Rattle.flat_design.specs.Hierarchy.{IsHierarchy, cell_name, cells_in}
use Rattle.flat_design.specs.Elaboration.{kind_pins, pins_in}
use Rattle.flat_design.specs.NamedFaults.{flat_of}
use Rattle.flat_design.proofs.CellPlaces.{cell_there, cells_count, flat_cell}
use Rattle.flat_design.proofs.HierarchyFacts.{one_at}
use Rattle.flat_design.proofs.PinCounts.{parts_le}
use Rattle.flat_design.proofs.PlaceFacts.{take_one}
use Rattle.flat_design.proofs.RangeFacts.{map_at}
use Rattle.flat_design.proofs.RowFacts.{both_append}

-- what a row says of a cell
pub record IsRowOf (design : Hierarchy) (n : ℕ) (cell : FlatCell) (row : CellRow) : Type 0 where
  pub is : slice_get (cells_in design) n ≡ Some cell.is
  pub kind : slice_get design.library.now.cells row.kind ≡ Some cell.is.kind
  pub first : row.first_pin ≡ cell.first

pub row_is : (design : Hierarchy) (n : ℕ) (cell : FlatCell) (row : CellRow) → IsHierarchy design → slice_get design.elaboration.cells n ≡ Some row
    → slice_get (flat_of design).cells n ≡ Some cell → IsRowOf design n cell row
row_is design n cell row is row_at at =
    let known = is.elaboration.cells n row row_at in
    let own = cell_there (length (port_pins design.top.now)) (cells_in design) n known.cell known.at in
    let same : flat_cell known.cell (length (port_pins design.top.now) + pins_in (take n (cells_in design))) ≡ cell = one_at (flat_of design).cells n _ _ own at in
    record {
      is = known.at ∙ ap (λ (one : FlatCell). Some one.is) same;
      kind = known.kind ∙ ap (λ (one : FlatCell). Some one.is.kind) same;
      first = known.first ∙ ap (λ (one : FlatCell). one.first) same;
    }

-- ---- cells by name

-- the number of a cell's first pin is small
pub first_low : (design : Hierarchy) (n : ℕ) (row : CellRow) → IsHierarchy design → slice_get design.elaboration.cells n ≡ Some row → row.first_pin ≤ 1000000
first_low design n row is row_at =
    let known = is.elaboration.cells n row row_at in
    let part = parts_le kind_pins (cells_in design) n in
    let own = known.first in
    let all = is.elaboration.pins in
    let few = is.elaboration.few_pins in
    omega (arith, part, own, all, few)

pub flat_count : (design : Hierarchy) → length (flat_of design).cells ≡ length (cells_in design)
flat_count design = cells_count (length (port_pins design.top.now)) (cells_in design)

-- the cell of the name that is next
pub record IsNext (design : Hierarchy) (n : ℕ) (name : List ℕ) (cell : FlatCell) : Type 0 where
  pub at : slice_get (flat_of design).cells n ≡ Some cell
  pub named : name ≡ cell_name cell.is
  pub low : n < length design.elaboration.cells

pub next_cell : (design : Hierarchy) (names : List (List ℕ)) (n : ℕ) (name : List ℕ) → IsHierarchy design → names ≡ map cell_name (cells_in design)
    → slice_get names n ≡ Some name → (cell : FlatCell) × IsNext design n name cell
next_cell design names n name is named at =
    let low = slice_get_within names n name at in
    let a : length names ≡ length (map cell_name (cells_in design)) = ap length named in
    let b : length (map cell_name (cells_in design)) ≡ length (cells_in design) = length-map (cells_in design) cell_name in
    let count = is.elaboration.cell_count in
    let found = element_at (cells_in design) n (omega (arith, low, a, b)) in
    let own = map_at cell_name (cells_in design) n found.0 found.1 in (
      flat_cell found.0 (length (port_pins design.top.now) + pins_in (take n (cells_in design))),
      record {
        at = cell_there (length (port_pins design.top.now)) (cells_in design) n found.0 found.1;
        named = one_at names n name (cell_name found.0) at (ap (λ (ns : List (List ℕ)). slice_get ns n) named ∙ own);
        low = omega (arith, low, a, b, count);
      },
    )

-- as many cells as names
pub made_count : (design : Hierarchy) (n : ℕ) (made : List CellInfo) → n ≤ length (cells_in design)
    → AllZip (IsCell design.library.now) (take n (flat_of design).cells) made → length made ≡ n
made_count design n made low all =
    let a = AllZip-long (IsCell design.library.now) (take n (flat_of design).cells) made all in
    let b = length-take n (flat_of design).cells in
    let c = flat_count design in
    omega (arith, low, a, b, c)

-- one more cell
pub one_made : (design : Hierarchy) (names : List (List ℕ)) (name : List ℕ) (cell : FlatCell) (info : CellInfo) (made new : List CellInfo)
    → slice_get (flat_of design).cells (length names) ≡ Some cell → IsCell design.library.now cell info → new ≡ made ++ info ∷ []
    → AllZip (IsCell design.library.now) (take (length names) (flat_of design).cells) made
    → AllZip (IsCell design.library.now) (take (length (names ++ name ∷ [])) (flat_of design).cells) new
one_made design names name cell info made new at is same so_far =
    let count : length names + 1 ≡ length (names ++ name ∷ []) = (let a = length-append names (name ∷ []) in omega (arith, a)) in
    let front : take (length names) (flat_of design).cells ++ cell ∷ [] ≡ take (length (names ++ name ∷ [])) (flat_of design).cells =
    sym (take_one (flat_of design).cells (length names) cell at) ∙ ap (λ (k : ℕ). take k (flat_of design).cells) count in
    subst (AllZip (IsCell design.library.now) (take (length (names ++ name ∷ [])) (flat_of design).cells)) (sym same)
    (subst (λ (cells : List FlatCell). AllZip (IsCell design.library.now) cells (made ++ info ∷ [])) front
    (both_append (IsCell design.library.now) (take (length names) (flat_of design).cells) (cell ∷ []) made (info ∷ []) so_far (is, tt)))

-- all cells
pub all_made : (design : Hierarchy) (names : List (List ℕ)) (made : List CellInfo) → names ≡ map cell_name (cells_in design)
    → AllZip (IsCell design.library.now) (take (length names) (flat_of design).cells) made → AllZip (IsCell design.library.now) (flat_of design).cells made
all_made design names made named all =
    let a : length names ≡ length (map cell_name (cells_in design)) = ap length named in
    let b : length (map cell_name (cells_in design)) ≡ length (cells_in design) = length-map (cells_in design) cell_name in
    let c = flat_count design in
    let low : length (flat_of design).cells ≤ length names = omega (arith, a, b, c) in
    subst (λ (cells : List FlatCell). AllZip (IsCell design.library.now) cells made) (take_all (length names) (flat_of design).cells low) all
