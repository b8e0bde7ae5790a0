-- The numbers of cells, found by their names: of several cells of one name the least number. This project's own.
use Rattle.std.specs.Prelude.{◌≡◌, ℕ, List, [], ◌∷◌, Option, None}
use Rattle.library_model.specs.LibertyCells.{name_of}
use Rattle.library_model.specs.LibertyStatements.{Member}
use Rattle.bool_lanes.specs.NamedNumbers.{least, number_at, number_if}
use Rattle.bool_lanes.specs.declared.numbers.Numbers.{Numbers}

-- the least number of a cell of a name
abbrev pub cell_number : List Member → List ℕ → Option ℕ
cell_number [] name = None
cell_number (cell ∷ cells) name = least (number_if (name_of cell) cell.statement.number name) (cell_number cells name)

-- the numbers are those of cells
abbrev pub HasCells : Numbers → List Member → Type 0
HasCells numbers cells = (name : List ℕ) → number_at numbers name ≡ cell_number cells name
