-- Numbers that are found by names: of cells, and which names have one.
use Rattle.std.proofs.Common.{◌≡◌, ◌∙◌, ◌+◌, ◌||◌, ℕ, Bool, true, false, cond, List, [], ◌∷◌, Option, Some, None, refl, sym, ap}
use Rattle.std.specs.Option.{is_some}
use Rattle.library_model.specs.LibertyCells.{name_of}
use Rattle.library_model.specs.LibertyStatements.{Member}
use Rattle.text_model.specs.Words.{is_among, same_text}
use Rattle.bool_lanes.specs.NamedNumbers.{least, number_at, number_if, place_from}
use Rattle.bool_lanes.specs.declared.numbers.Numbers.{Numbers}
use Rattle.bool_lanes.proofs.NumberFacts.{Adds, IsEmpty, least_none, least_swap}
use Rattle.lib_cells.specs.CellNumbers.{HasCells, cell_number}

-- ---- a name has a place where it is among the names

is_some_least : (a b : Option ℕ) → is_some (least a b) ≡ (is_some a || is_some b)
is_some_least None b = refl
is_some_least (Some x) None = refl
is_some_least (Some x) (Some y) = refl

is_some_if : (t : Bool) (place : ℕ) → is_some (cond t (Some place) None) ≡ t
is_some_if true place = refl
is_some_if false place = refl

pub place_from-is_among : (place : ℕ) (names : List (List ℕ)) (name : List ℕ) → is_some (place_from place names name) ≡ is_among names name
place_from-is_among place [] name = refl
place_from-is_among place (own ∷ names) name =
    is_some_least (number_if own place name) (place_from (place + 1) names name)
    ∙ (ap (λ t. t || is_some (place_from (place + 1) names name)) (is_some_if (same_text own name) place)
    ∙ ap (λ t. same_text own name || t) (place_from-is_among (place + 1) names name))

-- ---- cells one after the other

-- what is known of the cells so far, with what the others give, is what all give
abbrev pub CellsSoFar : Numbers → List Member → List Member → Type 0
CellsSoFar numbers rest cells = (name : List ℕ) → least (number_at numbers name) (cell_number rest name) ≡ cell_number cells name

pub cells_none : (numbers : Numbers) (cells : List Member) → IsEmpty numbers → CellsSoFar numbers cells cells
cells_none numbers cells empty name = ap (λ o. least o (cell_number cells name)) (empty name)

pub cell_more : (old new : Numbers) (cell : Member) (rest cells : List Member) → CellsSoFar old (cell ∷ rest) cells
    → Adds old new (name_of cell) cell.statement.number → CellsSoFar new rest cells
cell_more old new cell rest cells so_far adds name =
    ap (λ o. least o (cell_number rest name)) (adds name)
    ∙ (least_swap (number_if (name_of cell) cell.statement.number name) (number_at old name) (cell_number rest name)
    ∙ so_far name)

pub cells_all : (numbers : Numbers) (cells : List Member) → CellsSoFar numbers [] cells → HasCells numbers cells
cells_all numbers cells so_far name = sym (least_none (number_at numbers name)) ∙ so_far name
