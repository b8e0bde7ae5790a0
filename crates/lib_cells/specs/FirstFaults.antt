-- The first fault of parts of a library's text (Liberty), given the places and numbers of names in place of the cells.
-- This project's own.
use Rattle.std.specs.Prelude.{ℕ, Bool, false, List, [], ◌∷◌, codes, nat_lt, if◌then◌else◌, Option, Some, None}
use Rattle.std.specs.List.{flat_map, list_all}
use Rattle.std.specs.Option.{is_some}
use Rattle.sdc_base.specs.declared.memory.At.{At}
use Rattle.source_types.specs.declared.kinds.LibKind.{LibKind}
use Rattle.source_types.specs.declared.kinds.LibKind.TheVariants.{DoubleCell, LibForm, UnknownPin}
use Rattle.function_model.specs.FunctionMeaning as function
use Rattle.library_model.specs.LibertyCells.{name_of, words_of}
use Rattle.library_model.specs.LibertyFaults.{cell_faults, fault_at, is_other_unit, meaning_faults, unit_faults, unit_of}
use Rattle.library_model.specs.LibertyStatements.{Member, Statement, groups, is_group, members, value_named}
use Rattle.bool_lanes.specs.NamedNumbers.{number_at}
use Rattle.bool_lanes.specs.declared.numbers.Numbers.{Numbers}

abbrev pub first : List (At LibKind) → Option (At LibKind)
first [] = None
first (fault ∷ faults) = Some fault

-- a fault, or else another one
abbrev pub or_fault : Option (At LibKind) → Option (At LibKind) → Option (At LibKind)
or_fault None other = other
or_fault (Some fault) other = Some fault

-- the first fault of some members
abbrev pub first_among : (Member → Option (At LibKind)) → List Member → Option (At LibKind)
first_among fault [] = None
first_among fault (m ∷ ms) = or_fault (fault m) (first_among fault ms)

-- ---- in a cell

abbrev pub function_fault : List (List ℕ) → Statement → Option (List ℕ) → Option (At LibKind)
function_fault names s None = None
function_fault names s (Some text) = first (meaning_faults s (function.meaning names text))

abbrev pub related_fault : Numbers → Statement → Option (List ℕ) → Option (At LibKind)
related_fault places s None = None
related_fault places s (Some text) =
    if list_all (λ word. is_some (number_at places word)) (words_of text) then None else Some (fault_at s UnknownPin)

abbrev pub related_member_fault : Numbers → Member → Option (At LibKind)
related_member_fault places m = related_fault places m.statement (value_named (codes "related_pin") m.statement)

abbrev pub timing_fault : Numbers → Member → Option (At LibKind)
timing_fault places m =
    if is_group (codes "timing") m.statement then first_among (related_member_fault places) (members 4 m.inside) else None

-- the first fault of what stands in a `pin` group
abbrev pub member_fault : List (List ℕ) → Numbers → Member → Option (At LibKind)
member_fault names places m =
    or_fault (function_fault names m.statement (value_named (codes "function") m.statement)) (timing_fault places m)

abbrev pub group_fault : List (List ℕ) → Numbers → Member → Option (At LibKind)
group_fault names places group = first_among (member_fault names places) (members 3 group.inside)

-- ---- in a library

-- there is a number, and it is below another
abbrev pub is_below : Option ℕ → ℕ → Bool
is_below None number = false
is_below (Some first_number) number = nat_lt first_number number

-- an earlier cell has the cell's name
abbrev pub double_fault : Numbers → Member → Option (At LibKind)
double_fault numbers cell =
    if is_below (number_at numbers (name_of cell)) cell.statement.number then Some (fault_at cell.statement DoubleCell) else None

abbrev pub cell_part_fault : Numbers → Member → Option (At LibKind)
cell_part_fault numbers m =
    if is_group (codes "cell") m.statement then or_fault (double_fault numbers m) (first (cell_faults m)) else None

abbrev pub unit_fault : Statement → Option (List ℕ) → Option (At LibKind)
unit_fault s name = first (unit_faults s name)

abbrev pub part_fault : Numbers → Member → Option (At LibKind)
part_fault numbers m = or_fault (unit_fault m.statement (value_named (codes "time_unit") m.statement)) (cell_part_fault numbers m)

abbrev pub other_unit_fault : Option ℕ → Member → Option (At LibKind)
other_unit_fault unit library = if is_other_unit unit (unit_of library) then Some (fault_at library.statement LibForm) else None

abbrev pub library_fault : Numbers → Option ℕ → Member → Option (At LibKind)
library_fault numbers unit library = or_fault (other_unit_fault unit library) (first_among (part_fault numbers) (members 1 library.inside))

-- the cells of libraries
abbrev pub cells_in : List Member → List Member
cells_in libraries = flat_map (λ (library : Member). groups (codes "cell") (members 1 library.inside)) libraries
