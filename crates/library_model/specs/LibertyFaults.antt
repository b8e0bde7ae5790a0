-- The faults of a library's text that is one of the grammar, in the order of the text (Liberty: `time_unit`, `cell`,
-- `function`, `related_pin`). What is refused is this project's own. A fault of a function, a related pin or a unit
-- stands at its attribute, a cell of a name that an earlier one has at this cell, and a unit that is not the first
-- library's at the later `library`. It reads: faults in a cell; of a unit; of a whole text.
use Rattle.std.specs.Prelude.{◌++◌, ◌==◌, ◌&&◌, ℕ, Bool, false, not, List, [], ◌∷◌, codes, nat_lt, if◌then◌else◌, Option, Some, None, Result, Ok, Err}
use Rattle.std.specs.List.{flat_map, list_all, list_any}
use Rattle.sdc_base.specs.declared.memory.At.{At}
use Rattle.pin_types.specs.declared.functions.Expr.{Expr}
use Rattle.source_types.specs.declared.kinds.LibKind.{LibKind}
use Rattle.source_types.specs.declared.kinds.LibKind.TheVariants.{DoubleCell, FunctionForm, LibForm, UnknownPin}
use Rattle.library_model.specs.LibertyCells.{function_meaning, is_left_out, name_of, pin_groups, pin_names, state_variables, words_of}
use Rattle.library_model.specs.LibertyStatements.{Member, Statement, groups, is_group, last_value, members, value_named}
use Rattle.text_model.specs.Words.{is_among, same_text}

-- ---- in a cell

abbrev pub fault_at : Statement → LibKind → At LibKind
fault_at s kind = record { line = s.name.line; kind = kind }

-- the fault of a function, if it has one
abbrev pub meaning_faults : Statement → Result (Option Expr) LibKind → List (At LibKind)
meaning_faults s (Ok e) = []
meaning_faults s (Err FunctionForm) = fault_at s FunctionForm ∷ []
meaning_faults s (Err UnknownPin) = fault_at s UnknownPin ∷ []
meaning_faults s (Err kind) = []

abbrev pub function_faults : Member → Statement → Option (List ℕ) → List (At LibKind)
function_faults cell s None = []
function_faults cell s (Some text) = meaning_faults s (function_meaning cell text)

-- the fault of a related pin: a name that is no pin and no state variable
abbrev pub related_faults : Member → Statement → Option (List ℕ) → List (At LibKind)
related_faults cell s None = []
related_faults cell s (Some text) =
    if list_all (is_among (pin_names cell ++ state_variables cell)) (words_of text) then [] else fault_at s UnknownPin ∷ []

abbrev pub timing_faults : Member → Member → List (At LibKind)
timing_faults cell timing =
    flat_map (λ (m : Member). related_faults cell m.statement (value_named (codes "related_pin") m.statement)) (members 4 timing.inside)

-- the faults of what stands in a `pin` group
abbrev pub member_faults : Member → Member → List (At LibKind)
member_faults cell m =
    function_faults cell m.statement (value_named (codes "function") m.statement)
    ++ (if is_group (codes "timing") m.statement then timing_faults cell m else [])

abbrev pub cell_faults : Member → List (At LibKind)
cell_faults cell =
    if is_left_out cell then []
    else flat_map (λ (group : Member). flat_map (member_faults cell) (members 3 group.inside)) (pin_groups cell)

-- ---- units

-- a unit by its name, in femtoseconds
abbrev pub unit_named : List ℕ → Option ℕ
unit_named text =
    if same_text text (codes "1ps") then Some 1000
    else (if same_text text (codes "10ps") then Some 10000
    else (if same_text text (codes "100ps") then Some 100000
    else (if same_text text (codes "1ns") then Some 1000000
    else None)))

-- the unit of a library, where its last `time_unit` is one; it is 1 ns without any
abbrev pub unit_if : Option (List ℕ) → Option ℕ
unit_if None = Some 1000000
unit_if (Some text) = unit_named text

abbrev pub unit_of : Member → Option ℕ
unit_of library = unit_if (last_value (codes "time_unit") (members 1 library.inside))

abbrev pub is_other_unit : Option ℕ → Option ℕ → Bool
is_other_unit (Some first) (Some unit) = not (first == unit)
is_other_unit _ _ = false

-- the unit of the first library
abbrev pub first_unit : List Member → Option ℕ
first_unit [] = None
first_unit (library ∷ libraries) = unit_of library

abbrev pub unit_faults : Statement → Option (List ℕ) → List (At LibKind)
unit_faults s None = []
unit_faults s (Some text) = elim (unit_named text) [ None ↦ fault_at s LibForm ∷ [] | Some unit ↦ [] ]

-- ---- whole texts

abbrev pub libraries_of : List Statement → List Member
libraries_of statements = members 0 statements

abbrev pub cells_of : List Statement → List Member
cells_of statements = flat_map (λ (library : Member). groups (codes "cell") (members 1 library.inside)) (libraries_of statements)

-- an earlier cell has the cell's name
abbrev pub is_double : List Member → Member → Bool
is_double cells cell =
    list_any (λ (other : Member). nat_lt other.statement.number cell.statement.number && same_text (name_of other) (name_of cell)) cells

abbrev pub double_faults : List Member → Member → List (At LibKind)
double_faults cells cell = if is_double cells cell then fault_at cell.statement DoubleCell ∷ [] else []

-- the faults of what stands in a `library` group: of a unit, or of a cell
abbrev pub part_faults : List Member → Member → List (At LibKind)
part_faults cells m =
    unit_faults m.statement (value_named (codes "time_unit") m.statement)
    ++ (if is_group (codes "cell") m.statement then double_faults cells m ++ cell_faults m else [])

abbrev pub library_faults : List Member → Option ℕ → Member → List (At LibKind)
library_faults cells first library =
    (if is_other_unit first (unit_of library) then fault_at library.statement LibForm ∷ [] else [])
    ++ flat_map (part_faults cells) (members 1 library.inside)

-- all faults of a text, the first one first
abbrev pub faults_of : List Statement → List (At LibKind)
faults_of statements =
    flat_map (library_faults (cells_of statements) (first_unit (libraries_of statements))) (libraries_of statements)
