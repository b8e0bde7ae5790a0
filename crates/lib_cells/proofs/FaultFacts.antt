-- The first of faults: those of a library by the places and numbers of names are those of the definitions.
use Rattle.std.proofs.Common.{◌≡◌, ◌∙◌, ◌||◌, ◌&&◌, ℕ, Bool, true, false, cond, List, [], ◌∷◌, ◌++◌, Option, Some, None, Result, Ok, Err, refl, sym, ap, arith, nat_lt}
use Rattle.std.proofs.lemmas.Bool.Decides.{nat_tests}
use Rattle.std.specs.List.{flat_map, list_all, list_any}
use Rattle.std.specs.Option.{is_some}
use Rattle.std.specs.Prelude.{IfOk, codes}
use Rattle.sdc_base.specs.declared.memory.At.{At}
use Rattle.source_types.specs.declared.kinds.LibKind.{LibKind}
use Rattle.source_types.specs.declared.kinds.LibKind.TheVariants.{DoubleCell, LibForm, UnknownPin}
use Rattle.library_model.specs.LibertyCells.{function_names, is_left_out, name_of, pin_groups, pin_names, state_variables, words_of}
use Rattle.library_model.specs.LibertyFaults as liberty
use Rattle.library_model.specs.LibertyStatements.{Member, Statement, is_group, members, value_named}
use Rattle.text_model.specs.Words.{is_among, same_text}
use Rattle.lib_cells.specs.CellFacts.{Describes}
use Rattle.lib_cells.specs.FirstFaults as first_faults
use Rattle.lib_cells.specs.FirstFaults.{first, first_among, or_fault}
use Rattle.bool_lanes.specs.NamedNumbers.{HasPlaces, least, number_at, number_if}
use Rattle.lib_cells.specs.CellNumbers.{HasCells, cell_number}
use Rattle.lib_cells.specs.declared.cell.cell_names.CellNames.{CellNames}
use Rattle.bool_lanes.specs.declared.numbers.Numbers.{Numbers}
use Rattle.lib_cells.proofs.CellNumberFacts.{place_from-is_among}

-- ---- the first of faults

first_join : (xs ys : List (At LibKind)) → first (xs ++ ys) ≡ or_fault (first xs) (first ys)
first_join [] ys = refl
first_join (x ∷ xs) ys = refl

-- the first fault of members is that of all their faults
pub first_flat : (fault : Member → Option (At LibKind)) (faults : Member → List (At LibKind)) → ((m : Member) → fault m ≡ first (faults m))
    → (ms : List Member) → first_among fault ms ≡ first (flat_map faults ms)
first_flat fault faults same [] = refl
first_flat fault faults same (m ∷ ms) =
    ap (λ o. or_fault o (first_among fault ms)) (same m)
    ∙ (ap (or_fault (first (faults m))) (first_flat fault faults same ms) ∙ sym (first_join (faults m) (flat_map faults ms)))

first_if : (t : Bool) (xs : List (At LibKind)) → first (cond t xs []) ≡ cond t (first xs) None
first_if true xs = refl
first_if false xs = refl

first_one : (t : Bool) (x : At LibKind) → cond t (Some x) None ≡ first (cond t (x ∷ []) [])
first_one true x = refl
first_one false x = refl

-- ---- faults in a cell

all_same : (p q : List ℕ → Bool) → ((x : List ℕ) → p x ≡ q x) → (xs : List (List ℕ)) → list_all p xs ≡ list_all q xs
all_same p q same [] = refl
all_same p q same (x ∷ xs) = ap (λ t. t && list_all p xs) (same x) ∙ ap (λ t. q x && t) (all_same p q same xs)

known_step : (t : Bool) (x : At LibKind) → cond t None (Some x) ≡ first (cond t [] (x ∷ []))
known_step true x = refl
known_step false x = refl

related_same : (places : Numbers) (cell : Member) (s : Statement) → HasPlaces places (pin_names cell ++ state_variables cell) → (text : Option (List ℕ))
    → first_faults.related_fault places s text ≡ first (liberty.related_faults cell s text)
related_same places cell s has None = refl
related_same places cell s has (Some text) =
    ap (λ t. cond t None (Some (liberty.fault_at s UnknownPin)))
    (all_same (λ word. is_some (number_at places word)) (is_among (pin_names cell ++ state_variables cell))
    (λ word. ap is_some (has word) ∙ place_from-is_among 0 (pin_names cell ++ state_variables cell) word) (words_of text))
    ∙ known_step (list_all (is_among (pin_names cell ++ state_variables cell)) (words_of text)) (liberty.fault_at s UnknownPin)

timing_same : (places : Numbers) (cell : Member) → HasPlaces places (pin_names cell ++ state_variables cell) → (m : Member)
    → first_faults.timing_fault places m ≡ first (cond (is_group (codes "timing") m.statement) (liberty.timing_faults cell m) [])
timing_same places cell has m =
    ap (λ o. cond (is_group (codes "timing") m.statement) o None)
    (first_flat (first_faults.related_member_fault places)
    (λ (part : Member). liberty.related_faults cell part.statement (value_named (codes "related_pin") part.statement))
    (λ part. related_same places cell part.statement has (value_named (codes "related_pin") part.statement)) (members 4 m.inside))
    ∙ sym (first_if (is_group (codes "timing") m.statement) (liberty.timing_faults cell m))

function_same : (cell : Member) (s : Statement) (text : Option (List ℕ)) → first_faults.function_fault (function_names cell) s text ≡ first (liberty.function_faults cell s text)
function_same cell s None = refl
function_same cell s (Some text) = refl

member_same : (places : Numbers) (cell : Member) → HasPlaces places (pin_names cell ++ state_variables cell) → (m : Member)
    → first_faults.member_fault (function_names cell) places m ≡ first (liberty.member_faults cell m)
member_same places cell has m =
    ap (λ o. or_fault o (first_faults.timing_fault places m)) (function_same cell m.statement (value_named (codes "function") m.statement))
    ∙ (ap (or_fault (first (liberty.function_faults cell m.statement (value_named (codes "function") m.statement)))) (timing_same places cell has m)
    ∙ sym (first_join (liberty.function_faults cell m.statement (value_named (codes "function") m.statement))
    (cond (is_group (codes "timing") m.statement) (liberty.timing_faults cell m) [])))

-- the faults of what stands in a `pin` group
abbrev pub group_faults : Member → Member → List (At LibKind)
group_faults cell group = flat_map (liberty.member_faults cell) (members 3 group.inside)

groups_same : (places : Numbers) (cell : Member) → HasPlaces places (pin_names cell ++ state_variables cell) → (groups : List Member)
    → first_among (first_faults.group_fault (function_names cell) places) groups ≡ first (flat_map (group_faults cell) groups)
groups_same places cell has groups =
    first_flat (first_faults.group_fault (function_names cell) places) (group_faults cell)
    (λ group. first_flat (first_faults.member_fault (function_names cell) places) (liberty.member_faults cell) (member_same places cell has) (members 3 group.inside))
    groups

-- the first fault of a cell that is not left out
pub cell_known : (known : CellNames) (cell : Member) (groups : List Member) (fault : Option (At LibKind)) → is_left_out cell ≡ false → Describes known cell
    → groups ≡ pin_groups cell → fault ≡ first_among (first_faults.group_fault known.function_names known.places) groups
    → fault ≡ first (liberty.cell_faults cell)
cell_known known cell groups fault taken described are is =
    is
    ∙ (ap (first_among (first_faults.group_fault known.function_names known.places)) are
    ∙ (ap (λ names. first_among (first_faults.group_fault names known.places) (pin_groups cell)) described.function_names
    ∙ (groups_same known.places cell described.places (pin_groups cell)
    ∙ sym (ap (λ t. first (cond t [] (flat_map (group_faults cell) (pin_groups cell)))) taken))))

-- .. where it was found
pub known_fault : {E : Type 0} (known : CellNames) (cell : Member) (groups : List Member) (result : Result (Option (At LibKind)) E) → is_left_out cell ≡ false → Describes known cell
    → groups ≡ pin_groups cell → IfOk result (λ fault. fault ≡ first_among (first_faults.group_fault known.function_names known.places) groups)
    → IfOk result (λ fault. fault ≡ first (liberty.cell_faults cell))
known_fault known cell groups (Ok fault) taken described are is = cell_known known cell groups fault taken described are is
known_fault known cell groups (Err e) taken described are is = is

-- a cell that is left out has none
pub cell_left_out : (cell : Member) → is_left_out cell ≡ true → None ≡ first (liberty.cell_faults cell)
cell_left_out cell left_out = sym (ap (λ t. first (cond t [] (flat_map (group_faults cell) (pin_groups cell)))) left_out)

-- ---- earlier cells of a name

below_least : (a b : Option ℕ) (n : ℕ) → first_faults.is_below (least a b) n ≡ (first_faults.is_below a n || first_faults.is_below b n)
below_least None b n = refl
below_least (Some x) None n = by_test (nat_lt x n) where
  by_test : (t : Bool) → t ≡ (t || false)
  by_test true = refl
  by_test false = refl
below_least (Some x) (Some y) n = grind (arith, nat_tests)

below_if : (t : Bool) (x n : ℕ) → first_faults.is_below (cond t (Some x) None) n ≡ (nat_lt x n && t)
below_if true x n = by_test (nat_lt x n) where
  by_test : (t : Bool) → t ≡ (t && true)
  by_test true = refl
  by_test false = refl
below_if false x n = by_test (nat_lt x n) where
  by_test : (t : Bool) → false ≡ (t && false)
  by_test true = refl
  by_test false = refl

below_any : (cells : List Member) (name : List ℕ) (n : ℕ)
    → first_faults.is_below (cell_number cells name) n ≡ list_any (λ (other : Member). nat_lt other.statement.number n && same_text (name_of other) name) cells
below_any [] name n = refl
below_any (cell ∷ cells) name n =
    below_least (number_if (name_of cell) cell.statement.number name) (cell_number cells name) n
    ∙ (ap (λ t. t || first_faults.is_below (cell_number cells name) n) (below_if (same_text (name_of cell) name) cell.statement.number n)
    ∙ ap (λ t. (nat_lt cell.statement.number n && same_text (name_of cell) name) || t) (below_any cells name n))

double_same : (numbers : Numbers) (cells : List Member) → HasCells numbers cells → (cell : Member)
    → first_faults.double_fault numbers cell ≡ first (liberty.double_faults cells cell)
double_same numbers cells has cell =
    ap (λ t. cond t (Some (liberty.fault_at cell.statement DoubleCell)) None)
    (ap (λ o. first_faults.is_below o cell.statement.number) (has (name_of cell)) ∙ below_any cells (name_of cell) cell.statement.number)
    ∙ first_one (liberty.is_double cells cell) (liberty.fault_at cell.statement DoubleCell)

-- ---- faults of libraries

cell_part_same : (numbers : Numbers) (cells : List Member) → HasCells numbers cells → (m : Member)
    → first_faults.cell_part_fault numbers m ≡ first (cond (is_group (codes "cell") m.statement) (liberty.double_faults cells m ++ liberty.cell_faults m) [])
cell_part_same numbers cells has m =
    ap (λ o. cond (is_group (codes "cell") m.statement) o None)
    (ap (λ o. or_fault o (first (liberty.cell_faults m))) (double_same numbers cells has m) ∙ sym (first_join (liberty.double_faults cells m) (liberty.cell_faults m)))
    ∙ sym (first_if (is_group (codes "cell") m.statement) (liberty.double_faults cells m ++ liberty.cell_faults m))

part_same : (numbers : Numbers) (cells : List Member) → HasCells numbers cells → (m : Member)
    → first_faults.part_fault numbers m ≡ first (liberty.part_faults cells m)
part_same numbers cells has m =
    ap (or_fault (first_faults.unit_fault m.statement (value_named (codes "time_unit") m.statement))) (cell_part_same numbers cells has m)
    ∙ sym (first_join (liberty.unit_faults m.statement (value_named (codes "time_unit") m.statement))
    (cond (is_group (codes "cell") m.statement) (liberty.double_faults cells m ++ liberty.cell_faults m) []))

library_same : (numbers : Numbers) (cells : List Member) (unit : Option ℕ) → HasCells numbers cells → (library : Member)
    → first_faults.library_fault numbers unit library ≡ first (liberty.library_faults cells unit library)
library_same numbers cells unit has library =
    ap (λ o. or_fault o (first_among (first_faults.part_fault numbers) (members 1 library.inside)))
    (first_one (liberty.is_other_unit unit (liberty.unit_of library)) (liberty.fault_at library.statement LibForm))
    ∙ (ap (or_fault (first (cond (liberty.is_other_unit unit (liberty.unit_of library)) (liberty.fault_at library.statement LibForm ∷ []) [])))
    (first_flat (first_faults.part_fault numbers) (liberty.part_faults cells) (part_same numbers cells has) (members 1 library.inside))
    ∙ sym (first_join (cond (liberty.is_other_unit unit (liberty.unit_of library)) (liberty.fault_at library.statement LibForm ∷ []) [])
    (flat_map (liberty.part_faults cells) (members 1 library.inside))))

pub libraries_same : (numbers : Numbers) (cells : List Member) (unit : Option ℕ) → HasCells numbers cells → (libraries : List Member)
    → first_among (first_faults.library_fault numbers unit) libraries ≡ first (flat_map (liberty.library_faults cells unit) libraries)
libraries_same numbers cells unit has libraries =
    first_flat (first_faults.library_fault numbers unit) (liberty.library_faults cells unit) (library_same numbers cells unit has) libraries
