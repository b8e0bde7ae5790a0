-- A library's text without faults: none of its libraries has one, and none of the parts of these.
use Rattle.std.proofs.Common.{◌≡◌, ℕ, Bool, true, false, List, [], ◌++◌, Option}
use Rattle.std.specs.Prelude.{codes, if◌then◌else◌}
use Rattle.std.specs.List.{All, flat_map}
use Rattle.library_model.specs.LibertyFaults.{cell_faults, double_faults, is_other_unit, library_faults, part_faults, unit_faults, unit_of}
use Rattle.library_model.specs.LibertyStatements.{Member, is_group, members, value_named}
use Rattle.text_model.proofs.EachItem.{both_nothing, each_nothing}

-- a part of a library has no faults
abbrev pub IsClear : List Member → Member → Type 0
IsClear cells m = part_faults cells m ≡ []

pub parts_clear : (cells : List Member) (first : Option ℕ) (library : Member) → library_faults cells first library ≡ [] → All (IsClear cells) (members 1 library.inside)
parts_clear cells first library none =
    each_nothing (part_faults cells) (members 1 library.inside)
    (both_nothing (if is_other_unit first (unit_of library) then _ else []) (flat_map (part_faults cells) (members 1 library.inside)) none).1

both_clear : (cells : List Member) (m : Member) → IsClear cells m
    → (unit_faults m.statement (value_named (codes "time_unit") m.statement) ≡ [])
    × ((if is_group (codes "cell") m.statement then double_faults cells m ++ cell_faults m else []) ≡ [])
both_clear cells m clear =
    both_nothing (unit_faults m.statement (value_named (codes "time_unit") m.statement)) (if is_group (codes "cell") m.statement then double_faults cells m ++ cell_faults m else []) clear

-- a unit has none, and a cell is not double
pub unit_clear : (cells : List Member) (m : Member) → IsClear cells m → unit_faults m.statement (value_named (codes "time_unit") m.statement) ≡ []
unit_clear cells m clear = (both_clear cells m clear).0

when : {A : Type 0} (b : Bool) (xs : List A) → (if b then xs else []) ≡ [] → b ≡ true → xs ≡ []
when true xs is holds = is
when false xs is holds = absurd cc

pub cell_clear : (cells : List Member) (m : Member) → IsClear cells m → is_group (codes "cell") m.statement ≡ true → double_faults cells m ≡ []
cell_clear cells m clear group =
    (both_nothing (double_faults cells m) (cell_faults m) (when (is_group (codes "cell") m.statement) (double_faults cells m ++ cell_faults m) (both_clear cells m clear).1 group)).0
