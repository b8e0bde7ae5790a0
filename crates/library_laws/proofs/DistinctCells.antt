-- No two cells of a library that is read have one name: the later one would be a fault.
use Rattle.std.proofs.Common.{◌≡◌, ◌<◌, ℕ, zero, suc, true, false, List, [], ◌∷◌, Option, Some, map, refl, sym, ap, subst, ◌∙◌, inl, inr, slice_get}
use Rattle.std.specs.Prelude.{◌&&◌, codes, nat_lt}
use Rattle.std.specs.List.{All, flat_map}
use Rattle.std.proofs.lemmas.Bool.{and_from, both_ways, cases_order, lt-ltb}
use Rattle.std.proofs.lemmas.List.Elements.{All-get_or, All-weaker}
use Rattle.std.proofs.lemmas.List.Folds.{list_any_at}
use Rattle.std.proofs.lemmas.Option.{get_or_from_slice_get, none-some, same_Some, slice_get_within}
use Rattle.pin_types.specs.declared.library_cells.LibCell.{LibCell}
use Rattle.library_model.specs.LibertyArcs.{lib_cell}
use Rattle.library_model.specs.LibertyCells.{name_of}
use Rattle.library_model.specs.LibertyFaults.{cells_of, faults_of, first_unit, is_double, libraries_of, library_faults}
use Rattle.library_model.specs.LibertyStatements.{Member, is_group, members, statements_of}
use Rattle.library_model.specs.LibertyTokens.{Token}
use Rattle.text_model.specs.Names.{AreDistinct}
use Rattle.text_model.specs.Words.{same_text}
use Rattle.library_laws.proofs.CellForms.{by_form}
use Rattle.library_laws.proofs.ClearParts.{IsClear, cell_clear, parts_clear}
use Rattle.text_model.proofs.EachItem.{each_joined, each_kept, each_nothing, unless}
use Rattle.text_model.proofs.SameTexts.{text_same}
use Rattle.library_laws.proofs.RisingCells.{Rises, cells_in, cells_rise, in_order, member_number}

-- ---- no cell is double

not_double : (cells : List Member) (m : Member) → IsClear cells m → is_group (codes "cell") m.statement ≡ true → is_double cells m ≡ false
not_double cells m clear group = unless (is_double cells m) _ (cell_clear cells m clear group)

-- a cell has no earlier one of its name
abbrev IsSingle : List Member → Member → Type 0
IsSingle cells m = is_double cells m ≡ false

library_single : (cells : List Member) (first : Option ℕ) (library : Member) → library_faults cells first library ≡ [] → All (IsSingle cells) (cells_in library)
library_single cells first library none =
    each_kept (IsSingle cells) (λ (m : Member). is_group (codes "cell") m.statement) (members 1 library.inside)
    (All-weaker (IsClear cells) (λ (m : Member). is_group (codes "cell") m.statement ≡ true → IsSingle cells m) (not_double cells) (members 1 library.inside) (parts_clear cells first library none))

all_single : (cells : List Member) (first : Option ℕ) (libraries : List Member) → flat_map (library_faults cells first) libraries ≡ [] → All (IsSingle cells) (flat_map cells_in libraries)
all_single cells first libraries none =
    each_joined (IsSingle cells) cells_in libraries
    (All-weaker (λ (l : Member). library_faults cells first l ≡ []) (λ (l : Member). All (IsSingle cells) (cells_in l)) (library_single cells first) libraries (each_nothing (library_faults cells first) libraries none))

-- ---- names

-- an earlier cell of a name makes the later one double
double : (cells : List Member) (i : ℕ) (one other : Member) → slice_get cells i ≡ Some one → member_number one < member_number other → name_of one ≡ name_of other → is_double cells other ≡ true
double cells i one other is below same =
    list_any_at (λ (m : Member). nat_lt m.statement.number other.statement.number && same_text (name_of m) (name_of other)) cells i one (slice_get_within cells i one is)
    (subst (λ (m : Member). (nat_lt m.statement.number other.statement.number && same_text (name_of m) (name_of other)) ≡ true) (sym (get_or_from_slice_get cells i one one is))
    (and_from (nat_lt one.statement.number other.statement.number) (same_text (name_of one) (name_of other)) (lt-ltb one.statement.number other.statement.number below)
    (subst (λ name. same_text name (name_of other) ≡ true) (sym same) (text_same (name_of other)))))

at_place : (P : Member → Type 0) (cells : List Member) (i : ℕ) (m : Member) → All P cells → slice_get cells i ≡ Some m → P m
at_place P cells i m all is = subst P (get_or_from_slice_get cells i m m is) (All-get_or P cells i m (slice_get_within cells i m is) all)

named : (cells : List Member) (i : ℕ) (name : List ℕ) → slice_get (map name_of cells) i ≡ Some name → (m : Member) × (slice_get cells i ≡ Some m) × (name_of m ≡ name)
named [] i name is = absurd (none-some name is)
named (cell ∷ cells) zero name is = (cell, refl, same_Some (name_of cell) name is)
named (cell ∷ cells) (suc i) name is = named cells i name is

cell_name : (cell : Member) → (lib_cell cell).name ≡ name_of cell
cell_name cell = by_form (λ (c : LibCell). c.name ≡ name_of cell) cell refl (λ is. refl)

cell_names : (cells : List Member) → map (λ (cell : LibCell). cell.name) (map lib_cell cells) ≡ map name_of cells
cell_names [] = refl
cell_names (cell ∷ cells) = ap (λ name. name ∷ map (λ (c : LibCell). c.name) (map lib_cell cells)) (cell_name cell) ∙ ap (λ names. name_of cell ∷ names) (cell_names cells)

distinct_names : (cells : List Member) (low high : ℕ) → Rises member_number low high cells → All (IsSingle cells) cells → AreDistinct (map name_of cells)
distinct_names cells low high rises clear i j name is are =
    let one = named cells i name is in
    let other = named cells j name are in
    elim (cases_order i j) [
      | inl same ↦ same
      | inr apart ↦ absurd (elim apart [
        | inl below ↦ both_ways (is_double cells other.0) (at_place (IsSingle cells) cells j other.0 clear other.1)
            (double cells i one.0 other.0 one.1 (in_order member_number low high cells i j one.0 other.0 rises below one.1 other.1) (one.2 ∙ sym other.2))
        | inr above ↦ both_ways (is_double cells one.0) (at_place (IsSingle cells) cells i one.0 clear one.1)
            (double cells j other.0 one.0 other.1 (in_order member_number low high cells j i other.0 one.0 rises above other.1 one.1) (other.2 ∙ sym one.2))
      ])
    ]

pub names_are_distinct : (tokens : List Token) → faults_of (statements_of tokens) ≡ [] → AreDistinct (map (λ (cell : LibCell). cell.name) (map lib_cell (cells_of (statements_of tokens))))
names_are_distinct tokens none =
    let cells = cells_of (statements_of tokens) in
    let rises = cells_rise tokens in
    subst AreDistinct (sym (cell_names cells))
    (distinct_names cells rises.0 rises.1 rises.2 (all_single cells (first_unit (libraries_of (statements_of tokens))) (libraries_of (statements_of tokens)) none))
