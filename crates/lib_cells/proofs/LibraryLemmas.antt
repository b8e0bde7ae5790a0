-- A library, or its first fault, by what is known of its cells.
use Rattle.std.proofs.Common.{◌≡◌, ◌∙◌, ℕ, ℤ, pos, List, [], ◌∷◌, map, Option, Some, None, Ok, Err, refl, sym, ap}
use Rattle.std.specs.List.{flat_map}
use Rattle.sdc_base.specs.declared.memory.At.{At}
use Rattle.source_types.specs.declared.kinds.LibKind.{LibKind}
use Rattle.source_types.specs.declared.libraries.Library.{Library}
use Rattle.pin_types.specs.declared.library_cells.LibCell.{LibCell}
use Rattle.library_model.specs.LibertyArcs.{lib_cell}
use Rattle.library_model.specs.LibertyFaults.{cells_of, faults_of, first_unit, libraries_of, library_faults}
use Rattle.library_model.specs.LibertyStatements.{Member, Statement}
use Rattle.library_model.specs.LibertyText.{library_if, library_of, unit_in}
use Rattle.lib_cells.specs.FirstFaults.{cells_in, first, first_among, library_fault}
use Rattle.lib_cells.specs.CellNumbers.{HasCells}
use Rattle.bool_lanes.specs.declared.numbers.Numbers.{Numbers}
use Rattle.lib_cells.proofs.FaultFacts.{libraries_same}

library_sound : (statements : List Statement) (xs : List (At LibKind)) → first xs ≡ None → library_if statements xs ≡ Ok (library_of statements)
library_sound statements [] e = refl
library_sound statements (x ∷ xs) e = cc

library_refused : (statements : List Statement) (xs : List (At LibKind)) (fault : At LibKind) → first xs ≡ Some fault → library_if statements xs ≡ Err fault
library_refused statements [] fault e = cc
library_refused statements (x ∷ xs) fault e = ap Err (same e) where
  same : Some x ≡ Some fault → x ≡ fault
  same h = cc

-- the first fault, by the numbers of cells
first_same : (statements : List Statement) (libraries cells : List Member) (numbers : Numbers) (unit : Option ℕ)
    → libraries ≡ libraries_of statements → cells ≡ cells_in libraries → HasCells numbers cells → unit ≡ first_unit libraries
    → first_among (library_fault numbers unit) libraries ≡ first (faults_of statements)
first_same statements libraries cells numbers unit ls cs has u =
    libraries_same numbers cells unit has libraries
    ∙ (ap (λ l. first (flat_map (library_faults cells unit) l)) ls
    ∙ (ap (λ c. first (flat_map (library_faults c unit) (libraries_of statements))) (cs ∙ ap cells_in ls)
    ∙ ap (λ f. first (flat_map (library_faults (cells_of statements) f) (libraries_of statements))) (u ∙ ap first_unit ls)))

pub all_refused : (statements : List Statement) (libraries cells : List Member) (numbers : Numbers) (unit : Option ℕ) (found : Option (At LibKind)) (fault : At LibKind)
    → libraries ≡ libraries_of statements → cells ≡ cells_in libraries → HasCells numbers cells → unit ≡ first_unit libraries
    → found ≡ first_among (library_fault numbers unit) libraries → found ≡ Some fault → library_if statements (faults_of statements) ≡ Err fault
all_refused statements libraries cells numbers unit found fault ls cs has u is some =
    library_refused statements (faults_of statements) fault (sym (first_same statements libraries cells numbers unit ls cs has u) ∙ (sym is ∙ some))

abbrev pub library_with : ℤ → List LibCell → Library
library_with unit cells = record { unit = unit; cells = cells }

pub all_sound : (statements : List Statement) (libraries cells : List Member) (numbers : Numbers) (unit : Option ℕ) (found : Option (At LibKind)) (units : ℤ) (made : List LibCell)
    → libraries ≡ libraries_of statements → cells ≡ cells_in libraries → HasCells numbers cells → unit ≡ first_unit libraries
    → found ≡ first_among (library_fault numbers unit) libraries → found ≡ None
    → units ≡ pos (unit_in unit) → made ≡ map lib_cell cells
    → library_if statements (faults_of statements) ≡ Ok (library_with units made)
all_sound statements libraries cells numbers unit found units made ls cs has u is none units_are made_are =
    library_sound statements (faults_of statements) (sym (first_same statements libraries cells numbers unit ls cs has u) ∙ (sym is ∙ none))
    ∙ sym (ap (λ n. Ok (library_with n made)) (units_are ∙ ap (λ f. pos (unit_in f)) (u ∙ ap first_unit ls))
    ∙ ap (λ c. Ok (library_with (pos (unit_in (first_unit (libraries_of statements)))) c)) (made_are ∙ ap (map lib_cell) (cs ∙ ap cells_in ls)))
