-- What the bytes of a library mean (Liberty): a library, or their first fault. What is read, what is refused and the
-- order of faults are this project's own. Faults stand in this order: bytes that are no text; a syntax error;
-- then all others in the order of the text.
use Rattle.std.specs.Prelude.{◌≡◌, ◌⊎◌, ℕ, pos, List, [], ◌∷◌, map, Option, Some, None, Result, Ok, Err}
use Rattle.std.specs.Str.{IsUtf8}
use Rattle.sdc_base.specs.declared.memory.At.{At}
use Rattle.source_types.specs.declared.kinds.LibKind.{LibKind}
use Rattle.source_types.specs.declared.kinds.LibKind.TheVariants.{LibForm, NotText}
use Rattle.source_types.specs.declared.libraries.Library.{Library}
use Rattle.text_model.specs.LastLine.{broken_text_line}
use Rattle.library_model.specs.LibertyArcs.{lib_cell}
use Rattle.library_model.specs.LibertyFaults.{cells_of, faults_of, first_unit, libraries_of}
use Rattle.library_model.specs.LibertyGrammar.{IsFormed}
use Rattle.library_model.specs.LibertyStatements.{Statement, statements_of}
use Rattle.library_model.specs.LibertyTokens.{Token}

-- the unit in femtoseconds; where the first library has none, there is a fault
abbrev pub unit_in : Option ℕ → ℕ
unit_in None = 0
unit_in (Some unit) = unit

abbrev pub library_of : List Statement → Library
library_of statements = record {
  unit = pos (unit_in (first_unit (libraries_of statements)));
  cells = map lib_cell (cells_of statements);
}

-- the library of a text that is one of the grammar, or its first fault
abbrev pub library_if : List Statement → List (At LibKind) → Result Library (At LibKind)
library_if statements [] = Ok (library_of statements)
library_if statements (fault ∷ faults) = Err fault

abbrev pub read : Result (List Token) ℕ → Result Library (At LibKind)
read (Ok tokens) = library_if (statements_of tokens) (faults_of (statements_of tokens))
read (Err line) = Err (record { line = line; kind = LibForm })

-- what bytes mean
abbrev pub ReadsLibrary : List ℕ → Result Library (At LibKind) → Type 0
ReadsLibrary bytes outcome =
    (IsUtf8 bytes × ((formed : Result (List Token) ℕ) × IsFormed bytes formed × (outcome ≡ read formed)))
    ⊎ ((IsUtf8 bytes → ⊥) × (outcome ≡ Err (record { line = broken_text_line bytes; kind = NotText })))

-- bytes mean something, and one thing
abbrev pub HasMeaning : List ℕ → Type 0
HasMeaning bytes = (outcome : Result Library (At LibKind)) × ReadsLibrary bytes outcome

abbrev pub HasOneMeaning : List ℕ → Type 0
HasOneMeaning bytes =
    (one other : Result Library (At LibKind)) → ReadsLibrary bytes one → ReadsLibrary bytes other → one ≡ other
