-- A library that is read can be used: its unit is one of the four, no two cells have one name, and each cell that is
-- not refused has arcs, checks and functions of its own pins.
use Rattle.std.proofs.Common.{◌≡◌, ◌≤◌, ◌+◌, ℕ, Bool, true, false, List, [], ◌∷◌, Option, Some, None, Result, Ok, Err, length, refl, sym, subst, inl, inr, arith, slice_index_or}
use Rattle.std.specs.Prelude.{◌||◌, nat_lt}
use Rattle.std.specs.List.{All, list_any}
use Rattle.std.proofs.lemmas.Bool.{ltb-false, or_parts, true≢false}
use Rattle.std.proofs.lemmas.List.{length-map}
use Rattle.std.proofs.lemmas.List.Elements.{All-map}
use Rattle.token_grammar.specs.declared.grammar.SyntaxError.{SyntaxError}
use Rattle.token_grammar.specs.declared.grammar.SyntaxError.TheVariants as error
use Rattle.token_grammar.specs.Texts.{ErrorIs, IsText}
use Rattle.sdc_base.specs.declared.memory.At.{At}
use Rattle.source_types.specs.declared.kinds.LibKind.{LibKind}
use Rattle.source_types.specs.declared.libraries.Library.{Library}
use Rattle.pin_types.specs.declared.library_cells.LibCell.{LibCell}
use Rattle.source_types.specs.declared.liberty_tokens.LibertySymbol.TheVariants as part
use Rattle.design_model.specs.UsableLibrary.{IsWellFormedLibrary}
use Rattle.library_model.specs.LibertyArcs.{arcs_of, checks_of, has_two_launches, is_refused, lib_cell}
use Rattle.library_model.specs.LibertyCells.{has_wide_function, is_bus, is_left_out, lib_pin, pins, state_variables}
use Rattle.library_model.specs.LibertyFaults.{cells_of, faults_of}
use Rattle.library_model.specs.LibertyGrammar.{IsFormed, formed, kinds, liberty}
use Rattle.library_model.specs.LibertyStatements.{Member, members, statements_of}
use Rattle.library_model.specs.LibertyText.{ReadsLibrary, library_if, library_of, read}
use Rattle.library_model.specs.LibertyTokens.{Token}
use Rattle.design_model.specs.UsableLibrary.{IsUsable}
use Rattle.library_laws.proofs.CellArcs.{ArcWithin, CheckWithin, arcs_within, checks_within}
use Rattle.library_laws.proofs.CellForms.{by_form, whole_cell}
use Rattle.library_laws.proofs.CellFunctions.{functions_are_of_inputs}
use Rattle.library_laws.proofs.DistinctCells.{names_are_distinct}
use Rattle.library_laws.proofs.NamedUnits.{unit_is_one}
use Rattle.text_model.proofs.Outcomes.{ok_err, same_ok}

-- ---- cells

few_pins : (cell : Member) → is_refused cell ≡ false → length (pins cell) ≤ 60000
few_pins cell taken =
    let narrow = or_parts (is_left_out cell || has_wide_function cell) (has_two_launches cell) taken in
    let there = or_parts (is_left_out cell) (has_wide_function cell) narrow.0 in
    let short = or_parts (list_any (λ (m : Member). is_bus m.statement) (members 2 cell.inside)) (nat_lt 60000 (length (pins cell) + length (state_variables cell))) there.0 in
    let few = ltb-false 60000 (length (pins cell) + length (state_variables cell)) short.1 in
    omega (arith, few)

whole_usable : (cell : Member) → is_refused cell ≡ false → IsUsable (whole_cell cell)
whole_usable cell taken =
    let count = length-map (pins cell) (lib_pin cell) in
    record {
      supported = refl;
      few = subst (λ n. n ≤ 60000) (sym count) (few_pins cell taken);
      arcs = subst (λ n. All (ArcWithin n) (arcs_of cell)) (sym count) (arcs_within cell);
      checks = subst (λ n. All (CheckWithin n) (checks_of cell)) (sym count) (checks_within cell);
      functions = functions_are_of_inputs cell;
    }

cell_usable : (cell : Member) → (lib_cell cell).refused ≡ false → IsUsable (lib_cell cell)
cell_usable cell =
    by_form (λ (c : LibCell). c.refused ≡ false → IsUsable c) cell (λ is. absurd (true≢false is)) (λ taken is. whole_usable cell taken)

-- ---- libraries

tokens_usable : (tokens : List Token) → IsText liberty part.Libraries (kinds 0 tokens) → faults_of (statements_of tokens) ≡ [] → IsWellFormedLibrary (library_of (statements_of tokens))
tokens_usable tokens text none = record {
  unit = unit_is_one tokens text none;
  names = names_are_distinct tokens none;
  usable = All-map (λ (c : LibCell). c.refused ≡ false → IsUsable c) lib_cell (cells_of (statements_of tokens)) (λ k d within. cell_usable (slice_index_or (cells_of (statements_of tokens)) k d));
}

read_usable : (tokens : List Token) (faults : List (At LibKind)) (library : Library) → IsText liberty part.Libraries (kinds 0 tokens) → faults_of (statements_of tokens) ≡ faults → Ok library ≡ library_if (statements_of tokens) faults → IsWellFormedLibrary library
read_usable tokens [] library text none is =
    subst IsWellFormedLibrary (sym (same_ok library (library_of (statements_of tokens)) is)) (tokens_usable tokens text none)
read_usable tokens (fault ∷ faults) library text some is = absurd (ok_err library fault is)

-- ---- bytes

whole_text : (text : List ℕ) (ts tokens : List Token) (unfinished : Bool) (place : Option SyntaxError) → Ok tokens ≡ formed text ts unfinished place → ErrorIs liberty part.Libraries (kinds 0 ts) place → IsText liberty part.Libraries (kinds 0 tokens)
whole_text text ts tokens false None is derived = subst (λ us. IsText liberty part.Libraries (kinds 0 us)) (sym (same_ok tokens ts is)) derived
whole_text text ts tokens true None is derived = absurd (ok_err tokens _ is)
whole_text text ts tokens unfinished (Some (error.Token place)) is derived = absurd (ok_err tokens _ is)
whole_text text ts tokens unfinished (Some error.End) is derived = absurd (ok_err tokens _ is)

formed_usable : (text : List ℕ) (outcome : Result (List Token) ℕ) (library : Library) → IsFormed text outcome → Ok library ≡ read outcome → IsWellFormedLibrary library
formed_usable text (Ok tokens) library h is =
    read_usable tokens (faults_of (statements_of tokens)) library (whole_text text h.tokens tokens h.unfinished h.place h.gives h.error_is) refl is
formed_usable text (Err line) library h is = absurd (ok_err library _ is)

pub library_usable : (bytes : List ℕ) (library : Library) → ReadsLibrary bytes (Ok library) → IsWellFormedLibrary library
library_usable bytes library (inl h) = formed_usable bytes h.1.0 library h.1.1 h.1.2
library_usable bytes library (inr h) = absurd (ok_err library _ h.1)
