-- Small libraries by example: where their first syntax errors are, what their faults are, and what their cells
-- have. Each is worked
-- out by hand from the rules of Liberty and from this project's own.
use Rattle.std.proofs.Common.{◌≡◌, ℕ, zero, suc, Bool, false, true, List, [], ◌∷◌, None, Result, Ok, Err, refl}
use Rattle.std.specs.Prelude.{◌||◌, codes, pos}
use Rattle.sdc_base.specs.declared.memory.At.{At}
use Rattle.source_types.specs.declared.kinds.LibKind.{LibKind}
use Rattle.source_types.specs.declared.kinds.LibKind.TheVariants.{DoubleCell, FunctionForm, LibForm, UnknownPin}
use Rattle.source_types.specs.declared.liberty_tokens.LibertySymbol.TheVariants as part
use Rattle.source_types.specs.declared.libraries.Library.{Library}
use Rattle.pin_types.specs.declared.library_cells.Direction.{Direction}
use Rattle.pin_types.specs.declared.library_cells.Direction.TheVariants.{Input, Other, Output}
use Rattle.pin_types.specs.declared.library_cells.LibArc.{LibArc}
use Rattle.pin_types.specs.declared.library_cells.LibCell.{LibCell}
use Rattle.pin_types.specs.declared.library_cells.LibCheck.{LibCheck}
use Rattle.pin_types.specs.declared.library_cells.LibPin.{LibPin}
use Rattle.pin_types.specs.declared.pins.Edge.{Edge}
use Rattle.pin_types.specs.declared.pins.Edge.TheVariants.{Rise, Fall}
use Rattle.pin_types.specs.declared.pins.Side.{Side}
use Rattle.pin_types.specs.declared.pins.Side.TheVariants.{Setup, Hold}
use Rattle.library_model.specs.LibertyGrammar.{formed, kinds, liberty}
use Rattle.library_model.specs.LibertyText.{read}
use Rattle.library_model.specs.LibertyTokens.{Character, Ending, Token, at_end, characters, is_in_comment, is_unfinished, last_token, plain, token_front, within_at_end}
use Rattle.text_model.specs.Row.{found, stops}
use Rattle.token_grammar.specs.Machine.{error_of}

-- the tokens of a text that has at most so many, and how they end
abbrev tokens_and_end : ℕ → List Character → List Token × Ending
tokens_and_end zero text = ([], at_end)
tokens_and_end (suc n) text =
    elim (token_front text) [
      | found t rest ↦ (t ∷ (tokens_and_end n rest).0, (tokens_and_end n rest).1)
      | stops ending ↦ (last_token ending, ending)
    ]

abbrev tokens : List ℕ → List Token × Ending
tokens text = tokens_and_end 100 (characters plain 1 text)

abbrev formed_of : List ℕ → Result (List Token) ℕ
formed_of text =
    let ts = tokens text in
    formed text ts.0 (is_unfinished ts.1 || is_in_comment (within_at_end plain text)) (error_of liberty part.Libraries (kinds 0 ts.0))

abbrev meaning : List ℕ → Result Library (At LibKind)
meaning text = read (formed_of text)

-- a fault, and a library that has this unit and these cells
abbrev fault : ℕ → LibKind → Result Library (At LibKind)
fault line kind = Err (record { line = line; kind = kind })

abbrev library : ℕ → List LibCell → Result Library (At LibKind)
library unit cells = Ok (record { unit = pos unit; cells = cells })

abbrev empty : Result Library (At LibKind)
empty = library 1000000 []

abbrev pin : List ℕ → Direction → LibPin
pin name direction = record { name = name; direction = direction; function = None }

abbrev arc : ℕ → ℕ → Bool → Bool → Bool → Bool → Bool → LibArc
arc from to rr rf fr ff launch =
    record { from = from; to = to; rise_rise = rr; rise_fall = rf; fall_rise = fr; fall_fall = ff; launch = launch }

abbrev check : ℕ → ℕ → Edge → Side → LibCheck
check checked clock edge side = record { pin = checked; clock = clock; clock_edge = edge; side = side }

abbrev cell : List ℕ → List LibPin → List LibArc → List LibCheck → LibCell
cell name pins arcs checks = record { name = name; pins = pins; arcs = arcs; checks = checks; refused = false }

abbrev refused : List ℕ → LibCell
refused name = record { name = name; pins = []; arcs = []; checks = []; refused = true }

-- ---- the grammar

-- an empty text has its first syntax error on line 1
nothing : meaning (codes "") ≡ fault 1 LibForm
nothing = refl

one_library : meaning (codes "library (a) { }") ≡ empty
one_library = refl

-- the last newline belongs to the line that it ends
two_libraries : meaning (codes "library (a) { } library () { }\n") ≡ empty
two_libraries = refl

-- beside library groups stands nothing
other_group : meaning (codes "\nfoo (a) { } library (b) { }") ≡ fault 2 LibForm
other_group = refl

too_early : meaning (codes "library (a) {\n") ≡ fault 1 LibForm
too_early = refl

lone_semicolon : meaning (codes "library (a) { }\n;") ≡ fault 2 LibForm
lone_semicolon = refl

empty_arguments : meaning (codes "library (a, \"b\" c) { x (); }") ≡ empty
empty_arguments = refl

two_commas : meaning (codes "library (a,\n,b) { }") ≡ fault 2 LibForm
two_commas = refl

comma_at_end : meaning (codes "library (a,\n) { }") ≡ fault 2 LibForm
comma_at_end = refl

nothing_parts : meaning (codes "library (\"a\"\n\"b\"\"c\") { }") ≡ fault 2 LibForm
nothing_parts = refl

-- a comment parts words
comment_parts : meaning (codes "library (\"a\"/**/\"b\") { }") ≡ empty
comment_parts = refl

-- the `;` may be missing where a line ends, and before `}`
missing_semicolon : meaning (codes "library (a) { x : y\nz : w }") ≡ empty
missing_semicolon = refl

semicolon_later : meaning (codes "library (a) { x : y\n; }") ≡ empty
semicolon_later = refl

missing_within_line : meaning (codes "library (a) { x : y; z : w\nv (b) u : t }") ≡ fault 2 LibForm
missing_within_line = refl

value_on_next_line : meaning (codes "library (a) { x :\ny\n}") ≡ empty
value_on_next_line = refl

-- an expression ends where its line does
two_lines : meaning (codes "library (a) { x : a +\nb\n; }") ≡ fault 3 LibForm
two_lines = refl

-- but not in parentheses
parentheses : meaning (codes "library (a) { x : (a +\nb) c\n }") ≡ empty
parentheses = refl

quoted_alone : meaning (codes "library (a) { x : \"a\"\n+ b }") ≡ fault 2 LibForm
quoted_alone = refl

comma_in_value : meaning (codes "library (a) { x : a\n\n, b }") ≡ fault 3 LibForm
comma_in_value = refl

-- the end of a line in a comment is none
comment_is_no_line_end : meaning (codes "library (a) { x : a /*\n*/ y : b; }") ≡ fault 2 LibForm
comment_is_no_line_end = refl

continued_is_no_line_end : meaning (codes "library (a) { x : a \\\ny : b; }") ≡ fault 2 LibForm
continued_is_no_line_end = refl

brackets : meaning (codes "library (a) { x : d[3:0]; }") ≡ empty
brackets = refl

colon : meaning (codes "library (a) { x : d]:0[; }") ≡ fault 1 LibForm
colon = refl

comment_without_end : meaning (codes "library (a) { }\n/*/") ≡ fault 2 LibForm
comment_without_end = refl

-- a quoted text without its end ends too early where one may stand
quote_without_end : meaning (codes "library (a) { x : \"b\nc }") ≡ fault 2 LibForm
quote_without_end = refl

quote_misplaced : meaning (codes "library \"b\nc }") ≡ fault 1 LibForm
quote_misplaced = refl

backslash_in_quotes : meaning (codes "library (a) { x : \"a\\\" ; }") ≡ empty
backslash_in_quotes = refl

-- ---- faults, in the order of the text

unit : meaning (codes "library (a) { time_unit : \"2ns\"; }") ≡ fault 1 LibForm
unit = refl

-- the last one counts
known_unit : meaning (codes "library (a) { time_unit : 10ps; time_unit : \"100ps\"; }") ≡ library 100000 []
known_unit = refl

-- each is looked at
first_unit_fault : meaning (codes "library (a) { time_unit : \"1 ns\"; time_unit : 1ns; }") ≡ fault 1 LibForm
first_unit_fault = refl

complex_unit : meaning (codes "library (a) { time_unit (1ps); }") ≡ empty
complex_unit = refl

-- a unit that differs is a fault of the later library
units_differ : meaning (codes "library (a) { }\nlibrary (b) {\ntime_unit : 1ps; }") ≡ fault 2 LibForm
units_differ = refl

double_cell : meaning (codes "library (a) { cell (X) { }\ncell (X) { } }") ≡ fault 2 DoubleCell
double_cell = refl

double_over_libraries : meaning (codes "library (a) { cell (X) { } }\nlibrary (b) { cell (X, Y) { } }") ≡ fault 2 DoubleCell
double_over_libraries = refl

related_fault : meaning (codes "library (a) { cell (X) { pin (Z) {\ntiming () {\nrelated_pin : \"Z A\"; } } } }") ≡ fault 3 UnknownPin
related_fault = refl

form_fault : meaning (codes "library (a) { cell (X) { pin () { direction : input;\nfunction : A(A); } pin (A) { } } }") ≡ fault 2 FunctionForm
form_fault = refl

-- a cell with a bus has no such fault
bus_cell : meaning (codes "library (a) { cell (X) { bus (D) { } pin (A) { function : A(A); } } }") ≡ library 1000000 (refused (codes "X") ∷ [])
bus_cell = refl

earlier_cell : meaning (codes "library (a) { cell (X) { }\ncell (X) {\npin (A) { function : \"+\"; } } }") ≡ fault 2 DoubleCell
earlier_cell = refl

-- ---- cells

-- pins of one group; a direction in parentheses does not count
other_pins : meaning (codes "library (a) { cell (X) { pin (A, B) { direction : \"input\" } pin (\"C\") { direction (input); } } }") ≡ library 1000000 (cell (codes "X") (pin (codes "A") Input ∷ pin (codes "B") Input ∷ pin (codes "C") Other ∷ []) [] [] ∷ [])
other_pins = refl

buffer : meaning (codes "library (a) { cell (B) { pin (Z) { direction : output; timing () { related_pin : A; timing_sense : positive_unate } } pin (A) { direction : input } } }") ≡ library 1000000 (cell (codes "B") (pin (codes "Z") Output ∷ pin (codes "A") Input ∷ []) (arc 1 0 true false false true false ∷ []) [] ∷ [])
buffer = refl

-- two groups between one pair of pins are one arc
united : meaning (codes "library (a) { cell (B) { pin (A C) { direction : input } pin (Z) { direction : output\ntiming () { related_pin : \"A C\"; timing_sense : negative_unate; timing_type : combinational_rise }\ntiming () { related_pin : A; timing_sense : positive_unate; timing_type : combinational_fall } } } }") ≡ library 1000000 (cell (codes "B") (pin (codes "A") Input ∷ pin (codes "C") Input ∷ pin (codes "Z") Output ∷ []) (arc 0 2 false false true true false ∷ arc 1 2 false false true false false ∷ []) [] ∷ [])
united = refl

register : meaning (codes "library (a) { cell (F) { ff (IQ) { } pin (D) { direction : input\ntiming () { related_pin : \"C IQ\"; timing_type : setup_rising }\ntiming () { related_pin : C; timing_type : recovery_rising }\ntiming () { related_pin : C; timing_type : removal_falling } }\npin (C) { } pin (Q) { direction : output timing () { related_pin : C; timing_type : rising_edge } } } }") ≡ fault 5 LibForm
register = refl

-- equal checks stand once; a state variable that is no pin has no check
flip_flop : meaning (codes "library (a) { cell (F) { ff (IQ) { } pin (D) { direction : input\ntiming () { related_pin : \"C IQ\"; timing_type : setup_rising }\ntiming () { related_pin : C; timing_type : recovery_rising }\ntiming () { related_pin : C; timing_type : removal_falling } }\npin (C) { direction : input } pin (Q) { direction : output; timing () { related_pin : C; timing_type : rising_edge } } } }") ≡ library 1000000 (cell (codes "F") (pin (codes "D") Input ∷ pin (codes "C") Input ∷ pin (codes "Q") Output ∷ []) (arc 1 2 true true false false true ∷ []) (check 0 1 Rise Setup ∷ check 0 1 Fall Hold ∷ []) ∷ [])
flip_flop = refl

two_launches : meaning (codes "library (a) { cell (F) { pin (C D) { direction : input } pin (Q) { direction : output; timing () { related_pin : \"C D\"; timing_type : falling_edge } } } }") ≡ library 1000000 (refused (codes "F") ∷ [])
two_launches = refl
