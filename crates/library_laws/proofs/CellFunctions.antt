-- The functions of a library cell are over its input pins, at most ten different ones each.
use Rattle.std.proofs.Common.{◌≡◌, ◌+◌, ◌<◌, ◌≤◌, ℕ, suc, Bool, true, false, List, [], ◌∷◌, ◌++◌, Option, Some, None, Result, Ok, Err, length, map, refl, sym, ap, subst, ◌∙◌, arith, slice_get, slice_index_or}
use Rattle.std.specs.Prelude.{cond, nat_le, nat_lt, option_map, if◌then◌else◌}
use Rattle.std.specs.List.{All, filter, list_any, prefix_len}
use Rattle.std.proofs.lemmas.Bool.{and_parts, cond-false, leb-false, ltb-false, or_parts}
use Rattle.std.proofs.lemmas.List.{length-map}
use Rattle.std.proofs.lemmas.List.Elements.{All-cons, All-get_or, All-map, All-nil, All-weaker}
use Rattle.std.proofs.lemmas.Option.{slice_get-map}
use Rattle.sdc_base.proofs.CaseFacts.{by_bool}
use Rattle.pin_types.specs.declared.functions.Expr.{Expr}
use Rattle.source_types.specs.declared.kinds.LibKind.{LibKind}
use Rattle.source_types.specs.declared.kinds.LibKind.TheVariants.{FunctionForm, FunctionWide, UnknownPin}
use Rattle.pin_types.specs.declared.library_cells.Direction.{Direction}
use Rattle.pin_types.specs.declared.library_cells.Direction.TheVariants as direction
use Rattle.pin_types.specs.declared.library_cells.LibPin.{LibPin}
use Rattle.function_model.specs.FunctionMeaning.{inputs_among, inputs_in, is_other, is_unknown, meaning, meaning_if, meaning_of, pins_of}
use Rattle.function_model.specs.FunctionText.{expression}
use Rattle.library_model.specs.LibertyCells.{NamedPin, direction_of, function_if, function_meaning, function_names, function_of, function_text, input_places, is_input, is_named, is_named_input, lib_pin, other_names, pins, placed, state_variables}
use Rattle.library_model.specs.LibertyStatements.{Member}
use Rattle.design_model.specs.UsableLibrary.{IsFunctionOf, IsInputOf, distinct}
use Rattle.library_laws.proofs.DistinctInputs.{places_few}
use Rattle.library_laws.proofs.FunctionPins.{place_at, pins_placed}

-- ---- a function of a meaning is over inputs

none_passes : {A : Type 0} (test : A → Bool) (xs : List A) → list_any test xs ≡ false → All (λ x. test x ≡ false) xs
none_passes test [] none = All-nil (λ x. test x ≡ false)
none_passes test (x ∷ xs) none =
    let parts = or_parts (test x) (list_any test xs) none in All-cons (λ y. test y ≡ false) x xs parts.0 (none_passes test xs parts.1)

-- pins of an expression are inputs among names, at most ten different ones
record AreInputs (names : List (List ℕ)) (e : Expr) : Type 0 where
  inputs : All (λ pin. pin < inputs_in names) (pins_of e)
  few : length (inputs_among names (pins_of e)) ≤ 10

abbrev IsMeant : List (List ℕ) → Result (Option Expr) LibKind → Type 0
IsMeant names (Ok (Some e)) = AreInputs names e
IsMeant names (Ok None) = Unit {0}
IsMeant names (Err kind) = Unit {0}

is_input_of : (names : List (List ℕ)) (pin : ℕ) → is_other names pin ≡ false → pin < inputs_in names
is_input_of names pin none = leb-false (inputs_in names) pin (or_parts (nat_le (inputs_in names) pin) _ none).0

pins_meant : (names : List (List ℕ)) (e : Expr) → IsMeant names (meaning_of names (pins_of e) e)
pins_meant names e =
    by_bool (λ b. IsMeant names (if b then Err UnknownPin
    else if nat_lt 10 (length (inputs_among names (pins_of e))) then Err FunctionWide
    else if list_any (is_other names) (pins_of e) then Ok None
    else Ok (Some e))) (list_any (is_unknown names) (pins_of e))
    (λ unknown. tt)
    (λ known. by_bool (λ b. IsMeant names (if b then Err FunctionWide else if list_any (is_other names) (pins_of e) then Ok None else Ok (Some e))) (nat_lt 10 (length (inputs_among names (pins_of e))))
    (λ wide. tt)
    (λ narrow. by_bool (λ b. IsMeant names (if b then Ok None else Ok (Some e))) (list_any (is_other names) (pins_of e))
    (λ other. tt)
    (λ none. record {
      inputs = All-weaker (λ pin. is_other names pin ≡ false) (λ pin. pin < inputs_in names) (is_input_of names) (pins_of e) (none_passes (is_other names) (pins_of e) none);
      few = ltb-false 10 (length (inputs_among names (pins_of e))) narrow;
    })))

if_meant : (names : List (List ℕ)) (o : Option Expr) → IsMeant names (meaning_if names o)
if_meant names None = tt
if_meant names (Some e) = pins_meant names e

is_meant : (names : List (List ℕ)) (text : List ℕ) → IsMeant names (meaning names text)
is_meant names text =
    by_bool (λ b. IsMeant names (if b then Err FunctionForm else meaning_if names (expression names text))) (nat_lt 1024 (length text))
    (λ long. tt)
    (λ short. if_meant names (expression names text))

-- ---- there are as many inputs as places of inputs

prefix_short : {A : Type 0} (test : A → Bool) (xs ys : List A) (y : A) → test y ≡ false → prefix_len test (xs ++ y ∷ ys) ≤ length xs
prefix_short test [] ys y is = let none = cond-false (test y) (1 + prefix_len test ys) 0 is in omega (arith, none)
prefix_short test (x ∷ xs) ys y is =
    let rest = prefix_short test xs ys y is in
    by_bool (λ b. cond b (1 + prefix_len test (xs ++ y ∷ ys)) 0 ≤ length (x ∷ xs)) (test x) (λ passes. omega (arith, rest)) (λ fails. omega arith)

as_many : (place : ℕ) (ps : List NamedPin) → length (input_places place ps) ≡ length (filter is_named_input ps)
as_many place [] = refl
as_many place (pin ∷ ps) =
    let rest = as_many (place + 1) ps in
    by_bool (λ b. length (if b then place ∷ input_places (place + 1) ps else input_places (place + 1) ps) ≡ length (if b then pin ∷ filter is_named_input ps else filter is_named_input ps)) (is_named_input pin)
    (λ is. omega (arith, rest))
    (λ is. rest)

inputs_short : (cell : Member) → inputs_in (function_names cell) ≤ length (input_places 0 (pins cell))
inputs_short cell =
    let named = filter is_named_input (pins cell) in
    let short = prefix_short (λ (name : List ℕ). nat_lt 0 (length name)) (map (λ (pin : NamedPin). pin.name) named)
    (filter is_named (state_variables cell ++ other_names (pins cell))) [] refl in
    omega (arith, short, length-map named (λ (pin : NamedPin). pin.name), as_many 0 (pins cell))

-- ---- the places are those of inputs

-- an input stands at a place of pins
abbrev HasInput : List NamedPin → ℕ → Type 0
HasInput ps place = (pin : NamedPin) × (slice_get ps place ≡ Some pin) × (direction_of pin ≡ direction.Input)

input_direction : (d : Direction) → is_input d ≡ true → d ≡ direction.Input
input_direction direction.Input is = refl
input_direction direction.Output is = absurd cc
input_direction direction.Other is = absurd cc

inputs_placed : (all : List NamedPin) (place : ℕ) (ps : List NamedPin) → ((i : ℕ) → slice_get all (place + i) ≡ slice_get ps i) → All (HasInput all) (input_places place ps)
inputs_placed all place [] same = All-nil (HasInput all)
inputs_placed all place (pin ∷ ps) same =
    let here : slice_get all place ≡ Some pin = ap (slice_get all) (omega arith) ∙ same 0 in
    let rest = inputs_placed all (place + 1) ps (λ i. ap (slice_get all) (omega arith) ∙ same (suc i)) in
    by_bool (λ b. All (HasInput all) (if b then place ∷ input_places (place + 1) ps else input_places (place + 1) ps)) (is_named_input pin)
    (λ is. All-cons (HasInput all) place (input_places (place + 1) ps)
    (pin, here, input_direction (direction_of pin) (and_parts (is_input (direction_of pin)) (is_named pin.name) is).0) rest)
    (λ is. rest)

has_input : (cell : Member) (place : ℕ) → HasInput (pins cell) place → IsInputOf (map (lib_pin cell) (pins cell)) place
has_input cell place h = (lib_pin cell h.0, slice_get-map (lib_pin cell) (pins cell) place ∙ ap (option_map (lib_pin cell)) h.1, h.2)

all_inputs : (cell : Member) → All (IsInputOf (map (lib_pin cell) (pins cell))) (input_places 0 (pins cell))
all_inputs cell =
    All-weaker (HasInput (pins cell)) (IsInputOf (map (lib_pin cell) (pins cell))) (has_input cell) (input_places 0 (pins cell))
    (inputs_placed (pins cell) 0 (pins cell) (λ i. ap (slice_get (pins cell)) (omega arith)))

-- ---- functions

function_placed : (cell : Member) (e : Expr) → AreInputs (function_names cell) e → IsFunctionOf (map (lib_pin cell) (pins cell)) (Some (placed (input_places 0 (pins cell)) e))
function_placed cell e are =
    let places = input_places 0 (pins cell) in
    let all = map (lib_pin cell) (pins cell) in
    subst (λ ps. All (IsInputOf all) ps × (length (distinct ps) ≤ 10)) (sym (pins_placed places e)) (
      All-map (IsInputOf all) (place_at places) (pins_of e)
          (All-weaker (λ pin. pin < inputs_in (function_names cell)) (λ pin. IsInputOf all (place_at places pin))
          (λ pin below. All-get_or (IsInputOf all) places pin 0 (let short = inputs_short cell in omega (arith, below, short)) (all_inputs cell)) (pins_of e) are.inputs),
      (let few = places_few (place_at places) (function_names cell) (pins_of e) are.inputs in omega (arith, few, are.few)),
    )

function_meant : (cell : Member) (result : Result (Option Expr) LibKind) → IsMeant (function_names cell) result → IsFunctionOf (map (lib_pin cell) (pins cell)) (function_if cell result)
function_meant cell (Ok None) is = tt
function_meant cell (Ok (Some e)) is = function_placed cell e is
function_meant cell (Err kind) is = tt

function_is : (cell : Member) (text : Option (List ℕ)) → IsFunctionOf (map (lib_pin cell) (pins cell)) (function_of cell text)
function_is cell None = tt
function_is cell (Some text) = function_meant cell (function_meaning cell text) (is_meant (function_names cell) text)

pub functions_are_of_inputs : (cell : Member) → All (λ (pin : LibPin). IsFunctionOf (map (lib_pin cell) (pins cell)) pin.function) (map (lib_pin cell) (pins cell))
functions_are_of_inputs cell =
    All-map (λ (pin : LibPin). IsFunctionOf (map (lib_pin cell) (pins cell)) pin.function) (lib_pin cell) (pins cell)
    (λ k d within. function_is cell (function_text (slice_index_or (pins cell) k d).group))
