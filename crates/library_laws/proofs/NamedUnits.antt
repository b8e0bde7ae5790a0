-- The unit of a library that is read is one of the four: its text is one `library` or more, and a unit that is none of
-- them would be a fault.
use Rattle.std.proofs.Common.{◌≡◌, ℕ, Bool, true, false, pos, List, [], ◌∷◌, Option, Some, None, refl, sym, ap, subst, inl, inr}
use Rattle.std.specs.Prelude.{◌==◌, ◌&&◌, codes, nat_lt, if◌then◌else◌}
use Rattle.std.specs.List.{All, flat_map, last_or}
use Rattle.std.proofs.lemmas.Bool.{false≢true}
use Rattle.std.proofs.lemmas.List.Elements.{All-head, All-tail}
use Rattle.std.proofs.lemmas.Option.{none-some, same_Some}
use Rattle.sdc_base.specs.Time.{IsUnit}
use Rattle.sdc_base.specs.declared.memory.At.{At}
use Rattle.source_types.specs.declared.kinds.LibKind.{LibKind}
use Rattle.source_types.specs.declared.kinds.LibKind.TheVariants.{LibForm}
use Rattle.source_types.specs.declared.liberty_tokens.Gap.{Gap}
use Rattle.source_types.specs.declared.liberty_tokens.LibertySymbol.{LibertySymbol}
use Rattle.source_types.specs.declared.liberty_tokens.LibertySymbol.TheVariants as part
use Rattle.source_types.specs.declared.liberty_tokens.LibertyToken.{LibertyToken}
use Rattle.source_types.specs.declared.liberty_tokens.LibertyToken.TheVariants as token
use Rattle.library_model.specs.LibertyFaults.{cells_of, fault_at, faults_of, first_unit, libraries_of, library_faults, unit_faults, unit_if, unit_named, unit_of}
use Rattle.library_model.specs.LibertyGrammar.{after, gap_of, kind_of_form, kinds, liberty, most_levels, sign_byte, sign_kind}
use Rattle.library_model.specs.LibertyStatements.{Member, Statement, begins, cut, first_place, is_bare, last_value, members, place_after, statements_of, value_named, values, within}
use Rattle.library_model.specs.LibertyText.{unit_in}
use Rattle.library_model.specs.LibertyTokens.{Form, Token, bare, quoted, sign}
use Rattle.text_model.specs.Words.{same_text}
use Rattle.token_grammar.specs.Texts.{IsText, begins as begun, skips}
use Rattle.library_laws.proofs.ClearParts.{IsClear, parts_clear, unit_clear}
use Rattle.text_model.proofs.EachItem.{both_nothing, each_given}
use Rattle.library_laws.proofs.RisingCells.{cut_if}

-- ---- the first token of a text is a name

abbrev IsLibrary : LibertyToken → Type 0
IsLibrary (token.Library gap) = Unit {0}
IsLibrary _ = ⊥

abbrev BeginsLibrary : List LibertyToken → Type 0
BeginsLibrary [] = ⊥
BeginsLibrary (kind ∷ kinds) = IsLibrary kind

begins_with : (kind : LibertyToken) (symbols : List LibertySymbol) → after part.Libraries kind ≡ Some symbols → IsLibrary kind
begins_with (token.Library gap) symbols is = tt
begins_with (token.Word gap) symbols is = none-some symbols is
begins_with (token.Quoted gap) symbols is = none-some symbols is
begins_with (token.Open gap) symbols is = none-some symbols is
begins_with token.Close symbols is = none-some symbols is
begins_with token.Begin symbols is = none-some symbols is
begins_with token.TooDeep symbols is = none-some symbols is
begins_with token.End symbols is = none-some symbols is
begins_with token.Colon symbols is = none-some symbols is
begins_with token.Semicolon symbols is = none-some symbols is
begins_with token.Comma symbols is = none-some symbols is

begins_library : (all : List LibertyToken) → IsText liberty part.Libraries all → BeginsLibrary all
begins_library all (begun {kind = kind} {after = symbols} is d) = begins_with kind symbols is
begins_library all (skips may d) = absurd (false≢true may)

not_either : (P : LibertyToken → Type 0) (b : Bool) (k l : LibertyToken) → (P k → ⊥) → (P l → ⊥) → P (if b then k else l) → ⊥
not_either P true k l one other h = one h
not_either P false k l one other h = other h

no_sign : (level : ℕ) (gap : Gap) (b : ℕ) → IsLibrary (sign_kind level gap b) → ⊥
no_sign level gap b =
    not_either IsLibrary (b == 40) (token.Open gap) _ (λ h. h)
    (not_either IsLibrary (b == 41) token.Close _ (λ h. h)
    (not_either IsLibrary (b == 123) (if nat_lt level most_levels then token.Begin else token.TooDeep) _ (not_either IsLibrary (nat_lt level most_levels) token.Begin token.TooDeep (λ h. h) (λ h. h))
    (not_either IsLibrary (b == 125) token.End _ (λ h. h)
    (not_either IsLibrary (b == 59) token.Semicolon _ (λ h. h)
    (not_either IsLibrary (b == 44) token.Comma token.Colon (λ h. h) (λ h. h))))))

bare_form : (form : Form) (level : ℕ) (gap : Gap) (text : List ℕ) → IsLibrary (kind_of_form form level gap text) → is_bare form ≡ true
bare_form bare level gap text h = refl
bare_form quoted level gap text h = absurd h
bare_form sign level gap text h = absurd (no_sign level gap (sign_byte sign text) h)

-- ---- a text has a first library

begins_statement : (t : Token) → is_bare t.form ≡ true → begins first_place t ≡ true
begins_statement t is = ap (λ b. b && true) is

record First (libraries : List Member) : Type 0 where
  library : Member
  more : List Member
  are : libraries ≡ library ∷ more

first_library : (tokens : List Token) → IsText liberty part.Libraries (kinds 0 tokens) → First (libraries_of (statements_of tokens))
first_library [] text = absurd (begins_library [] text)
first_library (t ∷ ts) text =
    let bare_first = bare_form t.form 0 (gap_of t.gap) t.text (begins_library (kinds 0 (t ∷ ts)) text) in
    let after_first = cut (place_after first_place t) ts in
    let s : Statement = record { level = 0; number = 0; name = t; rest = after_first.0 } in
    record {
      library = record { statement = s; inside = within 0 after_first.1 };
      more = members 0 after_first.1;
      are = ap (λ b. members 0 (cut_if b s t after_first).1) (begins_statement t bare_first);
    }

-- ---- units

-- one of the four
abbrev IsOne : Option ℕ → Type 0
IsOne None = ⊥
IsOne (Some unit) = IsUnit (pos unit)

-- one of the four, or none
abbrev MayBeOne : Option ℕ → Type 0
MayBeOne None = Unit {0}
MayBeOne (Some unit) = IsUnit (pos unit)

either : (b : Bool) (one other : Option ℕ) → MayBeOne one → MayBeOne other → MayBeOne (if b then one else other)
either true one other h k = h
either false one other h k = k

named : (text : List ℕ) → MayBeOne (unit_named text)
named text =
    either (same_text text (codes "1ps")) (Some 1000) _ (inl refl)
    (either (same_text text (codes "10ps")) (Some 10000) _ (inr (inl refl))
    (either (same_text text (codes "100ps")) (Some 100000) _ (inr (inr (inl refl)))
    (either (same_text text (codes "1ns")) (Some 1000000) None (inr (inr (inr refl))) tt)))

no_fault : (s : Statement) (unit : Option ℕ) → ◌≡◌ {A = List (At LibKind)} (elim unit [ None ↦ fault_at s LibForm ∷ [] | Some u ↦ [] ]) [] → MayBeOne unit → IsOne unit
no_fault s None is may = absurd cc
no_fault s (Some unit) is may = may

-- a value without a fault is a unit
abbrev IsNamed : Option (List ℕ) → Type 0
IsNamed None = Unit {0}
IsNamed (Some text) = IsOne (unit_named text)

value_named_is : (s : Statement) (text : List ℕ) (value : Option (List ℕ)) → unit_faults s value ≡ [] → value ≡ Some text → IsNamed (Some text)
value_named_is s text None none is = absurd (none-some text is)
value_named_is s text (Some other) none is =
    subst (λ (t : List ℕ). IsNamed (Some t)) (same_Some other text is) (no_fault s (unit_named other) none (named other))

last_named : (o : Option (List ℕ)) (texts : List (List ℕ)) → IsNamed o → All (λ (text : List ℕ). IsNamed (Some text)) texts → IsNamed (last_or o texts)
last_named o [] h all = h
last_named o (text ∷ texts) h all =
    last_named (Some text) texts (All-head (λ (t : List ℕ). IsNamed (Some t)) text texts all) (All-tail (λ (t : List ℕ). IsNamed (Some t)) text texts all)

unit_if_named : (o : Option (List ℕ)) → IsNamed o → IsOne (unit_if o)
unit_if_named None h = inr (inr (inr refl))
unit_if_named (Some text) h = h

library_unit : (cells : List Member) (first : Option ℕ) (library : Member) → library_faults cells first library ≡ [] → IsOne (unit_of library)
library_unit cells first library none =
    let ms = members 1 library.inside in
    unit_if_named (last_value (codes "time_unit") ms)
    (last_named None (values (codes "time_unit") ms) tt
    (each_given (IsClear cells) (λ (text : List ℕ). IsNamed (Some text)) (λ (m : Member). value_named (codes "time_unit") m.statement)
    (λ m text clear is. value_named_is m.statement text (value_named (codes "time_unit") m.statement) (unit_clear cells m clear) is)
    ms (parts_clear cells first library none)))

one_unit : (unit : Option ℕ) → IsOne unit → IsUnit (pos (unit_in unit))
one_unit None h = absurd h
one_unit (Some unit) h = h

first_is_one : (cells : List Member) (first : Option ℕ) (libraries : List Member) → First libraries → flat_map (library_faults cells first) libraries ≡ [] → IsUnit (pos (unit_in (first_unit libraries)))
first_is_one cells first libraries h none =
    let front = subst (λ ls. flat_map (library_faults cells first) ls ≡ []) h.are none in
    subst (λ ls. IsUnit (pos (unit_in (first_unit ls)))) (sym h.are)
    (one_unit (unit_of h.library) (library_unit cells first h.library (both_nothing (library_faults cells first h.library) (flat_map (library_faults cells first) h.more) front).0))

pub unit_is_one : (tokens : List Token) → IsText liberty part.Libraries (kinds 0 tokens) → faults_of (statements_of tokens) ≡ [] → IsUnit (pos (unit_in (first_unit (libraries_of (statements_of tokens)))))
unit_is_one tokens text none =
    let libraries = libraries_of (statements_of tokens) in
    first_is_one (cells_of (statements_of tokens)) (first_unit libraries) libraries (first_library tokens text) none
