-- Numbers of an expression at their places.
use Rattle.std.proofs.Common.{◌≡◌, ◌<◌, ◌≤◌, ◌+◌, ◌-◌, ◌==◌, ◌||◌, inl, inr, ◌⊎◌, ℕ, Bool, true, false, List, [], ◌∷◌, Result, Ok, Err, drop, length, get_or, refl, sym, ap, subst, ◌∙◌, arith}
use Rattle.std.proofs.lemmas.Bool.{both_ways, cases_Bool, eqb-true, or_cases}
use Rattle.std.proofs.lemmas.Bool.Decides.{nat_tests}
use Rattle.std.proofs.lemmas.List.{drop_more, length-drop}
use Rattle.std.proofs.lemmas.Str.{IsCharBoundary-after_ascii}
use Rattle.std.specs.Str.{IsCharBoundary}
use Rattle.sdc_base.specs.declared.fixed.NumberError.{NumberError}
use Rattle.sdc_base.specs.declared.fixed.NumberError.TheVariants.{DivideByZero, NumberForm, NumberRange}
use Rattle.sdc_base.specs.Number.{Number, parts_of, read_number}
use Rattle.source_types.specs.declared.expressions.ExpressionToken.TheVariants as token
use Rattle.source_types.specs.declared.kinds.TclKind.TheVariants.{BadExpr}
use Rattle.text_model.specs.Bytes.{begins_with, after, is_digit}
use Rattle.tcl_model.specs.ExpressionTokens.{begins_digits, begins_exponent, after_decimals, after_exponent, after_number, after_sign, malformed, number_front, number_token}
use Rattle.text_model.specs.Row.{found, stops}
use Rattle.text_model.proofs.ByteFacts.{digit_small}
use Rattle.tcl_words.specs.Operands.{IsFront}
use Rattle.tcl_words.specs.Spans.{LeadsTo}
use Rattle.tcl_words.specs.Steps.{between}
use Rattle.tcl_words.proofs.PieceFacts.{before_between, between_none}
use Rattle.tcl_words.proofs.RunFacts.{RunTo, keeps_one, run_stops}
use Rattle.tcl_eval.specs.Lexing.{LexedAt}

-- ---- a byte that stands at a place

pub record Here (text : List ℕ) (at byte : ℕ) : Type 0 where
  pub within : at < length text
  pub is : get_or text at 0 ≡ byte

pub here : (text : List ℕ) (at byte : ℕ) → begins_with byte (drop at text) ≡ true → Here text at byte
here text at byte p = begins (drop at text) refl p where
  begins : (rest : List ℕ) → drop at text ≡ rest → begins_with byte rest ≡ true → Here text at byte
  begins [] e h = absurd (both_ways false refl h)
  begins (c ∷ cs) e h =
      let inside : at < length text = omega (arith, ap length e, length-drop at text) in
      let same : get_or text at 0 ∷ drop (at + 1) text ≡ c ∷ cs = sym (drop_more text at 0 inside) ∙ e in
      let head : get_or text at 0 ≡ c = cc in
      record { within = inside; is = head ∙ eqb-true c byte h }

drop_one : (text : List ℕ) (at : ℕ) → at < length text → drop 1 (drop at text) ≡ drop (at + 1) text
drop_one text at within = ap (drop 1) (drop_more text at 0 within)

stays : (text : List ℕ) (at : ℕ) → at ≤ length text → LeadsTo text at at (drop at text)
stays text at within = record { is = refl; forward = omega arith; within = within; keeps = λ utf8 cuts. cuts }

one_on : (text : List ℕ) (at : ℕ) → at < length text → get_or text at 0 < 128 → LeadsTo text at (at + 1) (drop (at + 1) text)
one_on text at within small = record { is = refl; forward = omega arith; within = omega (arith, within); keeps = keeps_one text at within small }

-- from one place to the next, and to the one after it
then_on : (text : List ℕ) (at next to : ℕ) (rest : List ℕ) → LeadsTo text at next (drop next text) → LeadsTo text next to rest → LeadsTo text at to rest
then_on text at next to rest first second = record {
  is = second.is;
  forward = omega (arith, first.forward, second.forward);
  within = second.within;
  keeps = λ utf8 cuts. second.keeps utf8 (first.keeps utf8 cuts);
}

-- the same rest in other words
same_rest : (text : List ℕ) (at to : ℕ) (rest other : List ℕ) → rest ≡ other → LeadsTo text at to rest → LeadsTo text at to other
same_rest text at to rest other e leads = subst (λ (t : List ℕ). LeadsTo text at to t) e leads

-- ---- digits

pub digits_lead : (text : List ℕ) (from at : ℕ) → RunTo is_digit text from at → (at < length text → is_digit (get_or text at 0) ≡ false) → LeadsTo text from at (after is_digit (drop from text))
digits_lead text from at run fails = record {
  is = run_stops is_digit text from at run fails;
  forward = run.forward;
  within = run.within;
  keeps = λ utf8 cuts. elim (same_or_less from at run.forward) [
    | inl e ↦ subst (λ (i : ℕ). IsCharBoundary text i) e cuts
    | inr less ↦
        let e : at - 1 + 1 ≡ at = omega arith in
        subst (λ (i : ℕ). IsCharBoundary text i) e (IsCharBoundary-after_ascii text (at - 1) utf8 (omega (arith, run.within)) (digit_small _ (run.last less)))
  ];
} where
  same_or_less : (i j : ℕ) → i ≤ j → (i ≡ j) ⊎ (i < j)
  same_or_less i j h = elim (cases_Bool (i == j)) [ inl e ↦ inl (grind (arith, nat_tests)) | inr e ↦ inr (grind (arith, nat_tests)) ]

-- one of two ASCII bytes stands at a place
either_here : (text : List ℕ) (at b c : ℕ) → b < 128 → c < 128 → (begins_with b (drop at text) || begins_with c (drop at text)) ≡ true → (at < length text) × (get_or text at 0 < 128)
either_here text at b c low high p = elim (or_cases (begins_with b (drop at text)) (begins_with c (drop at text)) p) [
  | inl e ↦ let h = here text at b e in (h.within, omega (arith, h.is, low))
  | inr e ↦ let h = here text at c e in (h.within, omega (arith, h.is, high))
]

-- ---- decimals, signs and exponents

no_decimals : (rest : List ℕ) → begins_with 46 rest ≡ false → rest ≡ after_decimals rest
no_decimals rest p = rw p refl

pub decimals_none : (text : List ℕ) (at : ℕ) → at ≤ length text → begins_with 46 (drop at text) ≡ false → LeadsTo text at at (after_decimals (drop at text))
decimals_none text at within p = same_rest text at at (drop at text) (after_decimals (drop at text)) (no_decimals (drop at text) p) (stays text at within)

some_decimals : (rest : List ℕ) → begins_with 46 rest ≡ true → after_decimals rest ≡ after is_digit (drop 1 rest)
some_decimals rest p = rw p refl

pub decimals_some : (text : List ℕ) (at to : ℕ) → begins_with 46 (drop at text) ≡ true → LeadsTo text (at + 1) to (after is_digit (drop (at + 1) text)) → LeadsTo text at to (after_decimals (drop at text))
decimals_some text at to p leads =
    let h = here text at 46 p in
    same_rest text at to (after is_digit (drop (at + 1) text)) (after_decimals (drop at text))
    (sym (some_decimals (drop at text) p ∙ ap (after is_digit) (drop_one text at h.within)))
    (then_on text at (at + 1) to (after is_digit (drop (at + 1) text)) (one_on text at h.within (omega (arith, h.is))) leads)

no_sign : (rest : List ℕ) → (begins_with 43 rest || begins_with 45 rest) ≡ false → rest ≡ after_sign rest
no_sign rest p = rw p refl

some_sign : (rest : List ℕ) → (begins_with 43 rest || begins_with 45 rest) ≡ true → drop 1 rest ≡ after_sign rest
some_sign rest p = rw p refl

pub sign_none : (text : List ℕ) (at : ℕ) → at ≤ length text → (begins_with 43 (drop at text) || begins_with 45 (drop at text)) ≡ false → LeadsTo text at at (after_sign (drop at text))
sign_none text at within p = same_rest text at at (drop at text) (after_sign (drop at text)) (no_sign (drop at text) p) (stays text at within)

pub sign_some : (text : List ℕ) (at : ℕ) → (begins_with 43 (drop at text) || begins_with 45 (drop at text)) ≡ true → LeadsTo text at (at + 1) (after_sign (drop at text))
sign_some text at p =
    let small = either_here text at 43 45 (omega arith) (omega arith) p in
    same_rest text at (at + 1) (drop (at + 1) text) (after_sign (drop at text))
    (sym (drop_one text at small.0) ∙ some_sign (drop at text) p)
    (one_on text at small.0 small.1)

no_exponent : (rest : List ℕ) → begins_exponent rest ≡ false → rest ≡ after_exponent rest
no_exponent rest p = rw p refl

no_mark : (rest : List ℕ) → (begins_with 101 rest || begins_with 69 rest) ≡ false → begins_exponent rest ≡ false
no_mark rest p = rw p refl

pub exponent_none : (text : List ℕ) (at : ℕ) → at ≤ length text → (begins_with 101 (drop at text) || begins_with 69 (drop at text)) ≡ false → LeadsTo text at at (after_exponent (drop at text))
exponent_none text at within p =
    same_rest text at at (drop at text) (after_exponent (drop at text)) (no_exponent (drop at text) (no_mark (drop at text) p)) (stays text at within)

with_mark : (rest : List ℕ) (digits : Bool) → (begins_with 101 rest || begins_with 69 rest) ≡ true → begins_digits (after_sign (drop 1 rest)) ≡ digits → begins_exponent rest ≡ digits
with_mark rest digits p q = rw (p, q) refl

-- after the mark and the sign of an exponent
sign_after : (text : List ℕ) (at sign : ℕ) → (begins_with 101 (drop at text) || begins_with 69 (drop at text)) ≡ true → LeadsTo text (at + 1) sign (after_sign (drop (at + 1) text)) → after_sign (drop 1 (drop at text)) ≡ drop sign text
sign_after text at sign p leads =
    let small = either_here text at 101 69 (omega arith) (omega arith) p in
    ap after_sign (drop_one text at small.0) ∙ leads.is

pub exponent_no_digits : (text : List ℕ) (at sign : ℕ) → at ≤ length text → (begins_with 101 (drop at text) || begins_with 69 (drop at text)) ≡ true → LeadsTo text (at + 1) sign (after_sign (drop (at + 1) text)) → begins_digits (drop sign text) ≡ false → LeadsTo text at at (after_exponent (drop at text))
exponent_no_digits text at sign within p leads q =
    same_rest text at at (drop at text) (after_exponent (drop at text))
    (no_exponent (drop at text) (with_mark (drop at text) false p (ap begins_digits (sign_after text at sign p leads) ∙ q))) (stays text at within)

some_exponent : (rest : List ℕ) → begins_exponent rest ≡ true → after_exponent rest ≡ after is_digit (after_sign (drop 1 rest))
some_exponent rest p = rw p refl

sign_leads : (text : List ℕ) (at sign : ℕ) → (begins_with 101 (drop at text) || begins_with 69 (drop at text)) ≡ true → LeadsTo text (at + 1) sign (after_sign (drop (at + 1) text)) → LeadsTo text at sign (drop sign text)
sign_leads text at sign p leads =
    let small = either_here text at 101 69 (omega arith) (omega arith) p in
    then_on text at (at + 1) sign (drop sign text) (one_on text at small.0 small.1)
    (same_rest text (at + 1) sign (after_sign (drop (at + 1) text)) (drop sign text) leads.is leads)

pub exponent_some : (text : List ℕ) (at sign to : ℕ) → (begins_with 101 (drop at text) || begins_with 69 (drop at text)) ≡ true → LeadsTo text (at + 1) sign (after_sign (drop (at + 1) text)) → begins_digits (drop sign text) ≡ true → LeadsTo text sign to (after is_digit (drop sign text)) → LeadsTo text at to (after_exponent (drop at text))
exponent_some text at sign to p leads q digits =
    same_rest text at to (after is_digit (drop sign text)) (after_exponent (drop at text))
    (sym (some_exponent (drop at text) (with_mark (drop at text) true p (ap begins_digits (sign_after text at sign p leads) ∙ q))
    ∙ ap (after is_digit) (sign_after text at sign p leads)))
    (then_on text at sign to (after is_digit (drop sign text)) (sign_leads text at sign p leads) digits)

-- what leads to a rest leads to where it begins
leads_there : (text : List ℕ) (at to : ℕ) (rest : List ℕ) → LeadsTo text at to rest → LeadsTo text at to (drop to text)
leads_there text at to rest leads = same_rest text at to rest (drop to text) leads.is leads

pub number_leads : (text : List ℕ) (at point mark to : ℕ) → LeadsTo text at point (after is_digit (drop at text)) → LeadsTo text point mark (after_decimals (drop point text)) → LeadsTo text mark to (after_exponent (drop mark text)) → LeadsTo text at to (after_number (drop at text))
number_leads text at point mark to first second third =
    same_rest text at to (after_exponent (drop mark text)) (after_number (drop at text))
    (sym (ap (λ (t : List ℕ). after_exponent (after_decimals t)) first.is ∙ ap after_exponent second.is))
    (then_on text at mark to (after_exponent (drop mark text))
    (then_on text at point mark (drop mark text) (leads_there text at point (after is_digit (drop at text)) first) (leads_there text point mark (after_decimals (drop point text)) second))
    third)

-- ---- a number that was read

nothing_is_no_number : read_number [] ≡ Err NumberForm
unfolding parts_of read_number
nothing_is_no_number = refl

-- the front of a number, by the bytes that were read
front_is : (text : List ℕ) (at to : ℕ) → LeadsTo text at to (after_number (drop at text)) → number_token (drop at text) (after_number (drop at text)) ≡ number_front (read_number (between text at to)) (drop to text)
front_is text at to leads =
    ap (number_token (drop at text)) leads.is ∙ ap (λ (t : List ℕ). number_front (read_number t) (drop to text)) (before_between text at to leads.forward leads.within)

further : (text : List ℕ) (at to : ℕ) (r : Result Number NumberError) → at ≤ to → read_number (between text at to) ≡ r → (r ≡ Err NumberForm → ⊥) → at < to
further text at to r forward e form = elim (cases_Bool (at == to)) [
  | inl same ↦
      let h : at ≡ to = grind (arith, nat_tests) in
      absurd (form (sym e ∙ (ap (λ (i : ℕ). read_number (between text at i)) (sym h) ∙ (ap read_number (between_none text at) ∙ nothing_is_no_number))))
  | inr other ↦ grind (arith, nat_tests, forward)
]

number_at : (text : List ℕ) (at to : ℕ) (r : Result Number NumberError) → LeadsTo text at to (after_number (drop at text)) → read_number (between text at to) ≡ r → (r ≡ Err NumberForm → ⊥) → number_front r (drop to text) ≡ found (token.Number r) (drop to text) → LexedAt (IsFront (number_token (drop at text) (after_number (drop at text)))) text at (Ok (record { token = token.Number r; end = to }))
number_at text at to r leads e form f = (
  sym (front_is text at to leads ∙ (ap (λ n. number_front n (drop to text)) e ∙ f)),
  further text at to r leads.forward e form,
  leads.within,
  leads.keeps,
)

ok_is_read : (n : Number) → ◌≡◌ {A = Result Number NumberError} (Ok n) (Err NumberForm) → ⊥
ok_is_read n e = cc

range_is_read : ◌≡◌ {A = Result Number NumberError} (Err NumberRange) (Err NumberForm) → ⊥
range_is_read e = cc

pub number_found : (text : List ℕ) (at to : ℕ) (n : Number) → LeadsTo text at to (after_number (drop at text)) → read_number (between text at to) ≡ Ok n → LexedAt (IsFront (number_token (drop at text) (after_number (drop at text)))) text at (Ok (record { token = token.Number (Ok n); end = to }))
number_found text at to n leads e = number_at text at to (Ok n) leads e (ok_is_read n) refl

pub number_out : (text : List ℕ) (at to : ℕ) → LeadsTo text at to (after_number (drop at text)) → read_number (between text at to) ≡ Err NumberRange → LexedAt (IsFront (number_token (drop at text) (after_number (drop at text)))) text at (Ok (record { token = token.Number (Err NumberRange); end = to }))
number_out text at to leads e = number_at text at to (Err NumberRange) leads e range_is_read refl

number_none : (text : List ℕ) (at to : ℕ) (r : Result Number NumberError) → LeadsTo text at to (after_number (drop at text)) → read_number (between text at to) ≡ r → number_front r (drop to text) ≡ stops malformed → LexedAt (IsFront (number_token (drop at text) (after_number (drop at text)))) text at (Err BadExpr)
number_none text at to r leads e f = (refl, sym (front_is text at to leads ∙ (ap (λ n. number_front n (drop to text)) e ∙ f)))

pub number_malformed : (text : List ℕ) (at to : ℕ) → LeadsTo text at to (after_number (drop at text)) → read_number (between text at to) ≡ Err NumberForm → LexedAt (IsFront (number_token (drop at text) (after_number (drop at text)))) text at (Err BadExpr)
number_malformed text at to leads e = number_none text at to (Err NumberForm) leads e refl

pub number_divided : (text : List ℕ) (at to : ℕ) → LeadsTo text at to (after_number (drop at text)) → read_number (between text at to) ≡ Err DivideByZero → LexedAt (IsFront (number_token (drop at text) (after_number (drop at text)))) text at (Err BadExpr)
number_divided text at to leads e = number_none text at to (Err DivideByZero) leads e refl
