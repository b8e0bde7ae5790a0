-- What the scans of a number's text say of the parts that the text has, and of the number that it means.
use Rattle.std.proofs.Common.{◌≡◌, ℕ, zero, suc, ◌+◌, ◌*◌, ◌%◌, ◌^◌, ◌<◌, Bool, true, false, ◌&&◌, cond, eqb, nat_lt, List, [], ◌∷◌, ◌++◌, length, Option, Some, None, Result, Ok, Err, refl, sym, ap, subst, ◌∙◌, arith}
use Rattle.std.specs.Prelude.{is_none}
use Rattle.std.proofs.lemmas.Bool.Decides.{nat_tests}
use Rattle.std.specs.Char.{is_ascii_digit}
use Rattle.std.specs.Int.RustNames.{unsigned_abs}
use Rattle.std.specs.List.{take_while}
use Rattle.std.specs.Str.{all_ascii_digits}
use Rattle.std.specs.Str.Parse.{digits_value}
use Rattle.sdc_base.specs.Number.{IsNumber, Exponent, decimals_in, is_exponent, is_count, is_number, is_minus, raised, lowered, nearest, with_sign, in_range, number_with, number_of, sign_of, after_sign, after_digits, after_of, after_after, exponent_of, parts_of, read_number}
use Rattle.sdc_base.specs.NumberText.{power_of}
use Rattle.sdc_base.specs.declared.fixed.NumberError.{NumberError}
use Rattle.sdc_base.specs.declared.fixed.NumberError.TheVariants.{NumberForm, NumberRange}
use Rattle.sdc_base.specs.declared.number_text.Power.{Power}
use Rattle.sdc_base.proofs.CaseFacts.{by_bool}
use Rattle.sdc_base.proofs.NearestFacts.{nearest_one}

-- what the scans of a text found
pub record Scanned (text before rest fraction last : List ℕ) : Type 0 where
  pub before_is : before ≡ take_while is_ascii_digit (after_sign text)
  pub rest_is : rest ≡ after_digits (after_sign text)
  pub after_is : fraction ≡ decimals_in (after_of rest)
  pub last_is : last ≡ after_after rest

pub is_number-parts_of : (text before rest fraction last : List ℕ) → Scanned text before rest fraction last → is_number (parts_of text) ≡ is_exponent (exponent_of last) && is_count (length before + length fraction) && all_ascii_digits before && all_ascii_digits fraction
unfolding parts_of
is_number-parts_of text before rest fraction last s = rw (s.last_is, s.after_is, s.rest_is, s.before_is) refl

pub number_of-parts_of : (text before rest fraction last : List ℕ) → Scanned text before rest fraction last → number_of (parts_of text) ≡ number_with (is_minus (sign_of text)) (is_none (after_of rest) && is_none (exponent_of last)) (in_range (nearest (digits_value 10 (before ++ fraction) * 10 ^ (9 + raised (exponent_of last))) (10 ^ (length fraction + lowered (exponent_of last)))))
unfolding parts_of
number_of-parts_of text before rest fraction last s = rw (s.last_is, s.after_is, s.rest_is, s.before_is) refl

pub is_none_both : (rest : List ℕ) → is_none (after_of rest) && is_none (exponent_of (after_after rest)) ≡ eqb (length rest) 0
is_none_both [] = refl
is_none_both (b ∷ bs) = grind (arith, nat_tests)

pub power_parts : (e : Option Exponent) (p : Power) → power_of e ≡ Some p → (is_exponent e ≡ true) × (p.raised ≡ raised e) × (p.lowered ≡ lowered e)
power_parts e p h = by_bool (λ b. cond b (Some (let q : Power = record { raised = raised e; lowered = lowered e } in q)) None ≡ Some p → (b ≡ true) × (p.raised ≡ raised e) × (p.lowered ≡ lowered e)) (is_exponent e) (λ _ k. (refl, cc, cc)) (λ _ k. cc) h

pub power_none : (e : Option Exponent) → power_of e ≡ None → is_exponent e ≡ false
power_none e h = by_bool (λ b. cond b (Some (let q : Power = record { raised = raised e; lowered = lowered e } in q)) None ≡ None → b ≡ false) (is_exponent e) (λ _ k. cc) (λ _ k. refl) h

pub read_no_exponent : (text before rest fraction last : List ℕ) → Scanned text before rest fraction last → power_of (exponent_of last) ≡ None → Err NumberForm ≡ read_number text
unfolding read_number
read_no_exponent text before rest fraction last s h =
    let e = is_number-parts_of text before rest fraction last s in
    let f = power_none (exponent_of last) h in
    rw (e, f) refl

pub read_no_count : (text before rest fraction last : List ℕ) (p : Power) → Scanned text before rest fraction last → power_of (exponent_of last) ≡ Some p → is_count (length before + length fraction) ≡ false → Err NumberForm ≡ read_number text
unfolding read_number
read_no_count text before rest fraction last p s h k =
    let e = is_number-parts_of text before rest fraction last s in
    let f = (power_parts (exponent_of last) p h).0 in
    rw (e, f, k) refl

pub read_is : (text : List ℕ) → is_number (parts_of text) ≡ true → read_number text ≡ number_of (parts_of text)
unfolding read_number
read_is text h = rw h refl

pub read_scanned : (text before rest fraction last : List ℕ) (p : Power) (d : ℕ) (r : Result ℕ NumberError) → Scanned text before rest fraction last → power_of (exponent_of last) ≡ Some p → is_count (length before + length fraction) ≡ true → all_ascii_digits before ≡ true → all_ascii_digits fraction ≡ true → d ≡ digits_value 10 (before ++ fraction) → r ≡ in_range (nearest (d * 10 ^ (9 + p.raised)) (10 ^ (length fraction + p.lowered))) → number_with (is_minus (sign_of text)) (eqb (length rest) 0) r ≡ read_number text
unfolding read_number
read_scanned text before rest fraction last p d r s h k a b v m =
    let e = is_number-parts_of text before rest fraction last s in
    let f = power_parts (exponent_of last) p h in
    let n = number_of-parts_of text before rest fraction last s in
    let w = is_none_both rest in
    let o = read_is text (rw (e, f.0, k, a, b) refl) in
    let u : number_with (is_minus (sign_of text)) (eqb (length rest) 0) r ≡ number_of (parts_of text) = cc in
    u ∙ sym o

pub abs_with_sign : (b : Bool) (m : ℕ) → unsigned_abs (with_sign b m) ≡ m
abs_with_sign false m = refl
abs_with_sign true zero = refl
abs_with_sign true (suc m) = refl

pub in_range_parts : (x m : ℕ) → Ok m ≡ in_range x → (m ≡ x) × (m < 10 ^ 24)
in_range_parts x m h =
    by_bool (λ b. nat_lt x (10 ^ 24) ≡ b → Ok m ≡ cond b (let r : Result ℕ NumberError = Ok x in r) (Err NumberRange) → (m ≡ x) × (m < 10 ^ 24)) (nat_lt x (10 ^ 24))
    (λ _ e k. let i : m ≡ x = cc in (i, grind (arith, nat_tests)))
    (λ _ e k. cc) refl h

-- a number without point and exponent has no decimals
pub whole_exact : (rest fraction last : List ℕ) (p : Power) (d m : ℕ) → eqb (length rest) 0 ≡ true → fraction ≡ decimals_in (after_of rest) → last ≡ after_after rest → power_of (exponent_of last) ≡ Some p → m ≡ nearest (d * 10 ^ (9 + p.raised)) (10 ^ (length fraction + p.lowered)) → m % 10 ^ 9 ≡ 0
whole_exact [] fraction last p d m z b l h e =
    let q : power_of (exponent_of []) ≡ Some p = subst (λ x. power_of (exponent_of x) ≡ Some p) l h in
    let f = power_parts None p q in
    let g : length fraction ≡ 0 = ap length b in
    let n = nearest_one (d * 10 ^ 9) in
    let i : m ≡ nearest (d * 10 ^ 9) 1 = e ∙ (rw (f.1, f.2, g) refl) in
    omega arith
whole_exact (x ∷ xs) fraction last p d m z b l h e = absurd (grind (arith, nat_tests, z))

pub IsNumber_read : (text before rest fraction last : List ℕ) (p : Power) (d m : ℕ) (negative : Bool) → Scanned text before rest fraction last → power_of (exponent_of last) ≡ Some p → Ok m ≡ in_range (nearest (d * 10 ^ (9 + p.raised)) (10 ^ (length fraction + p.lowered))) → IsNumber (record { scaled = with_sign negative m; whole = eqb (length rest) 0 })
IsNumber_read text before rest fraction last p d m negative s h k =
    let r = in_range_parts (nearest (d * 10 ^ (9 + p.raised)) (10 ^ (length fraction + p.lowered))) m k in
    let a = abs_with_sign negative m in
    record {
      below = rw a r.1;
      decimals = λ z. rw a (whole_exact rest fraction last p d m z s.after_is s.last_is h r.0);
    }

pub scanned : (t text signless before rest fraction last : List ℕ) → t ≡ text → signless ≡ after_sign t → before ≡ take_while is_ascii_digit signless → rest ≡ after_digits signless → fraction ≡ decimals_in (after_of rest) → last ≡ after_after rest → Scanned text before rest fraction last
scanned t text signless before rest fraction last a b d e f g =
    let h : signless ≡ after_sign text = b ∙ ap after_sign a in
    record {
      before_is = d ∙ ap (take_while is_ascii_digit) h;
      rest_is = e ∙ ap after_digits h;
      after_is = f;
      last_is = g;
    }
