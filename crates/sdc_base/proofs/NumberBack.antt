-- The text of a number is read back as the number.
use Rattle.std.proofs.Common.{◌≡◌, ℕ, ◌+◌, ◌*◌, ◌/◌, ◌%◌, ◌^◌, ◌<◌, ◌≤◌, Bool, true, false, cond, nat_eq, nat_lt, nat_le, List, [], ◌∷◌, ◌++◌, length, Option, Some, None, Ok, ℤ, refl, sym, ap, ◌∙◌, arith, lit<, lit≤, length-append, add-zero}
use Rattle.std.proofs.lemmas.Bool.Decides.{nat_tests}
use Rattle.std.proofs.lemmas.List.{append-nil}
use Rattle.std.proofs.lemmas.Fmt.{digits_decimal, digits_value-decimal, length-decimal-le, decimal_nonempty}
use Rattle.std.proofs.lemmas.Nat.{mod_below}
use Rattle.std.specs.Fmt.{decimal}
use Rattle.std.specs.Int.{is_negative}
use Rattle.std.specs.Int.RustNames.{unsigned_abs}
use Rattle.std.specs.List.{list_all}
use Rattle.std.specs.Str.{all_ascii_digits}
use Rattle.std.specs.Str.Parse.{digits_value, digits_value_after}
use Rattle.sdc_base.specs.Number.{Number, Parts, point_text, spelling, is_number, is_minus, is_whole, numerator, denominator, nearest, with_sign}
use Rattle.sdc_base.specs.NumberLaws.{Spells, is_time_byte}
use Rattle.sdc_base.specs.ArithmeticLaws.{NumberTextReadsBack, NumberTextIsPlain}
use Rattle.sdc_base.specs.Time.{minus_text, places}
use Rattle.sdc_base.specs.WrittenNumber.{decimals_of, fraction_text, number_text_of}
use Rattle.sdc_base.proofs.CaseFacts.{by_bool}
use Rattle.sdc_base.proofs.DigitFacts.{own, digits_value_after-append}
use Rattle.sdc_base.proofs.LawFacts.{with_magnitude, number_of_below, read_spelled}
use Rattle.sdc_base.proofs.NearestFacts.{nearest_cancel, nearest_one, ten_pos}
use Rattle.sdc_base.proofs.PlaceFacts.{length-places, all_digits-places}
use Rattle.sdc_base.proofs.ReadBackFacts.{time_sign, time_sign_text, time_sign_minus, digits-quotient, list_all-append, time_bytes, minus_bytes}
use Rattle.sdc_base.proofs.TimeFacts.{with_sign_abs}

-- the parts of a number's text
abbrev pub fraction : Bool → ℕ → Option (List ℕ)
fraction whole r = cond whole None (Some (decimals_of r))

abbrev pub number_parts : Bool → Bool → ℕ → Parts
number_parts negative whole m = record {
  sign = time_sign negative;
  before = decimal (m / 10 ^ 9);
  fraction = fraction whole (m % 10 ^ 9);
  exponent = None;
}

point_text-fraction : (whole : Bool) (r : ℕ) → point_text (fraction whole r) ≡ fraction_text whole r
point_text-fraction true r = refl
point_text-fraction false r = refl

pub spelling-number : (n : Number) → spelling (number_parts (is_negative n.scaled) n.whole (unsigned_abs n.scaled)) ≡ number_text_of n
unfolding number_text_of
spelling-number n =
    let m = unsigned_abs n.scaled in
    let e = time_sign_text (is_negative n.scaled) in
    let f = point_text-fraction n.whole (m % 10 ^ 9) in
    rw (append-nil {A = ℕ} (point_text (fraction n.whole (m % 10 ^ 9))), e, f) refl

-- ---- the digits

pub all_digits-decimals : (r : ℕ) → r < 10 ^ 9 → all_ascii_digits (decimals_of r) ≡ true
all_digits-decimals r h =
    by_bool (λ b. all_ascii_digits (cond b (48 ∷ []) (places 9 r (10 ^ 9))) ≡ true) (nat_eq r 0) (λ _. refl)
    (λ _. all_digits-places 9 r (10 ^ 9) h)

pub length-decimals : (r : ℕ) → length (decimals_of r) ≤ 9
length-decimals r =
    by_bool (λ b. length (cond b (48 ∷ []) (places 9 r (10 ^ 9))) ≤ 9) (nat_eq r 0) (λ _. lit≤ tt) (λ _. length-places 9 r (10 ^ 9))

-- how long the text's digits are, and that they are digits
pub record Figures (m : ℕ) : Type 0 where
  pub small : m / 10 ^ 9 < 2 ^ 64
  pub before : all_ascii_digits (decimal (m / 10 ^ 9)) ≡ true
  pub fraction : all_ascii_digits (decimals_of (m % 10 ^ 9)) ≡ true
  pub some : 0 < length (decimal (m / 10 ^ 9))
  pub few : length (decimal (m / 10 ^ 9)) ≤ 20
  pub short : length (decimals_of (m % 10 ^ 9)) ≤ 9

pub Figures_of : (m : ℕ) → m < 10 ^ 24 → Figures m
Figures_of m h =
    let small : m / 10 ^ 9 < 2 ^ 64 = omega arith in
    record {
      small = small;
      before = digits_decimal own (m / 10 ^ 9) small;
      fraction = all_digits-decimals (m % 10 ^ 9) (mod_below m (10 ^ 9) (lit< tt));
      some = decimal_nonempty (m / 10 ^ 9) small;
      few = length-decimal-le 20 (m / 10 ^ 9) (lit< tt) (omega arith) small;
      short = length-decimals (m % 10 ^ 9);
    }

pub is_number-number : (b whole : Bool) (m : ℕ) → Figures m → is_number (number_parts b whole m) ≡ true
is_number-number b true m d =
    let n = length (decimal (m / 10 ^ 9)) in
    let e : n + 0 ≡ n = omega arith in
    let f : nat_lt 0 n ≡ true = grind (arith, nat_tests, d.some) in
    let g : nat_le n 30 ≡ true = grind (arith, nat_tests, d.few) in
    rw (e, f, g, d.before) refl
is_number-number b false m d =
    let n = length (decimal (m / 10 ^ 9)) + length (decimals_of (m % 10 ^ 9)) in
    let f : nat_lt 0 n ≡ true = grind (arith, nat_tests, d.some) in
    let g : nat_le n 30 ≡ true = grind (arith, nat_tests, d.few, d.short) in
    rw (f, g, d.before, d.fraction) refl

-- ---- the value

zero_at_end : (q : ℕ) → q < 2 ^ 64 → digits_value 10 (decimal q ++ 48 ∷ []) ≡ q * 10
zero_at_end q h =
    digits_value_after-append 0 (decimal q) (48 ∷ []) ∙ ap (λ x. digits_value_after 10 x (48 ∷ [])) (digits_value-decimal own q h)
    ∙ omega arith

-- the digits before and after the point, read as one number
pub digits-number : (m : ℕ) → m / 10 ^ 9 < 2 ^ 64 → digits_value 10 (decimal (m / 10 ^ 9) ++ decimals_of (m % 10 ^ 9)) * 10 ^ 9 ≡ m * 10 ^ length (decimals_of (m % 10 ^ 9))
digits-number m h =
    by_bool (λ b. digits_value 10 (decimal (m / 10 ^ 9) ++ cond b (48 ∷ []) (places 9 (m % 10 ^ 9) (10 ^ 9))) * 10 ^ 9 ≡ m * 10 ^ length (cond b (48 ∷ []) (places 9 (m % 10 ^ 9) (10 ^ 9))))
    (nat_eq (m % 10 ^ 9) 0)
    (λ e. let z : m % 10 ^ 9 ≡ 0 = grind (arith, nat_tests) in
    let v = zero_at_end (m / 10 ^ 9) h in omega arith)
    (λ _. digits-quotient 9 m (10 ^ 9) (lit< tt) h (omega arith))

pub magnitude-number : (b whole : Bool) (m : ℕ) → m / 10 ^ 9 < 2 ^ 64 → (whole ≡ true → m % 10 ^ 9 ≡ 0) → m ≡ nearest (numerator (number_parts b whole m)) (denominator (number_parts b whole m))
magnitude-number b true m h w =
    let q = m / 10 ^ 9 in
    let v : digits_value 10 (decimal q ++ []) ≡ q = ap (digits_value 10) (append-nil (decimal q)) ∙ digits_value-decimal own q h in
    let e : q * 10 ^ 9 ≡ m = let z = w refl in omega arith in
    sym (ap (λ x. nearest (x * 10 ^ 9) 1) v ∙ ap (λ x. nearest x 1) e ∙ nearest_one m)
magnitude-number b false m h w =
    let d = digits_value 10 (decimal (m / 10 ^ 9) ++ decimals_of (m % 10 ^ 9)) in
    let n = length (decimals_of (m % 10 ^ 9)) in
    let p = 10 ^ n in
    let e : d * 10 ^ 9 ≡ m * p = digits-number m h in
    let o : p ≡ 1 * p = omega arith in
    let z : nearest (d * 10 ^ 9) p ≡ m =
    ap (λ x. nearest x p) e ∙ ap (λ x. nearest (m * p) x) o ∙ nearest_cancel m 1 p (ten_pos n) ∙ nearest_one m in
    rw add-zero (sym z)

-- ---- the laws

whole-parts : (b whole : Bool) (m : ℕ) → is_whole (number_parts b whole m) ≡ whole
whole-parts b true m = refl
whole-parts b false m = refl

number_is : (s : ℤ) (whole : Bool) → with_magnitude (number_parts (is_negative s) whole (unsigned_abs s)) (unsigned_abs s) ≡ record { scaled = s; whole = whole }
number_is s whole =
    let e = whole-parts (is_negative s) whole (unsigned_abs s) in
    let f : with_sign (is_minus (time_sign (is_negative s))) (unsigned_abs s) ≡ s =
    ap (λ b. with_sign b (unsigned_abs s)) (time_sign_minus (is_negative s)) ∙ with_sign_abs s in
    rw (e, f) refl

pub number_text_reads_back : (n : Number) → NumberTextReadsBack n
number_text_reads_back n is =
    let m = unsigned_abs n.scaled in
    let p = number_parts (is_negative n.scaled) n.whole m in
    let d = Figures_of m is.below in
    let s : Spells p (number_text_of n) = record {
      spelled = spelling-number n;
      fits = is_number-number (is_negative n.scaled) n.whole m d;
    } in
    read_spelled (number_text_of n) p s
    ∙ number_of_below p m (magnitude-number (is_negative n.scaled) n.whole m d.small is.decimals) is.below
    ∙ ap Ok (number_is n.scaled n.whole)

fraction_bytes : (whole : Bool) (r : ℕ) → all_ascii_digits (decimals_of r) ≡ true → list_all is_time_byte (fraction_text whole r) ≡ true
fraction_bytes true r h = refl
fraction_bytes false r h = time_bytes (decimals_of r) h

pub number_text_is_plain : (n : Number) → NumberTextIsPlain n
unfolding number_text_of
number_text_is_plain n is =
    let m = unsigned_abs n.scaled in
    let d = Figures_of m is.below in
    let front = minus_text (is_negative n.scaled) in
    let whole = decimal (m / 10 ^ 9) in
    let tail = fraction_text n.whole (m % 10 ^ 9) in
    record {
      bytes =
          list_all-append is_time_byte front (whole ++ tail) (minus_bytes (is_negative n.scaled))
          (list_all-append is_time_byte whole tail (time_bytes whole d.before) (fraction_bytes n.whole (m % 10 ^ 9) d.fraction));
      some = rw (length-append front (whole ++ tail), length-append whole tail) (omega (arith, d.some));
    }
