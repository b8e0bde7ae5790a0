-- Digits read one after another: their value, and that they are digits.
use Rattle.std.proofs.Common.{◌≡◌, ℕ, suc, ◌+◌, ◌-◌, ◌*◌, ◌^◌, ◌<◌, ◌≤◌, min, true, false, ◌&&◌, List, [], ◌∷◌, ◌++◌, length, get_or, take, drop, refl, sym, ap, subst, ◌∙◌, arith, add-one, drop-cons, cond}
use Rattle.std.proofs.Math.ListN.{drop_of_length-le}
use Rattle.std.proofs.lemmas.List.Sums.{take_while-cons}
use Rattle.std.proofs.lemmas.Bool.Decides.{nat_tests}
use Rattle.std.proofs.lemmas.Int.Digits.{digits_value-lt, digits_value_more}
use Rattle.std.proofs.lemmas.Str.Parse.{IsNumeralModel, numerals_by_value, tells_all_ascii_digits}
use Rattle.std.specs.Char.{is_ascii_digit, digit_value}
use Rattle.std.specs.List.{take_while}
use Rattle.std.specs.Str.{all_ascii_digits}
use Rattle.std.specs.Str.Parse.{digits_value, digits_value_after}
use Rattle.sdc_base.proofs.CaseFacts.{by_bool}
use Rattle.sdc_base.proofs.NearestFacts.{ten_mono, ten_suc}

pub own : IsNumeralModel (λ ds. all_ascii_digits ds ≡ true) (digits_value 10)
own = numerals_by_value _ tells_all_ascii_digits

pub digit_is : (b : ℕ) → is_ascii_digit b ≡ true → (48 ≤ b) × (b ≤ 57) × (digit_value b ≡ b - 48)
digit_is b h = grind (arith, nat_tests)

pub digits_below : (ds : List ℕ) → all_ascii_digits ds ≡ true → digits_value 10 ds < 10 ^ length ds
digits_below ds h = digits_value-lt 10 ds (own.to ds h)

pub all_digits-append : (xs ys : List ℕ) → all_ascii_digits xs ≡ true → all_ascii_digits ys ≡ true → all_ascii_digits (xs ++ ys) ≡ true
all_digits-append [] ys a b = b
all_digits-append (x ∷ xs) ys a b =
    let e = all_digits-append xs ys in grind (arith, e)

pub digits_value_after-append : (n : ℕ) (xs ys : List ℕ) → digits_value_after 10 n (xs ++ ys) ≡ digits_value_after 10 (digits_value_after 10 n xs) ys
digits_value_after-append n [] ys = refl
digits_value_after-append n (x ∷ xs) ys = digits_value_after-append (n * 10 + digit_value x) xs ys

pub all_digits_first : (b : ℕ) (bs : List ℕ) → all_ascii_digits (b ∷ bs) ≡ true → (is_ascii_digit b ≡ true) × (all_ascii_digits bs ≡ true)
all_digits_first b bs h = grind arith

pub all_digits-cons : (b : ℕ) (bs : List ℕ) → is_ascii_digit b ≡ true → all_ascii_digits (b ∷ bs) ≡ all_ascii_digits bs
all_digits-cons b bs h = rw h refl

pub all_digits-if : (x : ℕ) (xs : List ℕ) → all_ascii_digits xs ≡ true → all_ascii_digits (cond (is_ascii_digit x) (x ∷ xs) []) ≡ true
all_digits-if x xs h = by_bool (λ b. all_ascii_digits (cond b (x ∷ xs) []) ≡ true) (is_ascii_digit x) (λ e. all_digits-cons x xs e ∙ h) (λ _. refl)

pub all_digits-take_while : (xs : List ℕ) → all_ascii_digits (take_while is_ascii_digit xs) ≡ true
all_digits-take_while [] = refl
all_digits-take_while (x ∷ xs) =
    let h = all_digits-take_while xs in
    rw (take_while-cons is_ascii_digit x xs) (all_digits-if x (take_while is_ascii_digit xs) h)

-- the value of the digits before place i, the rest being still to read
pub record Reads (start value i : ℕ) (digits : List ℕ) : Type 0 where
  pub is : digits_value_after 10 start digits ≡ digits_value_after 10 value (drop i digits)
  pub room : value < 10 ^ (30 - length digits + i)
  pub rest : all_ascii_digits (drop i digits) ≡ true

pub Reads_digit : (start value i : ℕ) (digits : List ℕ) → i < length digits → length digits ≤ 30 → Reads start value i digits → (48 ≤ get_or digits i 0) × (get_or digits i 0 ≤ 57) × (value < 10 ^ 29)
Reads_digit start value i digits h few r =
    let e : drop i digits ≡ get_or digits i 0 ∷ drop (suc i) digits = drop-cons digits i 0 h in
    let a = digit_is (get_or digits i 0) (all_digits_first (get_or digits i 0) (drop (suc i) digits) (subst (λ l. all_ascii_digits l ≡ true) e r.rest)).0 in
    let b = ten_mono (30 - length digits + i) 29 (omega arith) in
    (a.0, a.1, omega (arith, b, r.room))

pub Reads_more : (start value i : ℕ) (digits : List ℕ) → i < length digits → length digits ≤ 30 → Reads start value i digits → Reads start (value * 10 + (get_or digits i 0 - 48)) (i + 1) digits
Reads_more start value i digits h few r =
    let e : drop i digits ≡ get_or digits i 0 ∷ drop (i + 1) digits = rw add-one (drop-cons digits i 0 h) in
    let f = all_digits_first (get_or digits i 0) (drop (i + 1) digits) (subst (λ l. all_ascii_digits l ≡ true) e r.rest) in
    let d = digit_is (get_or digits i 0) f.0 in
    let k : 30 - length digits + (i + 1) ≡ (30 - length digits + i) + 1 = omega arith in
    let g = ten_suc (30 - length digits + i) in
    record {
      is = r.is ∙ ap (λ l. digits_value_after 10 value l) e
          ∙ ap (λ v. digits_value_after 10 (value * 10 + v) (drop (i + 1) digits)) d.2;
      room = rw k (omega (arith, g, r.room, d.0, d.1));
      rest = f.1;
    }

pub Reads_all : (start value i : ℕ) (digits : List ℕ) → i ≡ length digits → Reads start value i digits → value ≡ digits_value_after 10 start digits
Reads_all start value i digits h r =
    let e : drop i digits ≡ [] = drop_of_length-le digits (omega arith) in
    sym (r.is ∙ ap (λ l. digits_value_after 10 value l) e)

-- the value so far, or 31 where it is above 30
pub record ReadsSmall (value i : ℕ) (digits : List ℕ) : Type 0 where
  pub is : value ≡ min (digits_value 10 (take i digits)) 31
  pub rest : all_ascii_digits digits ≡ all_ascii_digits (drop i digits)
  pub some : 0 < length digits

pub ReadsSmall_stop : (value i : ℕ) (digits : List ℕ) → i < length digits → is_ascii_digit (get_or digits i 0) ≡ false → ReadsSmall value i digits → all_ascii_digits digits ≡ false
ReadsSmall_stop value i digits h other r =
    let e : drop i digits ≡ get_or digits i 0 ∷ drop (suc i) digits = drop-cons digits i 0 h in
    r.rest ∙ ap all_ascii_digits e ∙ ap (λ b. b && all_ascii_digits (drop (suc i) digits)) other

pub ReadsSmall_more : (value next i : ℕ) (digits : List ℕ) → i < length digits → is_ascii_digit (get_or digits i 0) ≡ true → next ≡ min (value * 10 + (get_or digits i 0 - 48)) 31 → ReadsSmall value i digits → ReadsSmall next (i + 1) digits
ReadsSmall_more value next i digits h digit step r =
    let e : drop i digits ≡ get_or digits i 0 ∷ drop (i + 1) digits = rw add-one (drop-cons digits i 0 h) in
    let d = digit_is (get_or digits i 0) digit in
    let v = digits_value_more 10 digits i h in
    record {
      is = omega (arith, v, d.2, step, r.is);
      rest = r.rest ∙ ap all_ascii_digits e ∙ all_digits-cons (get_or digits i 0) (drop (i + 1) digits) digit;
      some = r.some;
    }
