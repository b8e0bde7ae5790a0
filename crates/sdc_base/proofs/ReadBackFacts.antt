-- The text of a time is read back as that time.
use Rattle.std.proofs.Common.{◌≡◌, ℕ, zero, suc, ◌+◌, ◌*◌, ◌/◌, ◌%◌, ◌^◌, ◌<◌, ◌≤◌, Bool, true, false, cond, nat_eq, nat_lt, nat_le, List, [], ◌∷◌, ◌++◌, length, Option, Some, None, Ok, ℤ, pos, refl, sym, ap, subst, ◌∙◌, inl, inr, arith, lit<, lit≤, length-append, add-zero}
use Rattle.std.proofs.lemmas.Bool.{and_parts}
use Rattle.std.proofs.lemmas.Bool.Decides.{nat_tests}
use Rattle.std.proofs.lemmas.List.{append-nil}
use Rattle.std.proofs.lemmas.Fmt.{digits_decimal, digits_value-decimal, length-decimal-le, decimal_nonempty}
use Rattle.std.proofs.Math.Nat.{mul_assoc, mul_comm, le-mul_of_pos_right, div-add-mod', div-le_self}
use Rattle.std.proofs.lemmas.Nat.{mod_below, mul-le}
use Rattle.std.specs.Fmt.{decimal}
use Rattle.std.specs.Int.{is_negative}
use Rattle.std.specs.Int.RustNames.{unsigned_abs}
use Rattle.std.specs.List.{list_all}
use Rattle.std.specs.Str.{all_ascii_digits}
use Rattle.std.specs.Str.Parse.{digits_value, digits_value_after}
use Rattle.sdc_base.specs.Number.{Sign, unsigned, minus, Parts, sign_text, point_text, spelling, decimals_in, is_number, is_minus, numerator, denominator, nearest, with_sign}
use Rattle.sdc_base.specs.NumberLaws.{Spells, ReadsBack, is_time_byte, IsTimeText, TimeTextReadsBack, TimeTextIsPlain}
use Rattle.sdc_base.specs.Time.{IsUnit, time_of, minus_text, places, decimals_text, time_text_of}
use Rattle.sdc_base.proofs.CaseFacts.{by_bool}
use Rattle.sdc_base.proofs.DigitFacts.{own, all_digits_first, digits_value_after-append}
use Rattle.sdc_base.proofs.LawFacts.{with_magnitude, number_of_below, read_spelled}
use Rattle.sdc_base.proofs.NearestFacts.{nearest_cancel, nearest_one, ten_pos}
use Rattle.sdc_base.proofs.PlaceFacts.{places_none, length-places, all_digits-places, digits_value-places}
use Rattle.sdc_base.proofs.ReadFacts.{abs_with_sign}
use Rattle.sdc_base.proofs.TimeFacts.{time_below, with_sign_abs, is_negative-with_sign}

-- what the proof knows of a unit of u femtoseconds: g of them in 10 ^ 9, and six places are enough
pub record Unit_of (u g : ℕ) : Type 0 where
  pub pos : 0 < u
  pub least : 1000 ≤ u
  pub parts : u * g ≡ 10 ^ 9
  pub few : g ≤ 10 ^ 6
  pub even : (r : ℕ) → (r * 10 ^ 6) % u ≡ 0

-- the parts of a time's text
abbrev pub time_sign : Bool → Sign
time_sign true = minus
time_sign false = unsigned

abbrev pub after_point : ℕ → ℕ → Option (List ℕ)
after_point r u = cond (nat_eq r 0) None (Some (places 6 r u))

abbrev pub time_parts : Bool → ℕ → ℕ → Parts
time_parts negative m u = record {
  sign = time_sign negative;
  before = decimal (m / u);
  fraction = after_point (m % u) u;
  exponent = None;
}

pub time_sign_text : (b : Bool) → sign_text (time_sign b) ≡ minus_text b
time_sign_text true = refl
time_sign_text false = refl

pub time_sign_minus : (b : Bool) → is_minus (time_sign b) ≡ b
time_sign_minus true = refl
time_sign_minus false = refl

pub point_text-fraction : (r u : ℕ) → point_text (after_point r u) ≡ decimals_text r u
point_text-fraction r u =
    by_bool (λ b. point_text (cond b None (Some (places 6 r u))) ≡ cond b [] (46 ∷ places 6 r u)) (nat_eq r 0) (λ _. refl) (λ _. refl)

pub decimals-fraction : (r u : ℕ) → decimals_in (after_point r u) ≡ places 6 r u
decimals-fraction zero u = sym (places_none 6 u)
decimals-fraction (suc r) u = let e : nat_eq (suc r) 0 ≡ false = grind (arith, nat_tests) in rw e refl

pub spelling-time : (fs unit : ℤ) → spelling (time_parts (is_negative fs) (unsigned_abs fs) (unsigned_abs unit)) ≡ time_text_of fs unit
unfolding time_text_of
spelling-time fs unit =
    let m = unsigned_abs fs in
    let u = unsigned_abs unit in
    let e = time_sign_text (is_negative fs) in
    let f = point_text-fraction (m % u) u in
    rw (append-nil {A = ℕ} (point_text (after_point (m % u) u)), e, f) refl

-- how long the text's digits are, and that they are digits
pub record Digits (m u : ℕ) : Type 0 where
  pub before : all_ascii_digits (decimal (m / u)) ≡ true
  pub fraction : all_ascii_digits (places 6 (m % u) u) ≡ true
  pub some : 0 < length (decimal (m / u))
  pub few : length (decimal (m / u)) ≤ 20
  pub short : length (places 6 (m % u) u) ≤ 6

pub quotient-le : (m u : ℕ) → m / u ≤ m
quotient-le m u = div-le_self m u

pub Digits_of : (m u : ℕ) → 0 < u → m < 2 ^ 64 → Digits m u
Digits_of m u h l =
    let q = quotient-le m u in
    let small : m / u < 2 ^ 64 = omega arith in
    record {
      before = digits_decimal own (m / u) small;
      fraction = all_digits-places 6 (m % u) u (mod_below m u h);
      some = decimal_nonempty (m / u) small;
      few = length-decimal-le 20 (m / u) (lit< tt) (omega arith) small;
      short = length-places 6 (m % u) u;
    }

pub is_number-time : (b : Bool) (m u : ℕ) → Digits m u → is_number (time_parts b m u) ≡ true
is_number-time b m u d =
    let e = decimals-fraction (m % u) u in
    let n = length (decimal (m / u)) + length (places 6 (m % u) u) in
    let f : nat_lt 0 n ≡ true = grind (arith, nat_tests, d.some) in
    let g : nat_le n 30 ≡ true = grind (arith, nat_tests, d.few, d.short) in
    rw (e, f, g, d.before, d.fraction) refl

-- a quotient's digits and its decimals, read as one number
pub digits-quotient : (k m u : ℕ) → 0 < u → m / u < 2 ^ 64 → (m % u * 10 ^ k) % u ≡ 0 → digits_value 10 (decimal (m / u) ++ places k (m % u) u) * u ≡ m * 10 ^ length (places k (m % u) u)
digits-quotient k m u h l z =
    let v : digits_value 10 (decimal (m / u)) ≡ m / u = digits_value-decimal own (m / u) l in
    let a : digits_value 10 (decimal (m / u) ++ places k (m % u) u) ≡ digits_value_after 10 (m / u) (places k (m % u) u) =
    digits_value_after-append 0 (decimal (m / u)) (places k (m % u) u) ∙ ap (λ x. digits_value_after 10 x (places k (m % u) u)) v in
    let p = digits_value-places k (m % u) u (m / u) (mod_below m u h) z in
    let w : m / u * u + m % u ≡ m = div-add-mod' m u in
    ap (λ x. x * u) a ∙ p ∙ ap (λ x. x * 10 ^ length (places k (m % u) u)) w

-- the digits of a time, read as one number
pub digits-time : (m u : ℕ) → 0 < u → m < 2 ^ 64 → (m % u * 10 ^ 6) % u ≡ 0 → digits_value 10 (decimal (m / u) ++ places 6 (m % u) u) * u ≡ m * 10 ^ length (places 6 (m % u) u)
digits-time m u h l z = let q = quotient-le m u in digits-quotient 6 m u h (omega arith) z

pub regroup : (d u g m l : ℕ) → d * u ≡ m * l → d * (u * g) ≡ (m * g) * l
regroup d u g m l h = sym (mul_assoc d u g) ∙ ap (λ x. x * g) h ∙ (grind arith)

pub magnitude-time : (b : Bool) (m u g : ℕ) → Unit_of u g → m < 2 ^ 64 → m * g ≡ nearest (numerator (time_parts b m u)) (denominator (time_parts b m u))
magnitude-time b m u g k l =
    let e = decimals-fraction (m % u) u in
    let d = digits_value 10 (decimal (m / u) ++ places 6 (m % u) u) in
    let p = 10 ^ length (places 6 (m % u) u) in
    let t = digits-time m u k.pos l (k.even (m % u)) in
    let n : d * 10 ^ 9 ≡ (m * g) * p = ap (λ x. d * x) (sym k.parts) ∙ regroup d u g m p t in
    let o : p ≡ 1 * p = omega arith in
    let z : nearest (d * 10 ^ 9) p ≡ m * g =
    ap (λ x. nearest x p) n ∙ ap (λ x. nearest ((m * g) * p) x) o
    ∙ nearest_cancel (m * g) 1 p (ten_pos (length (places 6 (m % u) u))) ∙ nearest_one (m * g) in
    rw (e, add-zero) (sym z)

pub gets_some : (u g : ℕ) → u * g ≡ 10 ^ 9 → 0 < g
gets_some u zero e = absurd (omega arith)
gets_some u (suc g) e = omega arith

pub mul_pos : (a b : ℕ) → 0 < a → 0 < b → 0 < a * b
mul_pos a b h k = let e = le-mul_of_pos_right a k in omega arith

pub times_below : (m g : ℕ) → m ≤ 10 ^ 16 → g ≤ 10 ^ 6 → m * g < 10 ^ 24
times_below m g h k = let e = mul-le m g (10 ^ 16) (10 ^ 6) h k in omega arith

pub with_sign_zero : (b : Bool) → with_sign b 0 ≡ pos 0
with_sign_zero true = refl
with_sign_zero false = refl

pub signs_same : (b : Bool) (m g : ℕ) → 0 < g → with_sign (is_negative (with_sign b (m * g))) m ≡ with_sign b m
signs_same b zero g h = with_sign_zero (is_negative (with_sign b (0 * g))) ∙ sym (with_sign_zero b)
signs_same b (suc m) g h = ap (λ c. with_sign c (suc m)) (is_negative-with_sign b (suc m * g) (mul_pos (suc m) g (omega arith) h))

pub time_back : (fs unit : ℤ) (g : ℕ) → Unit_of (unsigned_abs unit) g → unsigned_abs fs ≤ 10 ^ 16 → time_of (with_magnitude (time_parts (is_negative fs) (unsigned_abs fs) (unsigned_abs unit)) (unsigned_abs fs * g)) unit ≡ Ok fs
time_back fs unit g k h =
    let m = unsigned_abs fs in
    let u = unsigned_abs unit in
    let b = is_negative fs in
    let n = with_magnitude (time_parts b m u) (m * g) in
    let c = time_sign_minus b in
    let a = abs_with_sign (is_minus (time_sign b)) (m * g) in
    let e : unsigned_abs n.scaled * u ≡ m * 10 ^ 9 = ap (λ x. x * u) a ∙ mul_assoc m g u ∙ ap (λ x. m * x) (mul_comm g u ∙ k.parts) in
    let f : m ≡ nearest (unsigned_abs n.scaled * u) (10 ^ 9) =
    sym (ap (λ x. nearest x (10 ^ 9)) e ∙ nearest_cancel m 1 (10 ^ 9) (lit< tt) ∙ nearest_one m) in
    let t = time_below n unit m f h in
    let v : with_sign (is_negative n.scaled) m ≡ fs =
    ap (λ x. with_sign (is_negative (with_sign x (m * g))) m) c ∙ signs_same b m g (gets_some u g k.parts) ∙ with_sign_abs fs in
    sym t ∙ ap Ok v

pub read_back : (fs unit : ℤ) (g : ℕ) → Unit_of (unsigned_abs unit) g → unsigned_abs fs ≤ 10 ^ 16 → ReadsBack fs unit
read_back fs unit g k h =
    let m = unsigned_abs fs in
    let u = unsigned_abs unit in
    let b = is_negative fs in
    let p = time_parts b m u in
    let small : m < 2 ^ 64 = omega arith in
    let d = Digits_of m u k.pos small in
    let s : Spells p (time_text_of fs unit) = record { spelled = spelling-time fs unit; fits = is_number-time b m u d } in
    let below : m * g < 10 ^ 24 = times_below m g h k.few in
    let r = read_spelled (time_text_of fs unit) p s ∙ number_of_below p (m * g) (magnitude-time b m u g k small) below in
    record {
      number = with_magnitude p (m * g);
      read = r;
      time = time_back fs unit g k h;
    }

-- the four units
pub by_unit : (P : ℤ → Type 0) (unit : ℤ) → ((u g : ℕ) → Unit_of u g → P (pos u)) → IsUnit unit → P unit
by_unit P unit f h =
    elim h [
      | inl e ↦ subst P (sym e) (f 1000 1000000 (record { pos = lit< tt; least = lit≤ tt; parts = refl; few = lit≤ tt; even = λ r. omega arith }))
      | inr i ↦ elim i [
        | inl e ↦ subst P (sym e) (f 10000 100000 (record { pos = lit< tt; least = lit≤ tt; parts = refl; few = lit≤ tt; even = λ r. omega arith }))
        | inr j ↦ elim j [
          | inl e ↦ subst P (sym e) (f 100000 10000 (record { pos = lit< tt; least = lit≤ tt; parts = refl; few = lit≤ tt; even = λ r. omega arith }))
          | inr e ↦ subst P (sym e) (f 1000000 1000 (record { pos = lit< tt; least = lit≤ tt; parts = refl; few = lit≤ tt; even = λ r. omega arith }))
        ]
      ]
    ]

pub time_text_reads_back : (fs unit : ℤ) → TimeTextReadsBack fs unit
time_text_reads_back fs unit h l =
    by_unit (λ x. ReadsBack fs x) unit (λ u g k. read_back fs (pos u) g k l) h

-- ---- the bytes of a time's text

pub list_all-append : (p : ℕ → Bool) (xs ys : List ℕ) → list_all p xs ≡ true → list_all p ys ≡ true → list_all p (xs ++ ys) ≡ true
list_all-append p [] ys a b = b
list_all-append p (x ∷ xs) ys a b =
    let f = and_parts (p x) (list_all p xs) a in
    rw (f.0, list_all-append p xs ys f.1 b) refl

pub time_bytes : (ds : List ℕ) → all_ascii_digits ds ≡ true → list_all is_time_byte ds ≡ true
time_bytes [] h = refl
time_bytes (d ∷ ds) h =
    let f = all_digits_first d ds h in
    rw (f.0, time_bytes ds f.1) refl

pub minus_bytes : (b : Bool) → list_all is_time_byte (minus_text b) ≡ true
minus_bytes true = refl
minus_bytes false = refl

pub decimals_bytes : (r u : ℕ) → all_ascii_digits (places 6 r u) ≡ true → list_all is_time_byte (decimals_text r u) ≡ true
decimals_bytes r u h =
    by_bool (λ b. list_all is_time_byte (cond b [] (46 ∷ places 6 r u)) ≡ true) (nat_eq r 0) (λ _. refl)
    (λ _. time_bytes (places 6 r u) h)

pub time_text_bytes : (fs unit : ℤ) (g : ℕ) → Unit_of (unsigned_abs unit) g → unsigned_abs fs ≤ 2 ^ 63 → IsTimeText (time_text_of fs unit)
unfolding time_text_of
time_text_bytes fs unit g k h =
    let m = unsigned_abs fs in
    let u = unsigned_abs unit in
    let d = Digits_of m u k.pos (omega arith) in
    let whole = decimal (m / u) in
    let tail = decimals_text (m % u) u in
    let front = minus_text (is_negative fs) in
    record {
      bytes =
          list_all-append is_time_byte front (whole ++ tail) (minus_bytes (is_negative fs))
          (list_all-append is_time_byte whole tail (time_bytes whole d.before) (decimals_bytes (m % u) u d.fraction));
      some = rw (length-append front (whole ++ tail), length-append whole tail) (omega (arith, d.some));
    }

pub time_text_plain : (fs unit : ℤ) → TimeTextIsPlain fs unit
time_text_plain fs unit h l =
    by_unit (λ x. IsTimeText (time_text_of fs x)) unit (λ u g k. time_text_bytes fs (pos u) g k l) h
