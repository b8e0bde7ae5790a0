-- A text has no parts but those that spell it.
use Rattle.std.proofs.Common.{◌≡◌, ℕ, ◌+◌, ◌⊎◌, true, false, ◌||◌, cond, eqb, List, [], ◌∷◌, ◌++◌, length, Option, Some, None, refl, ap, ◌∙◌, inl, inr, arith}
use Rattle.std.proofs.lemmas.Bool.{and_parts}
use Rattle.std.proofs.lemmas.Bool.Decides.{nat_tests}
use Rattle.std.proofs.Math.Seq.{take-append_seam, drop-append_seam}
use Rattle.std.proofs.lemmas.List.{take-append-drop, append-nil}
use Rattle.std.specs.Char.{is_ascii_digit}
use Rattle.std.specs.List.{prefix_len, take_while}
use Rattle.std.specs.Str.{all_ascii_digits}
use Rattle.sdc_base.specs.Number.{Sign, unsigned, plus, minus, Exponent, Parts, sign_text, point_text, exponent_text, spelling, decimals_in, is_exponent, is_count, is_number, sign_of, after_sign, after_digits, after_of, after_after, exponent_of, parts_of}
use Rattle.sdc_base.proofs.CaseFacts.{by_bool}
use Rattle.sdc_base.proofs.DigitFacts.{digit_is, all_digits_first}

-- ---- the parts of a text spell it

pub sign_first : (b : ℕ) (bs : List ℕ) → sign_text (sign_of (b ∷ bs)) ++ after_sign (b ∷ bs) ≡ b ∷ bs
sign_first b bs =
    by_bool (λ v. sign_text (cond v plus (cond (eqb b 45) minus unsigned)) ++ cond (v || eqb b 45) bs (b ∷ bs) ≡ b ∷ bs) (eqb b 43)
    (λ e. let m : 43 ≡ b = grind (arith, nat_tests) in ap (λ x. x ∷ bs) m)
    (λ _. by_bool (λ v. sign_text (cond v minus unsigned) ++ cond v bs (b ∷ bs) ≡ b ∷ bs) (eqb b 45)
    (λ e. let m : 45 ≡ b = grind (arith, nat_tests) in ap (λ x. x ∷ bs) m) (λ _. refl))

pub digits-split : (text : List ℕ) → take_while is_ascii_digit text ++ after_digits text ≡ text
digits-split text = take-append-drop (prefix_len is_ascii_digit text) text

pub sign_text-sign_of : (text : List ℕ) → sign_text (sign_of text) ++ after_sign text ≡ text
sign_text-sign_of [] = refl
sign_text-sign_of (b ∷ bs) = sign_first b bs

pub point_text-after_of : (text : List ℕ) → point_text (after_of text) ++ after_after text ≡ text
point_text-after_of [] = refl
point_text-after_of (b ∷ bs) =
    by_bool (λ v. point_text (cond v (Some (take_while is_ascii_digit bs)) None) ++ cond v (after_digits bs) (b ∷ bs) ≡ b ∷ bs) (eqb b 46)
    (λ e. let m : 46 ≡ b = grind (arith, nat_tests) in rw digits-split (ap (λ x. x ∷ bs) m)) (λ _. refl)

pub exponent_text-exponent_of : (text : List ℕ) → exponent_text (exponent_of text) ≡ text
exponent_text-exponent_of [] = refl
exponent_text-exponent_of (b ∷ bs) = ap (λ l. b ∷ l) (sign_text-sign_of bs)

pub spelling-parts_of : (text : List ℕ) → spelling (parts_of text) ≡ text
unfolding parts_of
spelling-parts_of text =
    let u = after_sign text in
    let r = after_digits u in
    rw exponent_text-exponent_of (rw (point_text-after_of r) (rw (digits-split u) (sign_text-sign_of text)))

-- ---- parts that fit are those of the text that they spell

-- the text begins with no digit, sign or point
pub record NotLed (text : List ℕ) : Type 0 where
  pub digit : prefix_len is_ascii_digit text ≡ 0
  pub sign : sign_of text ≡ unsigned
  pub point : after_of text ≡ None

pub exponent_mark : (e : Exponent) → is_exponent (Some e) ≡ true → (e.mark ≡ 101) ⊎ (e.mark ≡ 69)
exponent_mark e h = grind (arith, nat_tests)

pub NotLed-exponent : (e : Option Exponent) → is_exponent e ≡ true → NotLed (exponent_text e)
NotLed-exponent None h = record { digit = refl; sign = refl; point = refl }
NotLed-exponent (Some e) h =
    elim (exponent_mark e h) [
      | inl m ↦ record { digit = rw m refl; sign = rw m refl; point = rw m refl }
      | inr m ↦ record { digit = rw m refl; sign = rw m refl; point = rw m refl }
    ]

pub prefix_len-digits : (ds rest : List ℕ) → all_ascii_digits ds ≡ true → prefix_len is_ascii_digit rest ≡ 0 → prefix_len is_ascii_digit (ds ++ rest) ≡ length ds
prefix_len-digits [] rest h z = z
prefix_len-digits (d ∷ ds) rest h z =
    let f = all_digits_first d ds h in
    let i = prefix_len-digits ds rest f.1 z in
    rw (f.0, i) (omega arith)

pub take_while-digits : (ds rest : List ℕ) → all_ascii_digits ds ≡ true → prefix_len is_ascii_digit rest ≡ 0 → take_while is_ascii_digit (ds ++ rest) ≡ ds
take_while-digits ds rest h z = rw (prefix_len-digits ds rest h z) (take-append_seam ds rest)

pub after_digits-digits : (ds rest : List ℕ) → all_ascii_digits ds ≡ true → prefix_len is_ascii_digit rest ≡ 0 → after_digits (ds ++ rest) ≡ rest
after_digits-digits ds rest h z = rw (prefix_len-digits ds rest h z) (drop-append_seam ds rest)

pub sign_of-digits : (ds rest : List ℕ) → all_ascii_digits ds ≡ true → sign_of rest ≡ unsigned → sign_of (ds ++ rest) ≡ unsigned
sign_of-digits [] rest h z = z
sign_of-digits (d ∷ ds) rest h z =
    let f = digit_is d (all_digits_first d ds h).0 in
    let a : eqb d 43 ≡ false = grind (arith, nat_tests) in
    let b : eqb d 45 ≡ false = grind (arith, nat_tests) in
    rw (a, b) refl

pub sign_of-sign_text : (s : Sign) (rest : List ℕ) → sign_of rest ≡ unsigned → sign_of (sign_text s ++ rest) ≡ s
sign_of-sign_text unsigned rest h = h
sign_of-sign_text plus rest h = refl
sign_of-sign_text minus rest h = refl

pub after_sign-unsigned : (text : List ℕ) → sign_of text ≡ unsigned → after_sign text ≡ text
after_sign-unsigned [] h = refl
after_sign-unsigned (b ∷ bs) h =
    by_bool (λ v. cond v plus (cond (eqb b 45) minus unsigned) ≡ unsigned → cond (v || eqb b 45) bs (b ∷ bs) ≡ b ∷ bs) (eqb b 43)
    (λ _ k. cc)
    (λ _ k. by_bool (λ v. cond v minus unsigned ≡ unsigned → cond v bs (b ∷ bs) ≡ b ∷ bs) (eqb b 45) (λ _ j. cc) (λ _ j. refl) k) h

pub after_sign-sign_text : (s : Sign) (rest : List ℕ) → sign_of rest ≡ unsigned → after_sign (sign_text s ++ rest) ≡ rest
after_sign-sign_text unsigned rest h = after_sign-unsigned rest h
after_sign-sign_text plus rest h = refl
after_sign-sign_text minus rest h = refl

pub all_exponent : (e : Exponent) → is_exponent (Some e) ≡ true → all_ascii_digits e.digits ≡ true
all_exponent e h = grind (arith, nat_tests)

pub exponent_of-exponent_text : (e : Option Exponent) → is_exponent e ≡ true → exponent_of (exponent_text e) ≡ e
exponent_of-exponent_text None h = refl
exponent_of-exponent_text (Some e) h =
    let d = all_exponent e h in
    let s = rw append-nil at (sign_of-digits e.digits [] d refl) in
    rw (sign_of-sign_text e.sign e.digits s, after_sign-sign_text e.sign e.digits s) refl

pub is_number_parts : (p : Parts) → is_number p ≡ true → (is_exponent p.exponent ≡ true) × (is_count (length p.before + length (decimals_in p.fraction)) ≡ true) × (all_ascii_digits p.before ≡ true) × (all_ascii_digits (decimals_in p.fraction) ≡ true)
is_number_parts p h =
    let f = and_parts _ (all_ascii_digits (decimals_in p.fraction)) h in
    let g = and_parts _ (all_ascii_digits p.before) f.0 in
    let e = and_parts (is_exponent p.exponent) (is_count (length p.before + length (decimals_in p.fraction))) g.0 in
    (e.0, e.1, g.1, f.1)

pub parts-same : (p : Parts) (s : Sign) (b : List ℕ) (d : Option (List ℕ)) (e : Option Exponent) → s ≡ p.sign → b ≡ p.before → d ≡ p.fraction → e ≡ p.exponent → (let q : Parts = record { sign = s; before = b; fraction = d; exponent = e } in q) ≡ p
parts-same p s b d e i j k l = rw (i, j, k, l) refl

-- the text after the digits before the point begins with no digit and no sign
pub record After (d : Option (List ℕ)) (e : Option Exponent) : Type 0 where
  pub digit : prefix_len is_ascii_digit (point_text d ++ exponent_text e) ≡ 0
  pub sign : sign_of (point_text d ++ exponent_text e) ≡ unsigned
  pub found : after_of (point_text d ++ exponent_text e) ≡ d
  pub after : after_after (point_text d ++ exponent_text e) ≡ exponent_text e

pub after_after-none : (text : List ℕ) → after_of text ≡ None → after_after text ≡ text
after_after-none [] h = refl
after_after-none (b ∷ bs) h =
    by_bool (λ v. cond v (Some (take_while is_ascii_digit bs)) None ≡ None → cond v (after_digits bs) (b ∷ bs) ≡ b ∷ bs) (eqb b 46)
    (λ _ k. cc) (λ _ k. refl) h

pub Fraction_parts : (d : Option (List ℕ)) (e : Option Exponent) → is_exponent e ≡ true → all_ascii_digits (decimals_in d) ≡ true → After d e
Fraction_parts None e h a =
    let n = NotLed-exponent e h in
    record { digit = n.digit; sign = n.sign; found = n.point; after = after_after-none (exponent_text e) n.point }
Fraction_parts (Some ds) e h a =
    let n = NotLed-exponent e h in
    record {
      digit = refl;
      sign = refl;
      found = ap Some (take_while-digits ds (exponent_text e) a n.digit);
      after = after_digits-digits ds (exponent_text e) a n.digit;
    }

pub parts_of-spelling : (p : Parts) → is_number p ≡ true → parts_of (spelling p) ≡ p
unfolding parts_of
parts_of-spelling p h =
    let f = is_number_parts p h in
    let b = Fraction_parts p.fraction p.exponent f.0 f.3 in
    let r = point_text p.fraction ++ exponent_text p.exponent in
    let u = p.before ++ r in
    let s = sign_of-digits p.before r f.2 b.sign in
    let a : after_sign (spelling p) ≡ u = after_sign-sign_text p.sign u s in
    let t : after_digits (after_sign (spelling p)) ≡ r = ap after_digits a ∙ after_digits-digits p.before r f.2 b.digit in
    parts-same p _ _ _ _ (sign_of-sign_text p.sign u s)
    (ap (take_while is_ascii_digit) a ∙ take_while-digits p.before r f.2 b.digit)
    (ap after_of t ∙ b.found)
    (ap (λ l. exponent_of (after_after l)) t ∙ ap exponent_of b.after ∙ exponent_of-exponent_text p.exponent f.0)
