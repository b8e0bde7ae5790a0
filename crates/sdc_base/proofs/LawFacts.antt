-- The laws of reading a number.
use Rattle.std.proofs.Common.{◌≡◌, ℕ, ◌+◌, ◌^◌, ◌<◌, ◌≤◌, true, false, nat_lt, List, length, Ok, Err, refl, sym, ap, subst, ◌∙◌, arith}
use Rattle.std.proofs.lemmas.Bool.Decides.{nat_tests}
use Rattle.sdc_base.specs.Number.{Number, Parts, is_number, is_minus, is_whole, numerator, denominator, nearest, IsNearest, with_sign, number_of, decimals_in, lowered, parts_of, read_number}
use Rattle.sdc_base.specs.NumberLaws.{Means, Spells, ReadIsSpelled, SpelledIsRead, RangeIsExact, FormIsExact}
use Rattle.sdc_base.specs.declared.fixed.NumberError.TheVariants.{NumberForm, NumberRange}
use Rattle.sdc_base.proofs.CaseFacts.{by_bool}
use Rattle.sdc_base.proofs.NearestFacts.{ten_pos, IsNearest-nearest, nearest-IsNearest}
use Rattle.sdc_base.proofs.ReadFacts.{abs_with_sign, read_is}
use Rattle.sdc_base.proofs.SpellingFacts.{spelling-parts_of, parts_of-spelling}

-- the number of these parts, where their magnitude is m
abbrev pub with_magnitude : Parts → ℕ → Number
with_magnitude p m = record { scaled = with_sign (is_minus p.sign) m; whole = is_whole p }

pub number_of_below : (p : Parts) (m : ℕ) → m ≡ nearest (numerator p) (denominator p) → m < 10 ^ 24 → number_of p ≡ Ok (with_magnitude p m)
number_of_below p m e h =
    let t : nat_lt m (10 ^ 24) ≡ true = grind (arith, nat_tests) in
    rw (sym e, t) refl

pub number_of_above : (p : Parts) (m : ℕ) → m ≡ nearest (numerator p) (denominator p) → 10 ^ 24 ≤ m → number_of p ≡ Err NumberRange
number_of_above p m e h =
    let t : nat_lt m (10 ^ 24) ≡ false = grind (arith, nat_tests) in
    rw (sym e, t) refl

pub denominator_pos : (p : Parts) → 0 < denominator p
denominator_pos p = ten_pos (length (decimals_in p.fraction) + lowered p.exponent)

pub Means_with : (p : Parts) (m : ℕ) → IsNearest (numerator p) (denominator p) m → m < 10 ^ 24 → Means p (with_magnitude p m)
Means_with p m n h =
    let a = abs_with_sign (is_minus p.sign) m in
    record {
      value = rw a n;
      sign = ap (with_sign (is_minus p.sign)) (sym a);
      below = rw a h;
      whole = refl;
    }

-- what a text is read as, by its parts
pub read_spelled : (text : List ℕ) (p : Parts) → Spells p text → read_number text ≡ number_of p
read_spelled text p s =
    let e : parts_of text ≡ p = ap parts_of (sym s.spelled) ∙ parts_of-spelling p s.fits in
    read_is text (ap is_number e ∙ s.fits) ∙ ap number_of e

pub read_unfit : (text : List ℕ) → is_number (parts_of text) ≡ false → read_number text ≡ Err NumberForm
unfolding read_number
read_unfit text h = rw h refl

pub number_of_form : (p : Parts) → number_of p ≡ Err NumberForm → ⊥
number_of_form p h =
    let m = nearest (numerator p) (denominator p) in
    by_bool (λ b. nat_lt m (10 ^ 24) ≡ b → ⊥) (nat_lt m (10 ^ 24))
    (λ _ t. let k = number_of_below p m refl (grind (arith, nat_tests)) in cc)
    (λ _ t. let k = number_of_above p m refl (grind (arith, nat_tests)) in cc) refl

pub number_of_ok : (p : Parts) (n : Number) → number_of p ≡ Ok n → Means p n
number_of_ok p n h =
    let m = nearest (numerator p) (denominator p) in
    let i = IsNearest-nearest (numerator p) (denominator p) (denominator_pos p) in
    by_bool (λ b. nat_lt m (10 ^ 24) ≡ b → Means p n) (nat_lt m (10 ^ 24))
    (λ _ t. let l : m < 10 ^ 24 = grind (arith, nat_tests) in
    let k = number_of_below p m refl l in
    let e : with_magnitude p m ≡ n = cc in subst (Means p) e (Means_with p m i l))
    (λ _ t. let k = number_of_above p m refl (grind (arith, nat_tests)) in absurd cc) refl

pub own_parts : (text : List ℕ) → is_number (parts_of text) ≡ true → Spells (parts_of text) text
own_parts text h = record { spelled = spelling-parts_of text; fits = h }

pub read_is_spelled : (text : List ℕ) → ReadIsSpelled text
read_is_spelled text n h =
    by_bool (λ b. is_number (parts_of text) ≡ b → (p : Parts) × Spells p text × Means p n) (is_number (parts_of text))
    (λ _ t. (parts_of text, own_parts text t, number_of_ok (parts_of text) n (sym (read_is text t) ∙ h)))
    (λ _ t. let k = read_unfit text t in absurd cc) refl

pub spelled_is_read : (text : List ℕ) → SpelledIsRead text
spelled_is_read text p m s near h =
    let a = nearest-IsNearest (numerator p) (denominator p) m (denominator_pos p) near in
    (with_magnitude p m, read_spelled text p s ∙ number_of_below p m a h, Means_with p m near h)

pub range_is_exact : (text : List ℕ) → RangeIsExact text
range_is_exact text p m s near =
    let a = nearest-IsNearest (numerator p) (denominator p) m (denominator_pos p) near in
    let r = read_spelled text p s in (
      λ h. by_bool (λ b. nat_lt m (10 ^ 24) ≡ b → 10 ^ 24 ≤ m) (nat_lt m (10 ^ 24))
          (λ _ t. let k = number_of_below p m a (grind (arith, nat_tests)) in absurd cc)
          (λ _ t. grind (arith, nat_tests)) refl,
      λ h. r ∙ number_of_above p m a h,
    )

pub form_is_exact : (text : List ℕ) → FormIsExact text
form_is_exact text = (
  λ h p s. number_of_form p (sym (read_spelled text p s) ∙ h),
  λ none. by_bool (λ b. is_number (parts_of text) ≡ b → read_number text ≡ Err NumberForm) (is_number (parts_of text))
      (λ _ t. absurd (none (parts_of text) (own_parts text t)))
      (λ _ t. read_unfit text t) refl,
)
