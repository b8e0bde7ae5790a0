-- The decimals of a time: how a loop writes them, and what number they are.
use Rattle.std.proofs.Common.{◌≡◌, ℕ, zero, suc, ◌+◌, ◌-◌, ◌*◌, ◌/◌, ◌%◌, ◌<◌, false, nat_eq, List, [], ◌∷◌, ◌++◌, refl, sym, ap, ◌∙◌, arith, append_assoc, length, lit≤, true, ◌≤◌, ◌^◌, ℤ}
use Rattle.std.proofs.lemmas.List.{append-nil}
use Rattle.std.proofs.Math.Nat.{mod-eq_of_lt, pow-succ', mul_assoc, div-add-mod'}
use Rattle.std.proofs.lemmas.Nat.{div_below, mod_below, mul-mod_first}
use Rattle.std.specs.Char.{is_ascii_digit, digit_value}
use Rattle.std.specs.Str.{all_ascii_digits}
use Rattle.std.specs.Str.Parse.{digits_value_after}
use Rattle.sdc_base.proofs.DigitFacts.{all_digits-cons}
use Rattle.std.proofs.lemmas.Bool.Decides.{nat_tests}
use Rattle.std.specs.Fmt.{decimal}
use Rattle.std.specs.Int.{is_negative}
use Rattle.std.specs.Int.RustNames.{unsigned_abs}
use Rattle.sdc_base.specs.Time.{places, decimals_text, minus_text, time_text_of}

pub places_more : (k r u : ℕ) → 0 < r → places (suc k) r u ≡ (48 + r * 10 / u) ∷ places k (r * 10 % u) u
unfolding places
places_more k r u h =
    let e : nat_eq r 0 ≡ false = grind (arith, nat_tests) in
    rw e refl

pub places_none : (k u : ℕ) → places k 0 u ≡ []
unfolding places
places_none zero u = refl
places_none (suc k) u = refl

pub places_zero : (r u : ℕ) → places 0 r u ≡ []
unfolding places
places_zero r u = refl

-- a text before the loop and now, with i of `count` places written and `left` still to write
pub record Writes (count : ℕ) (start now : List ℕ) (i rest left unit : ℕ) : Type 0 where
  pub text : start ++ places count rest unit ≡ now ++ places (count - i) left unit
  pub less : left < unit

pub Writes_more : (count : ℕ) (start now next : List ℕ) (i rest left unit : ℕ) → i < count → 0 < left → next ≡ now ++ (48 + left * 10 / unit) ∷ [] → Writes count start now i rest left unit → Writes count start next (i + 1) rest (left * 10 % unit) unit
Writes_more count start now next i rest left unit h p e w =
    let k : count - i ≡ suc (count - (i + 1)) = omega arith in
    let d = places_more (count - (i + 1)) left unit p in
    record {
      text = w.text ∙ ap (λ j. now ++ places j left unit) k ∙ ap (λ l. now ++ l) d ∙ rw (e, append_assoc) refl;
      less = omega (arith, w.less);
    }

pub Writes_end : (count : ℕ) (start now : List ℕ) (i rest left unit : ℕ) → left ≡ 0 → Writes count start now i rest left unit → now ≡ start ++ places count rest unit
Writes_end count start now i rest left unit z w =
    sym (w.text ∙ ap (λ l. now ++ places (count - i) l unit) z ∙ ap (λ l. now ++ l) (places_none (count - i) unit) ∙ append-nil now)

pub Writes_full : (count : ℕ) (start now : List ℕ) (rest left unit : ℕ) → Writes count start now count rest left unit → now ≡ start ++ places count rest unit
Writes_full count start now rest left unit w =
    let k : count - count ≡ 0 = omega arith in
    sym (w.text ∙ ap (λ j. now ++ places j left unit) k ∙ ap (λ l. now ++ l) (places_zero left unit) ∙ append-nil now)

pub digit_below : (left unit : ℕ) → left < unit → left * 10 / unit < 10
digit_below left unit h = div_below (left * 10) unit 10 (omega arith) (omega arith)

pub time_text_is : (fs unit : ℤ) (m u : ℕ) (whole now text : List ℕ) → m ≡ unsigned_abs fs → u ≡ unsigned_abs unit → whole ≡ minus_text (is_negative fs) ++ decimal (m / u) → now ≡ whole ++ decimals_text (m % u) u → text ≡ now → text ≡ time_text_of fs unit
unfolding time_text_of
time_text_is fs unit m u whole now text a b d e f =
    f ∙ e ∙ ap (λ l. l ++ decimals_text (m % u) u) d
    ∙ append_assoc (minus_text (is_negative fs)) (decimal (m / u)) (decimals_text (m % u) u) ∙ rw (a, b) refl

-- ---- the number that the places are

pub length-places : (k r u : ℕ) → length (places k r u) ≤ k
length-places zero r u = rw (places_zero r u) (lit≤ tt)
length-places (suc k) zero u = rw (places_none (suc k) u) (omega arith)
length-places (suc k) (suc r) u =
    let i = length-places k (suc r * 10 % u) u in
    rw (places_more k (suc r) u (omega arith)) (omega arith)

pub digit_glyph : (d : ℕ) → d < 10 → (is_ascii_digit (48 + d) ≡ true) × (digit_value (48 + d) ≡ d)
digit_glyph d h = grind (arith, nat_tests)

pub all_digits-places : (k r u : ℕ) → r < u → all_ascii_digits (places k r u) ≡ true
all_digits-places zero r u h = rw (places_zero r u) refl
all_digits-places (suc k) zero u h = rw (places_none (suc k) u) refl
all_digits-places (suc k) (suc r) u h =
    let d = digit_glyph (suc r * 10 / u) (digit_below (suc r) u h) in
    let i = all_digits-places k (suc r * 10 % u) u (mod_below (suc r * 10) u (omega arith)) in
    rw (places_more k (suc r) u (omega arith)) (all_digits-cons (48 + suc r * 10 / u) (places k (suc r * 10 % u) u) d.0 ∙ i)

-- one digit more of the division
pub digit_step : (a r u d s p : ℕ) → d * u + s ≡ r * 10 → ((a * 10 + d) * u + s) * p ≡ (a * u + r) * (10 * p)
digit_step a r u d s p h =
    let e : (a * 10 + d) * u + s ≡ a * u * 10 + (d * u + s) = grind arith in
    let f : a * u * 10 + (d * u + s) ≡ (a * u + r) * 10 = rw h (grind arith) in
    ap (λ x. x * p) (e ∙ f) ∙ mul_assoc (a * u + r) 10 p

-- a division that comes out even within k places is written exactly
pub digits_value-places : (k r u a : ℕ) → r < u → (r * 10 ^ k) % u ≡ 0 → digits_value_after 10 a (places k r u) * u ≡ (a * u + r) * 10 ^ length (places k r u)
digits_value-places zero r u a h z =
    let e : r ≡ 0 = sym (mod-eq_of_lt h) ∙ (let q : r * 10 ^ 0 ≡ r = omega arith in ap (λ x. x % u) (sym q)) ∙ z in
    rw (places_zero r u, e) (omega arith)
digits_value-places (suc k) zero u a h z = rw (places_none (suc k) u) (omega arith)
digits_value-places (suc k) (suc r) u a h z =
    let n = suc r * 10 in
    let s = n % u in
    let d = n / u in
    let below = mod_below n u (omega arith) in
    let g = digit_glyph d (digit_below (suc r) u h) in
    let t : suc r * 10 ^ suc k ≡ n * 10 ^ k = ap (λ x. suc r * x) (pow-succ' 10 k) ∙ sym (mul_assoc (suc r) 10 (10 ^ k)) in
    let y : (s * 10 ^ k) % u ≡ 0 = mul-mod_first n (10 ^ k) u ∙ ap (λ x. x % u) (sym t) ∙ z in
    let i = digits_value-places k s u (a * 10 + d) below y in
    let w : d * u + s ≡ n = div-add-mod' n u in
    let l = length (places k s u) in
    let m = digit_step a (suc r) u d s (10 ^ l) w in
    let v : 10 ^ suc l ≡ 10 * 10 ^ l = pow-succ' 10 l in
    let e = places_more k (suc r) u (omega arith) in
    let front : digits_value_after 10 a (places (suc k) (suc r) u) * u ≡ digits_value_after 10 (a * 10 + d) (places k s u) * u =
    ap (λ x. digits_value_after 10 a x * u) e ∙ ap (λ x. digits_value_after 10 (a * 10 + x) (places k s u) * u) g.1 in
    let back : (a * u + suc r) * (10 * 10 ^ l) ≡ (a * u + suc r) * 10 ^ length (places (suc k) (suc r) u) =
    ap (λ x. (a * u + suc r) * x) (sym v) ∙ ap (λ x. (a * u + suc r) * 10 ^ length x) (sym e) in
    front ∙ i ∙ m ∙ back
