-- Laws above the definitions that compute: a quotient of whole numbers is a floor, and what it leaves has the
-- divisor's sign; what is rounded is nearest; a product of whole numbers is exact; and a number's text is read back
-- as that number. Each is a clause of a function of `number_laws`.
use Rattle.std.specs.Prelude.{◌≡◌, ◌↔◌, ◌^◌, ◌<◌, true, Ok, ℤ, pos, ◌-ℤ◌, ◌*ℤ◌, ◌≤ℤ◌, ◌<ℤ◌, unsigned_abs}
use Rattle.sdc_base.specs.Number.{Number, IsNumber, IsNearest, with_sign, read_number}
use Rattle.sdc_base.specs.NumberLaws.{IsTimeText}
use Rattle.sdc_base.specs.Arithmetic.{signs_differ, rounded, floored}
use Rattle.sdc_base.specs.WrittenNumber.{number_text_of}

-- q is n / d rounded towards minus infinity: what it leaves of n is 0 or has the sign of d, and is less than d
pub record IsFloor (n d q : ℤ) : Type 0 where
  pub over_positive : pos 0 <ℤ d → (pos 0 ≤ℤ (n -ℤ (q *ℤ d))) × ((n -ℤ (q *ℤ d)) <ℤ d)
  pub over_negative : d <ℤ pos 0 → ((n -ℤ (q *ℤ d)) ≤ℤ pos 0) × (d <ℤ (n -ℤ (q *ℤ d)))

-- `floored` gives that number, and no other
abbrev pub FlooredIsFloor : ℤ → ℤ → Type 0
FlooredIsFloor n d = (q : ℤ) → 0 < unsigned_abs d → (floored n d ≡ q) ↔ IsFloor n d q

-- r is n / d to the nearest whole number, ties away from zero, and of the sign of the quotient
pub record IsRounded (n d r : ℤ) : Type 0 where
  pub value : IsNearest (unsigned_abs n) (unsigned_abs d) (unsigned_abs r)
  pub sign : r ≡ with_sign (signs_differ n d) (unsigned_abs r)

-- `rounded` gives that number, and no other
abbrev pub RoundedIsNearest : ℤ → ℤ → Type 0
RoundedIsNearest n d = (r : ℤ) → 0 < unsigned_abs d → (rounded n d ≡ r) ↔ IsRounded n d r

-- nothing is rounded of a product of whole numbers
abbrev pub WholeProductIsExact : Number → Number → Type 0
WholeProductIsExact a b =
    IsNumber a → IsNumber b → a.whole ≡ true → b.whole ≡ true →
    rounded (a.scaled *ℤ b.scaled) (pos (10 ^ 9)) *ℤ pos (10 ^ 9) ≡ a.scaled *ℤ b.scaled

-- a number's text is read back as the number
abbrev pub NumberTextReadsBack : Number → Type 0
NumberTextReadsBack n = IsNumber n → read_number (number_text_of n) ≡ Ok n

-- and has only digits, a minus and a point
abbrev pub NumberTextIsPlain : Number → Type 0
NumberTextIsPlain n = IsNumber n → IsTimeText (number_text_of n)
