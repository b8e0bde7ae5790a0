-- What a decimal number's text is and what number it means: an optional sign, digits with at most one point,
-- an optional exponent. The form is Tcl's with limits of this project; the value is in units of 10 ^ -9.
-- Read it from `Parts` on: `spelling` writes the parts, `is_number` says what fits, `number_of` gives the value.
use Rattle.std.specs.Prelude.{◌≡◌, ℕ, ◌+◌, ◌*◌, ◌/◌, ◌%◌, ◌^◌, ◌<◌, ◌≤◌, Bool, true, false, ◌==◌, nat_lt, nat_le, ◌&&◌, ◌||◌, if◌then◌else◌, IsTrue, List, [], ◌∷◌, ◌++◌, length, drop, Option, Some, None, is_none, Result, Ok, Err, ℤ, pos, neg_ℤ, unsigned_abs}
use Rattle.std.specs.Char.{is_ascii_digit}
use Rattle.std.specs.List.{prefix_len, take_while}
use Rattle.std.specs.Str.{all_ascii_digits}
use Rattle.std.specs.Str.Parse.{digits_value}
use Rattle.sdc_base.specs.declared.fixed.NumberError.{NumberError}
use Rattle.sdc_base.specs.declared.fixed.NumberError.TheVariants.{NumberForm, NumberRange}

-- the number scaled / 10 ^ 9, and whether it was written or computed as a whole number
pub record Number : Type 0 where
  pub scaled : ℤ
  pub whole : Bool

-- the numbers that there are: of magnitude below 10 ^ 15, and without decimals where whole
pub record IsNumber (n : Number) : Type 0 where
  pub below : unsigned_abs n.scaled < 10 ^ 24
  pub decimals : n.whole ≡ true → unsigned_abs n.scaled % 10 ^ 9 ≡ 0

pub data Sign : Type 0 where
  unsigned : Sign
  plus : Sign
  minus : Sign

-- an exponent's letter, its sign and its digits
pub record Exponent : Type 0 where
  pub mark : ℕ
  pub sign : Sign
  pub digits : List ℕ

-- what a number's text is made of: the digits before the point, and those after it where there is a point
pub record Parts : Type 0 where
  pub sign : Sign
  pub before : List ℕ
  pub fraction : Option (List ℕ)
  pub exponent : Option Exponent

abbrev pub sign_text : Sign → List ℕ
sign_text unsigned = []
sign_text plus = 43 ∷ []
sign_text minus = 45 ∷ []

abbrev pub point_text : Option (List ℕ) → List ℕ
point_text None = []
point_text (Some digits) = 46 ∷ digits

abbrev pub exponent_text : Option Exponent → List ℕ
exponent_text None = []
exponent_text (Some e) = e.mark ∷ (sign_text e.sign ++ e.digits)

-- the text that the parts make
abbrev pub spelling : Parts → List ℕ
spelling p = sign_text p.sign ++ (p.before ++ (point_text p.fraction ++ exponent_text p.exponent))

abbrev pub decimals_in : Option (List ℕ) → List ℕ
decimals_in None = []
decimals_in (Some digits) = digits

-- an `e` or `E`, and one or more digits of a value of at most 30
abbrev pub is_exponent : Option Exponent → Bool
is_exponent None = true
is_exponent (Some e) =
    (e.mark == 101 || e.mark == 69) && all_ascii_digits e.digits && nat_lt 0 (length e.digits)
    && nat_le (digits_value 10 e.digits) 30

-- how many digits stand before the exponent: at least one and at most 30
abbrev pub is_count : ℕ → Bool
is_count n = nat_lt 0 n && nat_le n 30

-- the parts of a number: digits, not too many, and an exponent that is not too great
abbrev pub is_number : Parts → Bool
is_number p =
    is_exponent p.exponent && is_count (length p.before + length (decimals_in p.fraction))
    && all_ascii_digits p.before && all_ascii_digits (decimals_in p.fraction)

abbrev pub Fits : Parts → Type 0
Fits p = IsTrue (is_number p)

abbrev pub is_minus : Sign → Bool
is_minus unsigned = false
is_minus plus = false
is_minus minus = true

-- the powers of ten by which an exponent multiplies and divides
abbrev pub raised : Option Exponent → ℕ
raised None = 0
raised (Some e) = if is_minus e.sign then 0 else digits_value 10 e.digits

abbrev pub lowered : Option Exponent → ℕ
lowered None = 0
lowered (Some e) = if is_minus e.sign then digits_value 10 e.digits else 0

-- the magnitude is this number divided by the next, in units of 10 ^ -9
abbrev pub numerator : Parts → ℕ
numerator p = digits_value 10 (p.before ++ decimals_in p.fraction) * 10 ^ (9 + raised p.exponent)

abbrev pub denominator : Parts → ℕ
denominator p = 10 ^ (length (decimals_in p.fraction) + lowered p.exponent)

-- r is n / d rounded to the nearest whole number, and up at a tie
abbrev pub IsNearest : ℕ → ℕ → ℕ → Type 0
IsNearest n d r = (2 * (d * r) ≤ 2 * n + d) × (2 * n + d < 2 * (d * r) + 2 * d)

unfoldable pub nearest : ℕ → ℕ → ℕ
nearest n d = (2 * n + d) / (2 * d)

-- the number of this sign and magnitude
abbrev pub with_sign : Bool → ℕ → ℤ
with_sign negative m = if negative then neg_ℤ (pos m) else pos m

-- a magnitude in units of 10 ^ -9, where it is below 10 ^ 15
abbrev pub in_range : ℕ → Result ℕ NumberError
in_range m = if nat_lt m (10 ^ 24) then Ok m else Err NumberRange

abbrev pub number_with : Bool → Bool → Result ℕ NumberError → Result Number NumberError
number_with negative whole (Ok m) = Ok (record { scaled = with_sign negative m; whole = whole })
number_with negative whole (Err e) = Err e

-- whole where there is neither a point nor an exponent
abbrev pub is_whole : Parts → Bool
is_whole p = is_none p.fraction && is_none p.exponent

-- the number that the parts mean, rounded past the ninth decimal, ties away from zero
abbrev pub number_of : Parts → Result Number NumberError
number_of p =
    number_with (is_minus p.sign) (is_whole p) (in_range (nearest (numerator p) (denominator p)))

abbrev pub sign_of : List ℕ → Sign
sign_of [] = unsigned
sign_of (b ∷ bs) = if b == 43 then plus else (if b == 45 then minus else unsigned)

abbrev pub after_sign : List ℕ → List ℕ
after_sign [] = []
after_sign (b ∷ bs) = if b == 43 || b == 45 then bs else b ∷ bs

abbrev pub after_digits : List ℕ → List ℕ
after_digits text = drop (prefix_len is_ascii_digit text) text

-- the digits after a point, where the text begins with a point
abbrev pub after_of : List ℕ → Option (List ℕ)
after_of [] = None
after_of (b ∷ bs) = if b == 46 then Some (take_while is_ascii_digit bs) else None

abbrev pub after_after : List ℕ → List ℕ
after_after [] = []
after_after (b ∷ bs) = if b == 46 then after_digits bs else b ∷ bs

-- all of the text as an exponent, whatever its letter
abbrev pub exponent_of : List ℕ → Option Exponent
exponent_of [] = None
exponent_of (b ∷ bs) = Some (record { mark = b; sign = sign_of bs; digits = after_sign bs })

-- the only parts that can spell the text, if any do
unfoldable pub parts_of : List ℕ → Parts
parts_of text =
    let rest = after_digits (after_sign text) in
    record {
      sign = sign_of text;
      before = take_while is_ascii_digit (after_sign text);
      fraction = after_of rest;
      exponent = exponent_of (after_after rest);
    }

-- the number that the text means, or its first fault: the form before the range
unfoldable pub read_number : List ℕ → Result Number NumberError
read_number text = if is_number (parts_of text) then number_of (parts_of text) else Err NumberForm
