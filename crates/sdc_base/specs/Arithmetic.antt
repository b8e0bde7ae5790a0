-- What sums, products, quotients and remainders of numbers are: exact over whole numbers, to nine decimals otherwise.
-- Division of whole numbers is Tcl's, towards minus infinity; nine decimals and the range are this project's own.
-- Read each as the text of its rule, in units of 10 ^ -9: `sum_of a b` is the number, or the error, that `a + b` gives.
use Rattle.std.specs.Prelude.{◌/◌, ◌^◌, Bool, true, false, not, ◌==◌, nat_lt, ◌&&◌, if◌then◌else◌, Result, Ok, Err, ℤ, pos, ◌+ℤ◌, ◌-ℤ◌, ◌*ℤ◌, unsigned_abs}
use Rattle.std.specs.Int.{is_negative, div_ceil}
use Rattle.sdc_base.specs.Number.{Number, nearest, with_sign}
use Rattle.sdc_base.specs.declared.fixed.NumberError.{NumberError}
use Rattle.sdc_base.specs.declared.fixed.NumberError.TheVariants.{NumberRange, DivideByZero}

-- one of the two is negative, and the other is not
abbrev pub signs_differ : ℤ → ℤ → Bool
signs_differ a b = if is_negative a then not (is_negative b) else is_negative b

-- n / d to the nearest whole number, ties away from zero
abbrev pub rounded : ℤ → ℤ → ℤ
rounded n d = with_sign (signs_differ n d) (nearest (unsigned_abs n) (unsigned_abs d))

-- n / d towards minus infinity: a magnitude is rounded up where the quotient is negative
abbrev pub floored : ℤ → ℤ → ℤ
floored n d =
    if signs_differ n d then with_sign true (div_ceil (unsigned_abs n) (unsigned_abs d))
    else with_sign false (unsigned_abs n / unsigned_abs d)

-- the number of so many units, where its magnitude is below 10 ^ 15
abbrev pub number_in : Bool → ℤ → Result Number NumberError
number_in whole scaled =
    if nat_lt (unsigned_abs scaled) (10 ^ 24) then Ok (record { scaled = scaled; whole = whole }) else Err NumberRange

abbrev pub both_whole : Number → Number → Bool
both_whole a b = a.whole && b.whole

unfoldable pub sum_of : Number → Number → Result Number NumberError
sum_of a b = number_in (both_whole a b) (a.scaled +ℤ b.scaled)

unfoldable pub difference_of : Number → Number → Result Number NumberError
difference_of a b = number_in (both_whole a b) (a.scaled -ℤ b.scaled)

-- a product of whole numbers has no decimals, so that nothing of it is rounded
unfoldable pub product_of : Number → Number → Result Number NumberError
product_of a b = number_in (both_whole a b) (rounded (a.scaled *ℤ b.scaled) (pos (10 ^ 9)))

-- a quotient of whole numbers is whole
unfoldable pub quotient_of : Number → Number → Result Number NumberError
quotient_of a b =
    if unsigned_abs b.scaled == 0 then Err DivideByZero
    else (if both_whole a b then number_in true (floored a.scaled b.scaled *ℤ pos (10 ^ 9))
    else number_in false (rounded (a.scaled *ℤ pos (10 ^ 9)) b.scaled))

-- what the quotient of whole numbers leaves of the dividend
unfoldable pub remainder_of : Number → Number → Result Number NumberError
remainder_of a b =
    if unsigned_abs b.scaled == 0 then Err DivideByZero
    else Ok (record { scaled = a.scaled -ℤ (floored a.scaled b.scaled *ℤ b.scaled); whole = true })
