-- Times as whole femtoseconds: what a number of units is in femtoseconds, and how a time is written in units.
-- The units are those of Liberty's time_unit; the limit of 10 ^ 16 fs and the rounding are this project's own.
use Rattle.std.specs.Prelude.{◌≡◌, ℕ, zero, suc, ◌+◌, ◌*◌, ◌/◌, ◌%◌, ◌^◌, ◌⊎◌, Bool, ◌==◌, nat_le, if◌then◌else◌, List, [], ◌∷◌, ◌++◌, Result, Ok, Err, ℤ, pos, unsigned_abs, decimal}
use Rattle.std.specs.Int.{is_negative}
use Rattle.sdc_base.specs.Number.{Number, nearest, with_sign}
use Rattle.sdc_base.specs.declared.fixed.NumberError.{NumberError}
use Rattle.sdc_base.specs.declared.fixed.NumberError.TheVariants.{NumberRange}

-- a library's time unit in femtoseconds: 1 ps, 10 ps, 100 ps or 1 ns
abbrev pub IsUnit : ℤ → Type 0
IsUnit u = (u ≡ pos 1000) ⊎ ((u ≡ pos 10000) ⊎ ((u ≡ pos 100000) ⊎ (u ≡ pos 1000000)))

-- a time of this sign and magnitude, where it is at most 10 ^ 16 fs
abbrev pub time_within : Bool → ℕ → Result ℤ NumberError
time_within negative m = if nat_le m (10 ^ 16) then Ok (with_sign negative m) else Err NumberRange

-- the number of units in femtoseconds, to the nearest, ties away from zero
unfoldable pub time_of : Number → ℤ → Result ℤ NumberError
time_of n unit =
    time_within (is_negative n.scaled) (nearest (unsigned_abs n.scaled * unsigned_abs unit) (10 ^ 9))

-- the digits of r / u after the point, at most so many, by long division; they end where nothing is left
unfoldable pub places : ℕ → ℕ → ℕ → List ℕ
places zero r u = []
places (suc k) r u = if r == 0 then [] else (48 + r * 10 / u) ∷ places k (r * 10 % u) u

-- the point and what stands after it, where there is anything left; a unit has at most six places
abbrev pub decimals_text : ℕ → ℕ → List ℕ
decimals_text r u = if r == 0 then [] else 46 ∷ places 6 r u

abbrev pub minus_text : Bool → List ℕ
minus_text negative = if negative then 45 ∷ [] else []

-- a time as its number of units: decimals only where needed, and no zero at their end
unfoldable pub time_text_of : ℤ → ℤ → List ℕ
time_text_of fs unit =
    let m = unsigned_abs fs in
    let u = unsigned_abs unit in
    minus_text (is_negative fs) ++ (decimal (m / u) ++ decimals_text (m % u) u)
