-- What the scan of a number's text finds: small words for the private functions that read it.
use Rattle.std.specs.Prelude.{◌+◌, ◌*◌, ◌^◌, Result, ℕ, Bool, nat_lt, nat_le, ◌&&◌, if◌then◌else◌, List, length, Option, Some, None}
use Rattle.std.specs.Str.{all_ascii_digits}
use Rattle.std.specs.Str.Parse.{digits_value}
use Rattle.sdc_base.specs.Number.{nearest, in_range, Exponent, is_exponent, raised, lowered}
use Rattle.sdc_base.specs.declared.fixed.NumberError.{NumberError}
use Rattle.sdc_base.specs.declared.number_text.Power.{Power}

-- the value of one or more digits, where it is at most 30
abbrev pub small_value : List ℕ → Option ℕ
small_value digits =
    if all_ascii_digits digits && nat_lt 0 (length digits) && nat_le (digits_value 10 digits) 30
    then Some (digits_value 10 digits) else None

-- what an exponent does, where it fits
abbrev pub power_of : Option Exponent → Option Power
power_of e = if is_exponent e then Some (record { raised = raised e; lowered = lowered e }) else None

abbrev pub power_with : Bool → ℕ → Power
power_with negative magnitude =
    record { raised = if negative then 0 else magnitude; lowered = if negative then magnitude else 0 }

-- the magnitude of a number with these digits, so many of them after its point, and an exponent that does so much
abbrev pub magnitude_of : ℕ → ℕ → Power → Result ℕ NumberError
magnitude_of digits decimals power =
    in_range (nearest (digits * 10 ^ (9 + power.raised)) (10 ^ (decimals + power.lowered)))
