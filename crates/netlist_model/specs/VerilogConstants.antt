-- Numbers and sized constants of Verilog (IEEE 1364-2005, integer constants), unsigned, in base two, ten and sixteen.
-- It reads: the digits give bits from the leftmost on; too many are cut off at the left, and missing ones are filled in
-- there, by what is no source where the leftmost digit is `x` or `z`, and else by 0. A bit that is `x` or `z` has no
-- value.
use Rattle.std.specs.Prelude.{◌==◌, ◌||◌, ◌&&◌, ◌+◌, ◌-◌, ◌*◌, ◌/◌, ◌%◌, ◌++◌, ℕ, zero, suc, Bool, false, not, List, [], ◌∷◌, Option, Some, None, length, drop, nat_le, if◌then◌else◌}
use Rattle.std.specs.List.{flat_map, list_all, repeat}
use Rattle.source_types.specs.declared.verilog_tokens.VerilogToken.{VerilogToken}
use Rattle.source_types.specs.declared.verilog_tokens.VerilogToken.TheVariants as kind
use Rattle.text_model.specs.Bytes.{is_digit, is_letter}

-- ---- numbers

-- a digit or `_`
abbrev pub is_number_byte : ℕ → Bool
is_number_byte b = is_digit b || b == 95

-- the number after one more digit; `_` only parts digits
abbrev pub next_number : ℕ → ℕ → ℕ
next_number n b = if b == 95 then n else (n * 10) + (b - 48)

-- the number of the digits from the leftmost on, after those that gave this number
abbrev pub number_after : ℕ → List ℕ → ℕ
number_after n [] = n
number_after n (b ∷ bs) = number_after (next_number n b) bs

abbrev pub number_of : List ℕ → ℕ
number_of digits = number_after 0 digits

-- a number that begins with no zero
abbrev pub leads_nonzero : List ℕ → Bool
leads_nonzero [] = false
leads_nonzero (b ∷ bs) = not (b == 48)

-- what a number may be: the size of a constant, a bound of a range, or an index alone
abbrev pub number_kind : List ℕ → VerilogToken
number_kind digits =
    if leads_nonzero digits && nat_le 1 (number_of digits) && nat_le (number_of digits) 64 then kind.Size
    else (if nat_le (number_of digits) 999999 then kind.Number else kind.LargeNumber)

-- ---- the form of digits

-- the small letter of a letter
abbrev pub lower : ℕ → ℕ
lower b = if nat_le 65 b && nat_le b 90 then b + 32 else b

-- `b`, `d` and `h`, of either case
abbrev pub is_base_letter : ℕ → Bool
is_base_letter b = lower b == 98 || lower b == 100 || lower b == 104

-- `x`, `z` or `?`: no source
abbrev pub is_open_digit : ℕ → Bool
is_open_digit b = lower b == 120 || lower b == 122 || b == 63

-- a byte of a run that is read as digits after a base: a letter, a digit, `_` or `?`
abbrev pub is_digits_byte : ℕ → Bool
is_digits_byte b = is_letter b || is_number_byte b || b == 63

abbrev pub is_binary : ℕ → Bool
is_binary b = b == 48 || b == 49 || is_open_digit b

abbrev pub is_hexadecimal_letter : ℕ → Bool
is_hexadecimal_letter b = nat_le 97 (lower b) && nat_le (lower b) 102

abbrev pub is_hexadecimal : ℕ → Bool
is_hexadecimal b = is_digit b || is_hexadecimal_letter b || is_open_digit b

abbrev pub is_decimal : ℕ → Bool
is_decimal = is_digit

abbrev pub is_nothing : ℕ → Bool
is_nothing b = false

-- digits of a base after the first one
abbrev pub go_on : (ℕ → Bool) → List ℕ → Bool
go_on test digits = list_all (λ b. test b || b == 95) digits

-- digits of base ten: decimal ones, or one that is no source, after which only `_` may stand
abbrev pub are_decimal : ℕ → List ℕ → Bool
are_decimal b bs = if is_open_digit b then go_on is_nothing bs else (is_decimal b && go_on is_decimal bs)

-- these bytes are digits after this letter
abbrev pub are_digits : ℕ → List ℕ → Bool
are_digits letter [] = false
are_digits letter (b ∷ bs) =
    if letter == 98 then is_binary b && go_on is_binary bs
    else (if letter == 104 then is_hexadecimal b && go_on is_hexadecimal bs
    else are_decimal b bs)

-- ---- the bits of a constant

-- the lowest bits of a number, as many as said, the leftmost first
abbrev pub low_bits : ℕ → ℕ → List (Option Bool)
low_bits zero n = []
low_bits (suc count) n = low_bits count (n / 2) ++ Some ((n % 2) == 1) ∷ []

-- the value of a digit of base two or sixteen
abbrev pub digit_value : ℕ → ℕ
digit_value b = if is_digit b then b - 48 else lower b - 87

-- the bits of a digit that stands for this many
abbrev pub digit_bits : ℕ → ℕ → List (Option Bool)
digit_bits count b =
    if b == 95 then [] else (if is_open_digit b then repeat count (None ∷ []) else low_bits count (digit_value b))

-- what bits that are too few are filled with
abbrev pub filling : List (Option Bool) → Option Bool
filling [] = Some false
filling (None ∷ bits) = None
filling (Some bit ∷ bits) = Some false

-- bits cut or filled at the left
abbrev pub fitted : ℕ → List (Option Bool) → List (Option Bool)
fitted size bits = repeat (size - length bits) (filling bits ∷ []) ++ drop (length bits - size) bits

-- digits of base ten: a number, or one digit that is no source
abbrev pub decimal_bits : ℕ → List ℕ → List (Option Bool)
decimal_bits size [] = low_bits size 0
decimal_bits size (b ∷ bs) = if is_open_digit b then repeat size (None ∷ []) else low_bits size (number_of (b ∷ bs))

-- the bits of a constant of this size, letter and digits
unfoldable pub constant_bits : ℕ → ℕ → List ℕ → List (Option Bool)
constant_bits size letter digits =
    if letter == 98 then fitted size (flat_map (digit_bits 1) digits)
    else (if letter == 104 then fitted size (flat_map (digit_bits 4) digits)
    else decimal_bits size digits)
