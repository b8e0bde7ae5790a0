-- Laws above the definitions that compute: a text is a number where parts spell it, and means their value to nearest;
-- a number of units is the nearest time; and a time's text is read back as that time.
-- Each is a clause of a function of `number_laws`.
use Rattle.std.specs.Prelude.{◌≡◌, ◌↔◌, ℕ, ◌*◌, ◌^◌, ◌<◌, ◌≤◌, Bool, ◌==◌, ◌||◌, IsTrue, List, length, Ok, Err, ℤ, unsigned_abs}
use Rattle.std.specs.Char.{is_ascii_digit}
use Rattle.std.specs.Int.{is_negative}
use Rattle.std.specs.List.{list_all}
use Rattle.sdc_base.specs.Number.{Number, Parts, spelling, Fits, is_minus, is_whole, numerator, denominator, IsNearest, with_sign, read_number}
use Rattle.sdc_base.specs.Time.{IsUnit, time_of, time_text_of}
use Rattle.sdc_base.specs.declared.fixed.NumberError.TheVariants.{NumberForm, NumberRange}

-- the number that the parts mean: of their sign and value, rounded to nearest, and whole by its form
pub record Means (p : Parts) (n : Number) : Type 0 where
  pub value : IsNearest (numerator p) (denominator p) (unsigned_abs n.scaled)
  pub sign : n.scaled ≡ with_sign (is_minus p.sign) (unsigned_abs n.scaled)
  pub below : unsigned_abs n.scaled < 10 ^ 24
  pub whole : n.whole ≡ is_whole p

-- parts that fit spell the text
pub record Spells (p : Parts) (text : List ℕ) : Type 0 where
  pub spelled : spelling p ≡ text
  pub fits : Fits p

-- what is read is spelled by parts that fit, and means what they mean
abbrev pub ReadIsSpelled : List ℕ → Type 0
ReadIsSpelled text = (n : Number) → read_number text ≡ Ok n → (p : Parts) × Spells p text × Means p n

-- what parts that fit spell is read, and means what they mean, where their rounded magnitude is below 10 ^ 15
abbrev pub SpelledIsRead : List ℕ → Type 0
SpelledIsRead text =
    (p : Parts) (m : ℕ) → Spells p text → IsNearest (numerator p) (denominator p) m → m < 10 ^ 24 →
    (n : Number) × (read_number text ≡ Ok n) × Means p n

-- and is out of range exactly where that magnitude is not
abbrev pub RangeIsExact : List ℕ → Type 0
RangeIsExact text =
    (p : Parts) (m : ℕ) → Spells p text → IsNearest (numerator p) (denominator p) m →
    (read_number text ≡ Err NumberRange) ↔ (10 ^ 24 ≤ m)

-- and the form is refused exactly where no parts that fit spell the text
abbrev pub FormIsExact : List ℕ → Type 0
FormIsExact text = (read_number text ≡ Err NumberForm) ↔ ((p : Parts) → Spells p text → ⊥)

-- a number of units is a time of its sign, to the nearest femtosecond, and of at most 10 ^ 16 fs
pub record IsTime (n : Number) (unit fs : ℤ) : Type 0 where
  pub value : IsNearest (unsigned_abs n.scaled * unsigned_abs unit) (10 ^ 9) (unsigned_abs fs)
  pub sign : fs ≡ with_sign (is_negative n.scaled) (unsigned_abs fs)
  pub below : unsigned_abs fs ≤ 10 ^ 16

-- `time_of` gives that time, and no other
abbrev pub TimeIsNearest : Number → ℤ → Type 0
TimeIsNearest n unit = (fs : ℤ) → (time_of n unit ≡ Ok fs) ↔ IsTime n unit fs

-- and is out of range exactly where the rounded magnitude is above 10 ^ 16 fs
abbrev pub TimeRangeIsExact : Number → ℤ → Type 0
TimeRangeIsExact n unit =
    (m : ℕ) → IsNearest (unsigned_abs n.scaled * unsigned_abs unit) (10 ^ 9) m →
    (time_of n unit ≡ Err NumberRange) ↔ (10 ^ 16 < m)

-- the text of a time is read back as that time
pub record ReadsBack (fs unit : ℤ) : Type 0 where
  pub number : Number
  pub read : read_number (time_text_of fs unit) ≡ Ok number
  pub time : time_of number unit ≡ Ok fs

-- a byte of a time's text: a digit, a minus or a point
abbrev pub is_time_byte : ℕ → Bool
is_time_byte b = is_ascii_digit b || b == 45 || b == 46

-- the text is one plain word
pub record IsTimeText (text : List ℕ) : Type 0 where
  pub bytes : IsTrue (list_all is_time_byte text)
  pub some : 0 < length text

-- a time of any 64 bits has a text of such bytes
abbrev pub TimeTextIsPlain : ℤ → ℤ → Type 0
TimeTextIsPlain fs unit = IsUnit unit → unsigned_abs fs ≤ 2 ^ 63 → IsTimeText (time_text_of fs unit)

abbrev pub TimeTextReadsBack : ℤ → ℤ → Type 0
TimeTextReadsBack fs unit = IsUnit unit → unsigned_abs fs ≤ 10 ^ 16 → ReadsBack fs unit
