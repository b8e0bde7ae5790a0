-- Counts of faults and of calls. This project's own.
-- A count is a u64 and stands at its last value once it is there, so a fault is known by: it rose, or it stands there.
use Rattle.std.specs.Prelude.{◌≡◌, ◌+◌, ◌-◌, ◌^◌, ◌<◌, ◌⊎◌, ℕ, List, Bool, ◌==◌, min}
use Rattle.std.specs.List.{list_any}

-- the last value of a count
abbrev pub last_count : ℕ
last_count = 2 ^ 64 - 1

-- one more, up to the last value
abbrev pub next_count : ℕ → ℕ
next_count count = min (count + 1) last_count

-- the count rose in a call, or stands at its last value
abbrev pub Rose : ℕ → ℕ → Type 0
Rose before after = (before < after) ⊎ (after ≡ last_count)

-- the count of faults of what never fails
abbrev pub no_faults : {Form : Type 0} → Form → ℕ
no_faults it = 0

-- whether the number of a call is one of these
abbrev pub is_listed : List ℕ → ℕ → Bool
is_listed numbers number = list_any (λ listed. listed == number) numbers
