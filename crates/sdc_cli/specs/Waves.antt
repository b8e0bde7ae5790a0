-- Periods as the reader of mode files makes them. This project's own word.
-- A period is 2 fs to 10^12 fs.
use Rattle.std.specs.Prelude.{ℕ, ◌≤◌, ◌^◌}

-- a period of a clock
abbrev pub IsPeriod : ℕ → Type 0
IsPeriod period = (2 ≤ period) × (period ≤ 10 ^ 12)
