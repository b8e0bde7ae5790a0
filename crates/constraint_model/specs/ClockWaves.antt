-- Waveforms of clocks by whole femtoseconds (SDC 2.1, create_clock): the plain one of a period, and one of two edges.
-- The bounds are this project's own.
use Rattle.std.specs.Prelude.{◌+◌, ◌-◌, ◌/◌, ◌%◌, ◌^◌, ◌&&◌, ℕ, ℤ, pos, Option, Some, None, nat_lt, if◌then◌else◌, ◌<◌, ◌+ℤ◌, ◌≤ℤ◌, ◌<ℤ◌}
use Rattle.timing_types.specs.declared.clocks.Wave.{Wave}

-- the longest time of a clock, 10^12 fs
abbrev pub longest_time : ℕ
longest_time = 10 ^ 12

-- the waveform of a clock whose period alone is given
abbrev pub plain_wave : ℕ → Wave
plain_wave period = record { period = pos period; rise = pos 0; fall = pos (period / 2) }

-- both edges moved down by whole periods until the rise is below the period
abbrev pub moved_down : ℕ → ℕ → ℕ → Wave
moved_down period rise fall = record { period = pos period; rise = pos (rise % period); fall = pos (fall - (rise - rise % period)) }

-- the waveform of these edges: the fall after the rise, and before the next rise
abbrev pub wave_within : ℕ → ℕ → ℕ → Option Wave
wave_within period rise fall =
    if nat_lt rise fall && nat_lt fall (rise + period) then Some (moved_down period rise fall) else None

-- a waveform that a line can give: a period of 2 to 10^12 fs, in which it rises, and one fall, after the rise and
-- before the next one, at 10^12 fs at most
pub record IsPrintableWave (wave : Wave) : Type 0 where
  pub period : (pos 2 ≤ℤ wave.period) × (wave.period ≤ℤ pos (10 ^ 12))
  pub rise : (pos 0 ≤ℤ wave.rise) × (wave.rise <ℤ wave.period)
  pub fall : (wave.rise <ℤ wave.fall) × (wave.fall <ℤ (wave.rise +ℤ wave.period)) × (wave.fall ≤ℤ pos (10 ^ 12))
