-- The waveform of a clock from the texts of its command (SDC 2.1, create_clock). Times are in nanoseconds there, and in
-- whole femtoseconds here. The bounds are this project's own.
use Rattle.std.specs.Prelude.{◌-◌, ◌&&◌, ℕ, ℤ, pos, negsuc, List, [], ◌∷◌, Option, Some, None, Result, Ok, Err, nat_le, if◌then◌else◌}
use Rattle.std.specs.Option.{option_and_then}
use Rattle.sdc_base.specs.Number.{Number, read_number}
use Rattle.sdc_base.specs.Time.{time_of}
use Rattle.sdc_base.specs.declared.fixed.NumberError.{NumberError}
use Rattle.timing_types.specs.declared.clocks.Wave.{Wave}
use Rattle.tcl_model.specs.ListReading.{items_of}
use Rattle.constraint_model.specs.ClockWaves.{longest_time, wave_within}

-- the time of a number of nanoseconds
abbrev pub time_in : Result ℤ NumberError → Option ℤ
time_in (Err _) = None
time_in (Ok time) = Some time

abbrev pub nanoseconds : Result Number NumberError → Option ℤ
nanoseconds (Err _) = None
nanoseconds (Ok number) = time_in (time_of number (pos 1000000))

-- a time from a least one to the longest
abbrev pub limited_time : ℕ → ℤ → Option ℕ
limited_time least (pos time) = if nat_le least time && nat_le time longest_time then Some time else None
limited_time least (negsuc _) = None

-- the time of a text in nanoseconds, from a least one to the longest
abbrev pub time_from : ℕ → List ℕ → Option ℕ
time_from least text = option_and_then (limited_time least) (nanoseconds (read_number text))

-- a period: at least 2 fs
abbrev pub period_of : List ℕ → Option ℕ
period_of text = time_from 2 text

-- the waveform of a list of two times, of the rise and of the fall
abbrev pub wave_of : ℕ → List (List ℕ) → Option Wave
wave_of period (rise ∷ fall ∷ []) =
    option_and_then (λ rise_time. option_and_then (wave_within period rise_time) (time_from 0 fall)) (time_from 0 rise)
wave_of period _ = None

-- the waveform of a text that is such a list (Tcl)
abbrev pub waveform_of : ℕ → List ℕ → Option Wave
waveform_of period text = option_and_then (wave_of period) (items_of text)
