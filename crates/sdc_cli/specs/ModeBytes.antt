-- What reading the bytes of a mode file answers: what its commands make, and its mode, which may have at most so
-- many clocks. This project's own words.
use Rattle.std.specs.Prelude.{◌≡◌, ℕ, List, Result, Ok, Err}
use Rattle.timing_types.specs.declared.modes.Mode.{Mode}
use Rattle.mode_model.specs.ClockFile.{SoFar, clock_mode}
use Rattle.sdc_model.specs.ModeFiles.{within_limit}
use Rattle.mode_model.specs.ModeMeaning.{Said, SaysMode}

-- the mode of what was made, or the same refusal
abbrev pub made_mode : {E : Type 0} → Result SoFar E → Result Mode E
made_mode (Ok made) = Ok (clock_mode made)
made_mode (Err refusal) = Err refusal

-- the mode that the bytes say, where its clocks are not more than these, or the fault
abbrev pub SaysAtMost : ℕ → List ℕ → Said → Type 0
SaysAtMost most bytes outcome = (said : Said) × SaysMode bytes said × (outcome ≡ within_limit most 0 said)
