-- What a list of modes must have so that its clocks can be merged by their own waveforms alone. This project's own.
-- Every clock is primary, each has its wave, and the clocks can be counted. Two modes may have the same clocks.
use Rattle.std.specs.Prelude.{◌≡◌, ◌+◌, ◌^◌, ◌≤◌, ℕ, List, [], ◌∷◌, ◌++◌, length, map}
use Rattle.std.specs.List.{AllZip}
use Rattle.timing_types.specs.declared.clocks.Clock.{Clock}
use Rattle.timing_types.specs.declared.clocks.Wave.{Wave}
use Rattle.timing_types.specs.declared.clocks.Form.{Form}
use Rattle.timing_types.specs.declared.clocks.Form.TheVariants.{Primary, Generated}
use Rattle.timing_types.specs.declared.modes.Mode.{Mode}
use Rattle.timing_types.specs.declared.views.View.{View}
use Rattle.constraint_model.specs.ModeLines.{without_line}

abbrev pub IsPrimary : Form → Type 0
IsPrimary (Primary wave) = Unit {0}
IsPrimary (Generated source master shape invert) = ⊥

abbrev pub ArePrimary : List Clock → Type 0
ArePrimary [] = Unit {0}
ArePrimary (clock ∷ clocks) = IsPrimary clock.form × ArePrimary clocks

-- no mode has a generated clock
abbrev pub ModesArePrimary : List View → Type 0
ModesArePrimary [] = Unit {0}
ModesArePrimary (view ∷ views) = ArePrimary view.mode.clocks × ModesArePrimary views

-- each clock of each mode has a wave
abbrev pub HaveWaves : List View → Type 0
HaveWaves [] = Unit {0}
HaveWaves (view ∷ views) = (length view.waves ≡ length view.mode.clocks) × HaveWaves views

-- how many clocks the modes have
abbrev pub clock_count : List View → ℕ
clock_count [] = 0
clock_count (view ∷ views) = length view.mode.clocks + clock_count views

-- the clocks of these modes can be merged
pub record ArePlain (views : List View) : Type 0 where
  pub primary : ModesArePrimary views
  pub waves : HaveWaves views
  pub few : clock_count views ≤ 2 ^ 32

-- the waveform that a clock has of its own
abbrev pub own_wave : Form → List Wave
own_wave (Primary wave) = wave ∷ []
own_wave (Generated source master shape invert) = []

abbrev pub own_waves : List Clock → List Wave
own_waves [] = []
own_waves (clock ∷ clocks) = own_wave clock.form ++ own_waves clocks

-- a mode over no pin
abbrev pub view_of : Mode → View
view_of mode = record { mode = mode; waves = own_waves mode.clocks; arrivals = record { at = [] }; clock_map = [] }

abbrev pub views_of : List Mode → List View
views_of modes = map view_of modes

-- how many clocks the modes have
abbrev pub clocks_in : List Mode → ℕ
clocks_in [] = 0
clocks_in (mode ∷ modes) = length mode.clocks + clocks_in modes

-- two modes have the same clocks apart from lines, with the same waves
pub record HaveSameClocks (first second : View) : Type 0 where
  pub clocks : AllZip (λ clock other. without_line clock ≡ without_line other) first.mode.clocks second.mode.clocks
  pub waves : first.waves ≡ second.waves
