-- What the clocks and clock groups of a mode file are so far, and the mode of them (SDC 2.1). Which of it is read here
-- is this project's own: clocks without sources, each with a name and a waveform of its own, and groups of clocks.
-- It reads: a clock by its line, name and waveform, and a mode that has the clocks and the pairs that their groups
-- make.
use Rattle.std.specs.Prelude.{◌&&◌, ℕ, pos, Bool, false, List, [], length, Option, Some, None, nat_lt}
use Rattle.std.specs.List.{list_all, list_any}
use Rattle.std.specs.Option.{option_and_then}
use Rattle.timing_types.specs.declared.clocks.Clock.{Clock}
use Rattle.timing_types.specs.declared.clocks.Pair.{Pair}
use Rattle.timing_types.specs.declared.clocks.Wave.{Wave}
use Rattle.timing_types.specs.declared.clocks.Form.TheVariants.{Primary}
use Rattle.timing_types.specs.declared.clocks.Early.{Early}
use Rattle.timing_types.specs.declared.modes.Mode.{Mode}
use Rattle.text_model.specs.Bytes.{is_name_byte}
use Rattle.mode_model.specs.ClockGroups.{all_set_apart, exclusive_pairs}
use Rattle.mode_model.specs.Waveform.{period_of, waveform_of}
use Rattle.constraint_model.specs.ClockWaves.{plain_wave}
use Rattle.text_model.specs.Words.{same_text}

-- letters, digits and `_`, at least one
abbrev pub is_name : List ℕ → Bool
is_name text = nat_lt 0 (length text) && list_all is_name_byte text

-- a clock has the name
abbrev pub is_taken : List ℕ → List Clock → Bool
is_taken name clocks = list_any (λ clock. same_text clock.name name) clocks

-- no value for either transition
abbrev pub no_value : Early
no_value = record { rise = pos 0; fall = pos 0 }

-- a clock without sources, latency and uncertainty
abbrev pub virtual_clock : ℕ → List ℕ → Wave → Clock
virtual_clock line name wave = record {
  line = line;
  name = name;
  sources = [];
  form = Primary wave;
  latency = record {
    source_early = no_value;
    source_late = no_value;
    network_early = no_value;
    network_late = no_value;
  };
  setup_uncertainty = pos 0;
  hold_uncertainty = pos 0;
  propagated = false;
}

-- the clocks so far, and the groups of each `set_clock_groups` by the places of their clocks, none if it has no effect
pub record SoFar : Type 0 where
  pub clocks : List Clock
  pub groups : List (List (List ℕ))

-- nothing yet
abbrev pub nothing : SoFar
nothing = record { clocks = []; groups = [] }

-- the waveform of a period's text, and of a waveform's text where there is one
abbrev pub wave_given : List ℕ → Option (List ℕ) → Option Wave
wave_given period None = option_and_then (λ time. Some (plain_wave time)) (period_of period)
wave_given period (Some waveform) = option_and_then (λ time. waveform_of time waveform) (period_of period)

-- the exclusive pairs of so many clocks
abbrev pub pairs_apart : ℕ → List (List (List ℕ)) → List Pair
pairs_apart count commands = exclusive_pairs (all_set_apart count commands) count

-- a mode of clocks and exclusive pairs alone
abbrev pub clock_mode : SoFar → Mode
clock_mode so_far = record {
  clocks = so_far.clocks;
  exclusive = pairs_apart (length so_far.clocks) so_far.groups;
  cases = [];
  disabled = [];
  delays = [];
  exceptions = [];
  kept = [];
  notes = [];
}
