-- The limit of a path: the greatest delay that it may have for setup, the least for hold, in whole femtoseconds. Which
-- values count is SDC 2.1's; that a setup multicycle moves the hold relation, and which one, is this project's own
-- rule. It reads: the relation of the two clock edges, as the winning exceptions change it, and all that is added to
-- it, which is called the adjustment: latencies, uncertainty and the delays outside the ports.
use Rattle.std.specs.Prelude.{◌≡◌, ◌==◌, ◌&&◌, ℕ, ℤ, pos, ◌+ℤ◌, ◌-ℤ◌, Bool, List, [], ◌∷◌, Option, Some, None, slice_get, if◌then◌else◌}
use Rattle.std.specs.Option.{option_and_then, option_map, unwrap_or}
use Rattle.timing_types.specs.declared.clocks.Clock.{Clock}
use Rattle.timing_types.specs.declared.clocks.Early.{Early}
use Rattle.timing_types.specs.declared.clocks.Wave.{Wave}
use Rattle.timing_types.specs.declared.constraints.ExCommand.{ExCommand}
use Rattle.timing_types.specs.declared.constraints.ExCommand.TheVariants.{FalsePath, Delay, Multicycle}
use Rattle.timing_types.specs.declared.constraints.Exception.{Exception}
use Rattle.timing_types.specs.declared.constraints.IoDelay.{IoDelay}
use Rattle.timing_types.specs.declared.edge_times.Relation.{Relation}
use Rattle.timing_types.specs.declared.modes.Mode.{Mode}
use Rattle.timing_types.specs.declared.paths.Periods.{Periods}
use Rattle.pin_types.specs.declared.pins.ClockEdge.{ClockEdge}
use Rattle.pin_types.specs.declared.pins.Edge.{Edge}
use Rattle.pin_types.specs.declared.pins.Edge.TheVariants.{Rise, Fall}
use Rattle.pin_types.specs.declared.pins.Node.{Node}
use Rattle.pin_types.specs.declared.pins.Pin.{Pin}
use Rattle.pin_types.specs.declared.pins.Side.{Side}
use Rattle.pin_types.specs.declared.pins.Side.TheVariants.{Setup, Hold}
use Rattle.pin_types.specs.Nodes.{edge_number}
use Rattle.timing_model.specs.Relation.{IsRelation}
use Rattle.timing_model.specs.TimingPath.{Ends}
use Rattle.timing_model.specs.Winner.{WinnerIs, multicycle_move}

-- ---- clocks of a path

abbrev pub clock_at : Mode → ℕ → Option Clock
clock_at mode place = slice_get mode.clocks place

abbrev pub edge_time : Wave → Edge → ℤ
edge_time wave Rise = wave.rise
edge_time wave Fall = wave.fall

abbrev pub of_edge : Early → Edge → ℤ
of_edge values Rise = values.rise
of_edge values Fall = values.fall

-- the network part of a latency counts where the clock is not propagated
abbrev pub network_part : Bool → ℤ → ℤ
network_part propagated part = if propagated then pos 0 else part

abbrev pub early_latency : Clock → Edge → ℤ
early_latency clock edge =
    of_edge clock.latency.source_early edge +ℤ network_part clock.propagated (of_edge clock.latency.network_early edge)

abbrev pub late_latency : Clock → Edge → ℤ
late_latency clock edge =
    of_edge clock.latency.source_late edge +ℤ network_part clock.propagated (of_edge clock.latency.network_late edge)

-- ---- delays outside ports

abbrev pub is_same_edge : ClockEdge → ClockEdge → Bool
is_same_edge edge other = (edge.clock == other.clock) && (edge_number edge.edge == edge_number other.edge)

-- the delay of a port to a clock edge
abbrev pub delay_to : List IoDelay → Pin → ClockEdge → Option IoDelay
delay_to [] port edge = None
delay_to (delay ∷ delays) port edge =
    if (delay.port.0 == port.0) && is_same_edge delay.clock edge then Some delay else delay_to delays port edge

-- its value for a side and a transition: the greatest for setup, the least for hold
abbrev pub delay_value : IoDelay → Side → Edge → Option ℤ
delay_value delay Setup Rise = delay.max_rise
delay_value delay Setup Fall = delay.max_fall
delay_value delay Hold Rise = delay.min_rise
delay_value delay Hold Fall = delay.min_fall

-- what a delay takes off a limit at an end of a path: 0 where the node's pin has none to the edge, or no such value set
abbrev pub outside_delay : List IoDelay → Side → Node → ClockEdge → ℤ
outside_delay delays side node edge =
    unwrap_or (option_and_then (λ delay. delay_value delay side node.edge) (delay_to delays node.pin edge)) (pos 0)

-- ---- the adjustment

abbrev pub clock_part : Side → Clock → Edge → Clock → Edge → ℤ
clock_part Setup launch launch_edge capture capture_edge =
    (early_latency capture capture_edge -ℤ late_latency launch launch_edge) -ℤ capture.setup_uncertainty
clock_part Hold launch launch_edge capture capture_edge =
    (late_latency capture capture_edge -ℤ early_latency launch launch_edge) +ℤ capture.hold_uncertainty

abbrev pub adjustment : Mode → Clock → Clock → Ends → Side → ℤ
adjustment mode launch capture ends side =
    (clock_part side launch ends.launch.edge capture ends.capture.edge
    -ℤ outside_delay mode.delays side ends.start ends.launch) -ℤ outside_delay mode.delays side ends.last ends.capture

-- ---- the relation, as exceptions change it

-- the exception at a winner's place
abbrev pub winning : List Exception → Option ℕ → Option Exception
winning exceptions place = option_and_then (slice_get exceptions) place

-- the move of the best setup multicycle, by which the hold relation moves, whatever wins for setup; 0 without one
abbrev pub setup_move : Periods → Option Exception → ℤ
setup_move periods None = pos 0
setup_move periods (Some exception) = multicycle_move periods Setup exception.value exception.by_launch

-- the relation of a side before its winner changes it: the hold relation moved by this shift
abbrev pub base_relation : Side → Relation → ℤ → ℤ
base_relation Setup relation shift = relation.setup
base_relation Hold relation shift = relation.hold +ℤ shift

-- the relation under the winner, none where that is a false path
abbrev pub changed_by : Periods → Side → ℤ → Exception → ExCommand → Option ℤ
changed_by periods side base exception FalsePath = None
changed_by periods side base exception Delay = Some exception.value
changed_by periods side base exception Multicycle = Some (base +ℤ multicycle_move periods side exception.value exception.by_launch)

abbrev pub changed_relation : Periods → Side → ℤ → Option Exception → Option ℤ
changed_relation periods side base None = Some base
changed_relation periods side base (Some exception) = changed_by periods side base exception exception.command

-- ---- the limit

-- the setup multicycles among the exceptions that match
abbrev pub MulticycleMatch : List Exception → (ℕ → Type 0) → ℕ → Type 0
MulticycleMatch exceptions Match place =
    Match place × ((exception : Exception) × (slice_get exceptions place ≡ Some exception) × (exception.command ≡ Multicycle))

-- the limit of a path with these ends on a side in a mode with these waves, by which exceptions match it on each side;
-- none where the winner is a false path
pub record IsLimit (mode : Mode) (waves : List Wave) (ends : Ends) (Match : Side → ℕ → Type 0) (side : Side) (limit : Option ℤ) : Type 0 where
  pub launch : Clock
  pub capture : Clock
  pub launch_wave : Wave
  pub capture_wave : Wave
  pub relation : Relation
  pub winner : Option ℕ
  pub best : Option ℕ
  pub is_launch : clock_at mode ends.launch.clock ≡ Some launch
  pub is_capture : clock_at mode ends.capture.clock ≡ Some capture
  pub has_launch_wave : slice_get waves ends.launch.clock ≡ Some launch_wave
  pub has_capture_wave : slice_get waves ends.capture.clock ≡ Some capture_wave
  pub related : IsRelation (edge_time launch_wave ends.launch.edge) launch_wave.period
      (edge_time capture_wave ends.capture.edge) capture_wave.period relation
  pub wins : WinnerIs mode.exceptions (Match side) side (record { launch = launch_wave.period; capture = capture_wave.period }) winner
  pub wins_setup : WinnerIs mode.exceptions (MulticycleMatch mode.exceptions (Match Setup)) Setup
      (record { launch = launch_wave.period; capture = capture_wave.period }) best
  pub is : limit ≡ option_map (λ changed. changed +ℤ adjustment mode launch capture ends side)
      (changed_relation (record { launch = launch_wave.period; capture = capture_wave.period }) side
      (base_relation side relation (setup_move (record { launch = launch_wave.period; capture = capture_wave.period })
      (winning mode.exceptions best))) (winning mode.exceptions winner))
