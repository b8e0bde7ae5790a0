-- Generated waves by example: a master of period 10 ns that rises at 0 and falls at 4 ns or at 5 ns; and which clock is
-- the master.
use Rattle.std.proofs.Common.{◌≡◌, refl}
use Rattle.std.specs.Prelude.{ℕ, pos, true, false, List, [], ◌∷◌, map, Option, Some, None, Result, Ok, Err}
use Rattle.sdc_base.specs.declared.memory.At.{At}
use Rattle.timing_types.specs.declared.analyses.Waves.{Waves}
use Rattle.timing_types.specs.declared.clocks.Clock.{Clock}
use Rattle.timing_types.specs.declared.clocks.Early.{Early}
use Rattle.timing_types.specs.declared.clocks.Form.{Form}
use Rattle.timing_types.specs.declared.clocks.Form.TheVariants.{Primary, Generated}
use Rattle.timing_types.specs.declared.clocks.Shape.TheVariants.{Divide, Multiply, Edges}
use Rattle.timing_types.specs.declared.clocks.Wave.{Wave}
use Rattle.pin_types.specs.declared.mode_faults.ModeKind.{ModeKind}
use Rattle.pin_types.specs.declared.mode_faults.ModeKind.TheVariants.{MasterCycle, MasterUnclear, NotExact}
use Rattle.timing_types.specs.declared.modes.Mode.{Mode}
use Rattle.pin_types.specs.declared.pins.Edge.TheVariants.{Rise, Fall}
use Rattle.timing_types.specs.declared.views.Arrivals.{Arrivals}
use Rattle.timing_model.specs.GeneratedWaves.{waves_of}
use Rattle.pin_types.specs.Nodes.{clock_edge}
use Rattle.timing_model.specs.WaveShapes.{generated_wave}

abbrev pub wave : ℕ → ℕ → ℕ → Wave
wave period rise fall = record { period = pos period; rise = pos rise; fall = pos fall }

abbrev pub gives : Wave → Result Wave ModeKind
gives made = Ok made

divided_by_three : generated_wave (Divide 3) false (wave 10000000 0 4000000) ≡ gives (wave 30000000 0 12000000)
unfolding lib.Count.ones
divided_by_three = refl

divided_by_two : generated_wave (Divide 2) false (wave 10000000 0 5000000) ≡ gives (wave 20000000 0 10000000)
unfolding lib.Count.ones
divided_by_two = refl

by_its_edges : generated_wave (Edges 1 3 5) false (wave 10000000 0 5000000) ≡ gives (wave 20000000 0 10000000)
by_its_edges = refl

turned_round : generated_wave (Divide 1) true (wave 10000000 0 5000000) ≡ gives (wave 10000000 5000000 10000000)
turned_round = refl

multiplied_by_three : generated_wave (Multiply 3) false (wave 10000000 0 5000000) ≡ Err (NotExact (pos 1))
multiplied_by_three = refl

-- the fall may pass the period
pub late_fall : generated_wave (Edges 2 5 6) false (wave 10000000 0 3000000) ≡ gives (wave 20000000 3000000 20000000)
late_fall = refl

-- ---- masters, by example: clocks at pin 0, and generated ones at pin 5 whose source is pin 0

abbrev pub none_set : Early
none_set = record { rise = pos 0; fall = pos 0 }

abbrev pub clock_of : ℕ → ℕ → Form → Clock
clock_of line source form = record {
  line = line;
  name = line ∷ [];
  sources = record { 0 = source } ∷ [];
  form = form;
  latency = record { source_early = none_set; source_late = none_set; network_early = none_set; network_late = none_set };
  setup_uncertainty = pos 0;
  hold_uncertainty = pos 0;
  propagated = false;
}

abbrev pub plain : ℕ → Clock
plain line = clock_of line 0 (Primary (wave 10000000 0 5000000))

abbrev pub halved : ℕ → Option ℕ → Clock
halved line master = clock_of line 5 (Generated (record { 0 = 0 }) master (Divide 2) false)

abbrev pub mode_of : List Clock → Mode
mode_of clocks = record {
  clocks = clocks;
  exclusive = [];
  cases = [];
  disabled = [];
  delays = [];
  exceptions = [];
  kept = [];
  notes = [];
}

-- the rising and the falling edges of these clocks arrive at pin 0
abbrev pub arriving : List ℕ → Arrivals
arriving clocks = record { at = map (λ clock. clock_edge clock Rise) clocks ∷ map (λ clock. clock_edge clock Fall) clocks ∷ [] }

abbrev pub says : List Wave → List (Option ℕ) → Result Waves (At ModeKind)
says waves masters = Ok (record { waves = waves; masters = masters })

abbrev pub fails : ℕ → ModeKind → Result Waves (At ModeKind)
fails line kind = Err (record { line = line; kind = kind })

the_one_clock : waves_of (mode_of (plain 1 ∷ halved 2 None ∷ [])) (arriving (0 ∷ []))
    ≡ says (wave 10000000 0 5000000 ∷ wave 20000000 0 10000000 ∷ []) (None ∷ Some 0 ∷ [])
unfolding waves_of lib.Count.ones
the_one_clock = refl

of_two_clocks : waves_of (mode_of (plain 1 ∷ plain 2 ∷ halved 3 None ∷ [])) (arriving (0 ∷ 1 ∷ [])) ≡ fails 3 (MasterUnclear 2)
unfolding waves_of
of_two_clocks = refl

-- the clock itself does not count
of_no_clock : waves_of (mode_of (halved 3 None ∷ [])) (arriving (0 ∷ [])) ≡ fails 3 (MasterUnclear 0)
unfolding waves_of
of_no_clock = refl

-- two clocks, each the one other clock that arrives at the source of the other
pub of_each_other : waves_of (mode_of (halved 3 None ∷ halved 4 None ∷ [])) (arriving (0 ∷ 1 ∷ [])) ≡ fails 3 MasterCycle
unfolding waves_of
of_each_other = refl
