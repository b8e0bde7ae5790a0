-- A conflict of two modes by example: a buffer (pins 2 and 3) between port clk (pin 0) and a register (pins 4 and 5),
-- whose data comes from port d (pin 1). The first mode has a clock at the buffer's output, the second one at the port.
-- The clock of the second passes the first one's source, and the answered conflict is pin 3, source mode 0, passing
-- mode 1.
use Rattle.std.proofs.Common.{◌≡◌, ◌∙◌, ℕ, zero, suc, ◌<◌, ◌≤◌, List, [], ◌∷◌, Some, get_or, refl, sym, ap, subst, inl, inr, arith}
use Rattle.std.specs.Prelude.{true, pos, slice_get}
use Rattle.std.specs.List.{Contains}
use Rattle.std.proofs.lemmas.Option.{none-some, same_Some}
use Rattle.timing_types.specs.declared.clocks.Clock.{Clock}
use Rattle.timing_types.specs.declared.graphs.Arc.{Arc}
use Rattle.timing_types.specs.declared.graphs.ArcKind.{ArcKind}
use Rattle.timing_types.specs.declared.graphs.ArcKind.TheVariants.{Net, Cell}
use Rattle.pin_types.specs.declared.pins.ClockEdge.{ClockEdge}
use Rattle.pin_types.specs.declared.pins.Edge.{Edge}
use Rattle.pin_types.specs.declared.pins.Edge.TheVariants.{Rise, Fall}
use Rattle.pin_types.specs.declared.pins.Node.{Node}
use Rattle.pin_types.specs.declared.pins.Pin.{Pin}
use Rattle.timing_model.specs.Analysis.{Alive, Analysis}
use Rattle.timing_model.specs.Arrival.{ClockArrives, IsClockWalk, IsSource, IsSourceOf}
use Rattle.timing_model.specs.Loops.{ConflictBefore, IsAnsweredConflict, IsConflict}
use Rattle.pin_types.specs.Nodes.{node_at}
use Rattle.timing_model.specs.TimingGraph.{arc_of}
use Rattle.timing_laws.proofs.LimitExamples.{clock_with, mode_of}

-- ---- the graph

abbrev arc : ℕ → ℕ → ArcKind → Edge → Arc
arc from to kind edge = arc_of (node_at from edge) (node_at to edge) kind

abbrev arcs : List Arc
arcs =
    arc 0 2 Net Rise ∷ arc 0 2 Net Fall ∷ arc 1 4 Net Rise ∷ arc 1 4 Net Fall
    ∷ arc 2 3 Cell Rise ∷ arc 2 3 Cell Fall ∷ arc 3 5 Net Rise ∷ arc 3 5 Net Fall ∷ []

-- a known arc goes to such a pin
after : (n : ℕ) (known one : Arc) → known.to.pin.0 ≡ suc (suc n) → known ≡ one → 2 ≤ one.to.pin.0
after n known one is same = let at : known.to.pin.0 ≡ one.to.pin.0 = ap (λ (a : Arc). a.to.pin.0) same in omega arith

-- ---- the modes

abbrev clock_at : ℕ → Clock
clock_at pin = record (clock_with 0 0 0 0) { sources = record { 0 = pin } ∷ [] }

abbrev analysis_at : ℕ → Analysis
analysis_at pin = record {
  design = record { top = []; unit = pos 1000000; pins = []; cells = []; nets = []; kinds = [] };
  graph = record { pins = 6; arcs = arcs; checks = [] };
  mode = mode_of (clock_at pin);
  alive = true ∷ true ∷ true ∷ true ∷ true ∷ true ∷ true ∷ true ∷ [];
  arrivals = record { at = [] };
  waves = [];
}

abbrev analyses : List Analysis
analyses = analysis_at 3 ∷ analysis_at 0 ∷ []

-- a source of a mode is the pin of its one clock
one_source : (at k : ℕ) (pin : Pin) → k < 1 → get_or (record { 0 = at } ∷ []) k pin ≡ pin → pin.0 ≡ at
one_source at zero pin below is = sym (ap (λ (p : Pin). p.0) is)
one_source at (suc k) pin below is = absurd (omega arith)

source_at : (at place : ℕ) (pin : Pin) → IsSourceOf (clock_at at ∷ []) place pin → pin.0 ≡ at
source_at at zero pin source =
    let same = same_Some (clock_at at) source.0 source.1 in
    let within = subst (λ (c : Clock). Contains c.sources pin) (sym same) source.2 in
    one_source at within.0 pin within.1 within.2
source_at at (suc place) pin source = absurd (none-some source.0 source.1)

source_is : (at : ℕ) (pin : Pin) → IsSource (clock_at at ∷ []) pin → pin.0 ≡ at
source_is at pin source = source_at at source.0 pin source.1

-- ---- the conflict

clock_passes : ClockArrives (Alive (analysis_at 0)) (clock_at 0 ∷ []) 0 (record { 0 = 3 })
clock_passes = (
  Rise,
  Rise,
  (
    node_at 2 Rise ∷ node_at 0 Rise ∷ [],
    (
      inr (4, refl, refl),
      λ source. let at : 3 ≡ 0 = source_is 0 (record { 0 = 3 }) source in absurd (omega arith),
      (
        inl (0, refl, refl),
        λ source. let at : 2 ≡ 0 = source_is 0 (record { 0 = 2 }) source in absurd (omega arith),
        (refl, (clock_at 0, refl, (0, omega arith, refl))),
      ),
    ),
  ),
)

conflict : IsConflict analyses 3 0 1
conflict = record {
  source = analysis_at 3;
  passing = analysis_at 0;
  clock = 0;
  is_source_mode = refl;
  is_passing_mode = refl;
  is_source = (0, (clock_at 3, refl, (0, omega arith, refl)));
  is_none = λ source. let at : 3 ≡ 0 = source_is 0 (record { 0 = 3 }) source in absurd (omega arith);
  passes = clock_passes;
}

-- ---- no other one before it

-- no arc goes to port clk
ends_after : (place : ℕ) (one : Arc) → slice_get arcs place ≡ Some one → 2 ≤ one.to.pin.0
ends_after zero one e = after 0 (arc 0 2 Net Rise) one refl (same_Some (arc 0 2 Net Rise) one e)
ends_after (suc zero) one e = after 0 (arc 0 2 Net Fall) one refl (same_Some (arc 0 2 Net Fall) one e)
ends_after (suc (suc zero)) one e = after 2 (arc 1 4 Net Rise) one refl (same_Some (arc 1 4 Net Rise) one e)
ends_after (suc (suc (suc zero))) one e = after 2 (arc 1 4 Net Fall) one refl (same_Some (arc 1 4 Net Fall) one e)
ends_after (suc (suc (suc (suc zero)))) one e = after 1 (arc 2 3 Cell Rise) one refl (same_Some (arc 2 3 Cell Rise) one e)
ends_after (suc (suc (suc (suc (suc zero))))) one e = after 1 (arc 2 3 Cell Fall) one refl (same_Some (arc 2 3 Cell Fall) one e)
ends_after (suc (suc (suc (suc (suc (suc zero)))))) one e = after 3 (arc 3 5 Net Rise) one refl (same_Some (arc 3 5 Net Rise) one e)
ends_after (suc (suc (suc (suc (suc (suc (suc zero))))))) one e = after 3 (arc 3 5 Net Fall) one refl (same_Some (arc 3 5 Net Fall) one e)
ends_after (suc (suc (suc (suc (suc (suc (suc (suc place)))))))) one e = absurd (none-some one e)

not_to_port : (from to : Node) (kind : ArcKind) → Alive (analysis_at 3) (arc_of from to kind) → to.pin.0 ≡ 0 → ⊥
not_to_port from to kind alive at = let far : 2 ≤ to.pin.0 = ends_after alive.0 (arc_of from to kind) alive.1 in omega arith

-- the clock of the first mode does not arrive there
not_there : (edge : ClockEdge) (node : Node) (before : List Node)
    → IsClockWalk (Alive (analysis_at 3)) (clock_at 3 ∷ []) edge node before → node.pin.0 ≡ 0 → ⊥
not_there edge node [] walk at =
    let source : node.pin.0 ≡ 3 = source_is 3 node.pin (edge.clock, walk.1) in omega arith
not_there edge node (last ∷ before) walk at = elim walk.0 [
  | inl net ↦ not_to_port last node Net net at
  | inr cell ↦ not_to_port last node Cell cell at
]

-- whatever conflicts, the pin is a source of the mode of its place, and no source of the other one
comes_after : (pin source_mode passing_mode : ℕ) → IsConflict analyses pin source_mode passing_mode
    → ConflictBefore 3 0 1 pin source_mode passing_mode
comes_after pin zero zero is =
    let one = same_Some (analysis_at 3) is.source is.is_source_mode in
    let other = same_Some (analysis_at 3) is.passing is.is_passing_mode in
    absurd (is.is_none (subst (λ (a : Analysis). IsSource a.mode.clocks (record { 0 = pin })) (sym one ∙ other) is.is_source))
comes_after pin zero (suc zero) is =
    let one = same_Some (analysis_at 3) is.source is.is_source_mode in
    let at : pin ≡ 3 = source_is 3 (record { 0 = pin })
    (subst (λ (a : Analysis). IsSource a.mode.clocks (record { 0 = pin })) (sym one) is.is_source) in
    inr (sym at, inr (refl, omega arith))
comes_after pin zero (suc (suc place)) is = absurd (none-some is.passing is.is_passing_mode)
comes_after pin (suc zero) zero is =
    let one = same_Some (analysis_at 0) is.source is.is_source_mode in
    let other = same_Some (analysis_at 3) is.passing is.is_passing_mode in
    let at : pin ≡ 0 = source_is 0 (record { 0 = pin })
    (subst (λ (a : Analysis). IsSource a.mode.clocks (record { 0 = pin })) (sym one) is.is_source) in
    let passes = subst (λ (a : Analysis). ClockArrives (Alive a) a.mode.clocks is.clock (record { 0 = pin })) (sym other) is.passes in
    absurd (not_there (record { clock = is.clock; edge = passes.0 }) (node_at pin passes.1) passes.2.0 passes.2.1 at)
comes_after pin (suc zero) (suc zero) is =
    let one = same_Some (analysis_at 0) is.source is.is_source_mode in
    let other = same_Some (analysis_at 0) is.passing is.is_passing_mode in
    absurd (is.is_none (subst (λ (a : Analysis). IsSource a.mode.clocks (record { 0 = pin })) (sym one ∙ other) is.is_source))
comes_after pin (suc zero) (suc (suc place)) is = absurd (none-some is.passing is.is_passing_mode)
comes_after pin (suc (suc place)) passing_mode is = absurd (none-some is.source is.is_source_mode)

answered : IsAnsweredConflict analyses 3 0 1
answered = record { is = conflict; first = comes_after }
