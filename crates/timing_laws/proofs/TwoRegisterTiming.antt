-- Two registers under a clock of period 10 ns at port clk, by example: no pin is constant, all arcs are alive, the
-- clock arrives at the port and at the clock pins of both registers, and the path from one register to the other is
-- timed, at 10 ns for setup and at 0 for hold.
use Rattle.std.proofs.Common.{◌≡◌, ◌≢◌, ◌∙◌, ℕ, zero, suc, ◌<◌, ◌≤◌, length, List, [], ◌∷◌, Some, None, refl, sym, ap, subst, inl, inr, arith}
use Rattle.std.specs.Prelude.{◌⊎◌, Bool, true, pos, drop, map, slice_get, Ok}
use Rattle.std.specs.List.{Contains}
use Rattle.std.specs.Option.{unwrap_or}
use Rattle.std.proofs.lemmas.Option.{none-some, same_Some, slice_get-get_or, slice_get_within}
use Rattle.timing_types.specs.declared.clocks.Clock.{Clock}
use Rattle.timing_types.specs.declared.graphs.Arc.{Arc}
use Rattle.timing_types.specs.declared.graphs.ArcKind.{ArcKind}
use Rattle.timing_types.specs.declared.graphs.ArcKind.TheVariants.{Net, Cell, Launch}
use Rattle.timing_types.specs.declared.constraints.Disable.TheVariants as disable
use Rattle.timing_types.specs.declared.modes.Mode.{Mode}
use Rattle.pin_types.specs.declared.pins.ClockEdge.{ClockEdge}
use Rattle.pin_types.specs.declared.pins.Edge.{Edge}
use Rattle.pin_types.specs.declared.pins.Edge.TheVariants.{Rise, Fall}
use Rattle.pin_types.specs.declared.pins.Node.{Node}
use Rattle.pin_types.specs.declared.pins.Pin.{Pin}
use Rattle.pin_types.specs.declared.pins.Side.{Side}
use Rattle.pin_types.specs.declared.pins.Side.TheVariants.{Setup, Hold}
use Rattle.timing_types.specs.declared.views.Arrivals.{Arrivals}
use Rattle.timing_model.specs.AliveArcs.{AreAlive, DependsOn, HasAliveArc, IsAlive, PassesCell}
use Rattle.timing_model.specs.Analysis.{Analysis, IsAnalysis}
use Rattle.timing_model.specs.Arrival.{Arrives, GoesOn, IsArrivals, IsClockWalk, IsSource, IsSourceOf}
use Rattle.timing_model.specs.Arrival.{edges_at}
use Rattle.timing_model.specs.ConstantValues.{ConstantsAre, driven_value, function_of, IsDerived, IsFirstRound, IsNextRound, IsOr, IsRound, tie_of, value_at, Values}
use Rattle.constraint_model.specs.ExclusivePairs.{pair_of}
use Rattle.timing_model.specs.GeneratedWaves.{waves_of}
use Rattle.pin_types.specs.Nodes.{clock_edge, node_at, node_number}
use Rattle.design_model.specs.DesignPins.{driver_of}
use Rattle.timing_model.specs.Timed.{IsCandidate, IsTimed}
use Rattle.timing_model.specs.TimingGraph.{arc_of}
use Rattle.timing_laws.proofs.LimitExamples.{ends, mode_of}
use Rattle.timing_laws.proofs.PathLimits.{plain, plain_hold, plain_setup, wave}
use Rattle.timing_laws.proofs.TwoRegisterGraph.{check, four, fourteen, graph, graph_of_two_registers}
use Rattle.timing_laws.proofs.TwoRegisters.{NetPins, nets, no_cell_arc, only, two_registers}
use Rattle.timing_laws.proofs.WinnerExamples.{path}

abbrev mode : Mode
mode = mode_of plain

pub not_in : {X : Type 0} (x : X) → Contains [] x → ⊥
not_in x has = let less : has.0 < 0 = has.1 in omega arith

-- ---- no pin is constant

abbrev values : Values
values = None ∷ None ∷ None ∷ None ∷ None ∷ None ∷ None ∷ None ∷ None ∷ []

-- a pin has no value, is tied to none, gets none from its driver, and has no function
abbrev IsUnset : ℕ → Type 0
IsUnset pin =
    (value_at values pin ≡ None) × (tie_of (driver_of two_registers pin) ≡ None)
    × (driven_value values (driver_of two_registers pin) ≡ None) × (function_of two_registers pin ≡ None)

unset : (pin : ℕ) → IsUnset pin
unset zero = (refl, refl, refl, refl)
unset (suc zero) = (refl, refl, refl, refl)
unset (suc (suc zero)) = (refl, refl, refl, refl)
unset (suc (suc (suc zero))) = (refl, refl, refl, refl)
unset (suc (suc (suc (suc zero)))) = (refl, refl, refl, refl)
unset (suc (suc (suc (suc (suc zero))))) = (refl, refl, refl, refl)
unset (suc (suc (suc (suc (suc (suc zero)))))) = (refl, refl, refl, refl)
unset (suc (suc (suc (suc (suc (suc (suc zero))))))) = (refl, refl, refl, refl)
unset (suc (suc (suc (suc (suc (suc (suc (suc zero)))))))) = (refl, refl, refl, refl)
unset (suc (suc (suc (suc (suc (suc (suc (suc (suc pin))))))))) = (refl, refl, refl, refl)

first_round : IsFirstRound two_registers mode values
first_round = record { pins = refl; each = λ pin below. (unset pin).0 ∙ sym (unset pin).1 }

nothing_derived : (pin : ℕ) → IsDerived two_registers values pin None
nothing_derived pin = ((unset pin).2, λ v gives. none-some gives.expr (sym (unset pin).3 ∙ gives.function))

next_round : IsNextRound two_registers mode values values
next_round = record {
  pins = refl;
  each = λ pin below. subst (λ v. IsOr v (IsDerived two_registers values pin) v) (sym (unset pin).0) (nothing_derived pin);
}

rounds : (round : ℕ) → IsRound two_registers mode round values
rounds zero = first_round
rounds (suc round) = (values, rounds round, next_round)

constants : ConstantsAre two_registers mode (Ok (record { values = values }))
constants = (rounds 9, λ set derived has conflict. not_in set has)

-- ---- all arcs are alive

abbrev pub truths : List Bool
truths = map (λ (arc : Arc). true) fourteen

pub all_true : (arcs : List Arc) (place : ℕ) (arc : Arc) → slice_get arcs place ≡ Some arc
    → slice_get (map (λ (a : Arc). true) arcs) place ≡ Some true
all_true [] place arc is = absurd (none-some arc is)
all_true (a ∷ arcs) zero arc is = refl
all_true (a ∷ arcs) (suc place) arc is = all_true arcs place arc is

all_pass : (kind : ArcKind) (from to : Node) → PassesCell two_registers values kind from to
all_pass Net from to = tt
all_pass Cell from to = subst (λ function. DependsOn two_registers values function from.pin.0) (sym (unset to.pin.0).3) tt
all_pass Launch from to = subst (λ function. DependsOn two_registers values function from.pin.0) (sym (unset to.pin.0).3) tt

is_alive : (arc : Arc) → IsAlive two_registers mode values arc
is_alive arc = record {
  from_varies = (unset arc.from.pin.0).0;
  to_varies = (unset arc.to.pin.0).0;
  from_enabled = λ disabled. not_in (disable.Pin disabled.0 arc.from.pin) disabled.1;
  to_enabled = λ disabled. not_in (disable.Pin disabled.0 arc.to.pin) disabled.1;
  pair_enabled = λ disabled. not_in (disable.Between disabled.0 arc.from.pin arc.to.pin) disabled.1;
  passes = all_pass arc.kind arc.from arc.to;
}

are_alive : AreAlive two_registers mode values graph truths
are_alive = record {
  arcs = refl;
  each = λ place arc is. (λ here. is_alive arc, λ alive. all_true fourteen place arc is);
}

-- ---- where the clock arrives

abbrev here : Edge → List ClockEdge
here edge = clock_edge 0 edge ∷ []

abbrev arrivals : Arrivals
arrivals = record {
  at =
      here Rise ∷ here Fall ∷ [] ∷ [] ∷ [] ∷ [] ∷ [] ∷ [] ∷ here Rise ∷ here Fall ∷ [] ∷ [] ∷ [] ∷ [] ∷ here Rise ∷ here Fall ∷ [] ∷ []
      ∷ [];
}

abbrev pub Has : Arc → Type 0
Has = HasAliveArc graph truths

abbrev clocks : List Clock
clocks = plain ∷ []

-- the port and the clock pins
abbrev IsClocked : ℕ → Type 0
IsClocked pin = (pin ≡ 0) ⊎ ((pin ≡ 4) ⊎ (pin ≡ 7))

off : (n : ℕ) → n ≢ 0 → n ≢ 4 → n ≢ 7 → IsClocked n → ⊥
off n zero_not four_not seven_not (inl e) = zero_not e
off n zero_not four_not seven_not (inr (inl e)) = four_not e
off n zero_not four_not seven_not (inr (inr e)) = seven_not e

-- a source is the port, of the first clock
source_is : (place : ℕ) (pin : Pin) → IsSourceOf clocks place pin → (place ≡ 0) × (pin.0 ≡ 0)
source_is zero pin source =
    let sources : Contains plain.sources pin = subst (λ (c : Clock). Contains c.sources pin) (sym (same_Some plain source.0 source.1)) source.2 in
    (refl, ap (λ (p : Pin). p.0) (sym (only (record { 0 = 0 }) pin sources.0 sources.1 sources.2)))
source_is (suc place) pin source = absurd (none-some source.0 source.1)

port_is_source : IsSourceOf clocks 0 (record { 0 = 0 })
port_is_source = (plain, refl, (0, omega arith, refl))

no_source : (pin : ℕ) → pin ≢ 0 → IsSource clocks (record { 0 = pin }) → ⊥
no_source pin other source = other (source_is source.0 (record { 0 = pin }) source.1).1

-- an arc that launches nothing is one of a net
pub has_arc : (place : ℕ) (arc : Arc) → slice_get fourteen place ≡ Some arc → Contains fourteen arc
has_arc place arc is =
    let within = slice_get_within fourteen place arc is in
    (place, within, same_Some _ arc (sym (slice_get-get_or fourteen place arc within) ∙ is))

pub goes_by_net : (from to : Node) → GoesOn Has from to → (from.edge ≡ to.edge) × NetPins to.pin.0 from.pin.0
goes_by_net from to (inl net) = (nets from to).0 ((graph_of_two_registers.arcs (arc_of from to Net)).0 (has_arc net.0 (arc_of from to Net) net.1))
goes_by_net from to (inr cell) =
    absurd (no_cell_arc from to ((graph_of_two_registers.arcs (arc_of from to Cell)).0 (has_arc cell.0 (arc_of from to Cell) cell.1)))

next_clocked : (to from : ℕ) → NetPins to from → IsClocked from → IsClocked to
next_clocked to from (inl pins) clocked = absurd (off 8 (omega arith) (omega arith) (omega arith) (subst IsClocked pins.1 clocked))
next_clocked to from (inr (inl pins)) clocked = absurd (off 1 (omega arith) (omega arith) (omega arith) (subst IsClocked pins.1 clocked))
next_clocked to from (inr (inr (inl pins))) clocked = inr (inl pins.0)
next_clocked to from (inr (inr (inr (inl pins)))) clocked = absurd (off 5 (omega arith) (omega arith) (omega arith) (subst IsClocked pins.1 clocked))
next_clocked to from (inr (inr (inr (inr pins)))) clocked = inr (inr pins.0)

walked : (before : List Node) (node : Node) (edge : ClockEdge) → IsClockWalk Has clocks edge node before
    → (edge ≡ clock_edge 0 node.edge) × IsClocked node.pin.0
walked [] node edge walk =
    let source = source_is edge.clock node.pin walk.1 in
    (ap (λ n. clock_edge n edge.edge) source.0 ∙ ap (clock_edge 0) (sym walk.0), inl source.1)
walked (last ∷ before) node edge walk =
    let known = walked before last edge walk.2 in
    let net = goes_by_net last node walk.0 in
    (known.0 ∙ ap (clock_edge 0) net.0, next_clocked node.pin.0 last.pin.0 net.1 known.1)

over_net : (pin place : ℕ) (edge : Edge) → slice_get fourteen place ≡ Some (arc_of (node_at 0 edge) (node_at pin edge) Net) → pin ≢ 0
    → Arrives Has clocks (clock_edge 0 edge) (node_at pin edge)
over_net pin place edge is other =
    (node_at 0 edge ∷ [], (inl (place, is, all_true fourteen place (arc_of (node_at 0 edge) (node_at pin edge) Net) is), no_source pin other, (refl, port_is_source)))

clocked_arrives : (pin : ℕ) (edge : Edge) → IsClocked pin → Arrives Has clocks (clock_edge 0 edge) (node_at pin edge)
clocked_arrives pin edge (inl e) = subst (λ n. Arrives Has clocks (clock_edge 0 edge) (node_at n edge)) (sym e) ([], (refl, port_is_source))
clocked_arrives pin Rise (inr (inl e)) = subst (λ n. Arrives Has clocks (clock_edge 0 Rise) (node_at n Rise)) (sym e) (over_net 4 0 Rise refl (omega arith))
clocked_arrives pin Fall (inr (inl e)) = subst (λ n. Arrives Has clocks (clock_edge 0 Fall) (node_at n Fall)) (sym e) (over_net 4 2 Fall refl (omega arith))
clocked_arrives pin Rise (inr (inr e)) = subst (λ n. Arrives Has clocks (clock_edge 0 Rise) (node_at n Rise)) (sym e) (over_net 7 1 Rise refl (omega arith))
clocked_arrives pin Fall (inr (inr e)) = subst (λ n. Arrives Has clocks (clock_edge 0 Fall) (node_at n Fall)) (sym e) (over_net 7 3 Fall refl (omega arith))

abbrev IsAmong : ℕ → Edge → ClockEdge → Type 0
IsAmong pin edge launched = Contains (edges_at arrivals (node_number (node_at pin edge))) launched

among_clocked : (pin : ℕ) (edge : Edge) → IsClocked pin → IsAmong pin edge (clock_edge 0 edge)
among_clocked pin Rise (inl e) = subst (λ n. IsAmong n Rise (clock_edge 0 Rise)) (sym e) (0, omega arith, refl)
among_clocked pin Fall (inl e) = subst (λ n. IsAmong n Fall (clock_edge 0 Fall)) (sym e) (0, omega arith, refl)
among_clocked pin Rise (inr (inl e)) = subst (λ n. IsAmong n Rise (clock_edge 0 Rise)) (sym e) (0, omega arith, refl)
among_clocked pin Fall (inr (inl e)) = subst (λ n. IsAmong n Fall (clock_edge 0 Fall)) (sym e) (0, omega arith, refl)
among_clocked pin Rise (inr (inr e)) = subst (λ n. IsAmong n Rise (clock_edge 0 Rise)) (sym e) (0, omega arith, refl)
among_clocked pin Fall (inr (inr e)) = subst (λ n. IsAmong n Fall (clock_edge 0 Fall)) (sym e) (0, omega arith, refl)

-- what is among these arrivals is the clock's edge at a clocked pin
abbrev IsTheClock : ℕ → Edge → ClockEdge → Type 0
IsTheClock pin edge launched = (launched ≡ clock_edge 0 edge) × IsClocked pin

at_here : (pin : ℕ) (edge : Edge) (launched : ClockEdge) → IsClocked pin → Contains (here edge) launched → IsTheClock pin edge launched
at_here pin edge launched clocked has = (sym (only (clock_edge 0 edge) launched has.0 has.1 has.2), clocked)

pub among_is : (pin : ℕ) (edge : Edge) (launched : ClockEdge) → pin < 9 → IsAmong pin edge launched → IsTheClock pin edge launched
among_is zero Rise launched below has = at_here 0 Rise launched (inl refl) has
among_is zero Fall launched below has = at_here 0 Fall launched (inl refl) has
among_is (suc zero) Rise launched below has = absurd (not_in launched has)
among_is (suc zero) Fall launched below has = absurd (not_in launched has)
among_is (suc (suc zero)) Rise launched below has = absurd (not_in launched has)
among_is (suc (suc zero)) Fall launched below has = absurd (not_in launched has)
among_is (suc (suc (suc zero))) Rise launched below has = absurd (not_in launched has)
among_is (suc (suc (suc zero))) Fall launched below has = absurd (not_in launched has)
among_is (suc (suc (suc (suc zero)))) Rise launched below has = at_here 4 Rise launched (inr (inl refl)) has
among_is (suc (suc (suc (suc zero)))) Fall launched below has = at_here 4 Fall launched (inr (inl refl)) has
among_is (suc (suc (suc (suc (suc zero))))) Rise launched below has = absurd (not_in launched has)
among_is (suc (suc (suc (suc (suc zero))))) Fall launched below has = absurd (not_in launched has)
among_is (suc (suc (suc (suc (suc (suc zero)))))) Rise launched below has = absurd (not_in launched has)
among_is (suc (suc (suc (suc (suc (suc zero)))))) Fall launched below has = absurd (not_in launched has)
among_is (suc (suc (suc (suc (suc (suc (suc zero))))))) Rise launched below has = at_here 7 Rise launched (inr (inr refl)) has
among_is (suc (suc (suc (suc (suc (suc (suc zero))))))) Fall launched below has = at_here 7 Fall launched (inr (inr refl)) has
among_is (suc (suc (suc (suc (suc (suc (suc (suc zero)))))))) Rise launched below has = absurd (not_in launched has)
among_is (suc (suc (suc (suc (suc (suc (suc (suc zero)))))))) Fall launched below has = absurd (not_in launched has)
among_is (suc (suc (suc (suc (suc (suc (suc (suc (suc pin))))))))) edge launched below has = absurd (omega arith)

-- lists of no more than one item each
abbrev pub AreShort : {X : Type 0} → List (List X) → Type 0
AreShort [] = Unit {0}
AreShort (items ∷ others) = (length items ≤ 1) × AreShort others

pub short_at : {X : Type 0} → (lists : List (List X)) → AreShort lists → (place : ℕ) → length (unwrap_or (slice_get lists place) []) ≤ 1
short_at [] short place = omega arith
short_at (items ∷ others) short zero = short.0
short_at (items ∷ others) short (suc place) = short_at others short.1 place

pub one : 1 ≤ 1
one = omega arith

pub no : 0 ≤ 1
no = omega arith

-- no more than one edge arrives at a node
short : AreShort arrivals.at
short =
    let last : AreShort (drop 12 arrivals.at) = (no, (no, (one, (one, (no, (no, tt)))))) in
    let first : AreShort (drop 6 arrivals.at) = (no, (no, (one, (one, (no, (no, last)))))) in
    (one, (one, (no, (no, (no, (no, first))))))

are_arrivals : IsArrivals graph truths clocks arrivals
are_arrivals = record {
  nodes = refl;
  members = λ edge node below. (
    λ has.
        let known = among_is node.pin.0 node.edge edge below has in
        subst (λ e. Arrives Has clocks e node) (sym known.0) (clocked_arrives node.pin.0 node.edge known.1),
    λ walk.
        let known = walked walk.0 node edge walk.1 in
        subst (λ e. IsAmong node.pin.0 node.edge e) (sym known.0) (among_clocked node.pin.0 node.edge known.1),
  );
  order = λ node i j edge other less first second.
      let few = short_at arrivals.at short node in
      let within = slice_get_within (edges_at arrivals node) j other second in
      absurd (omega arith);
}

-- ---- the analysis, and the path from one register to the other

abbrev pub analysis : Analysis
analysis = record { design = two_registers; graph = graph; mode = mode; alive = truths; arrivals = arrivals; waves = wave ∷ [] }

pub analysis_of_two_registers : IsAnalysis two_registers mode analysis
unfolding waves_of
analysis_of_two_registers = record {
  constants = record { values = values };
  masters = None ∷ [];
  of_design = refl;
  of_mode = refl;
  graph = graph_of_two_registers;
  are_constants = constants;
  alive = are_alive;
  arrivals = are_arrivals;
  waves = refl;
}

has_check : (side : Side) → Contains four (check 6 7 side)
has_check Setup = (2, omega arith, refl)
has_check Hold = (3, omega arith, refl)

pub candidate : (side : Side) → IsCandidate analysis path side
candidate side = record {
  ends = ends;
  are_ends = refl;
  launched = (inl (8, refl, refl), inl ((6, refl, refl), (0, omega arith, refl)));
  captured = inl (node_at 7 Rise, has_check side, (0, omega arith, refl));
  together = λ has. not_in (pair_of 0 0) has;
}

pub timed_setup : IsTimed analysis path Setup (pos 10000000)
timed_setup = record { candidate = candidate Setup; is = (ends, refl, plain_setup) }

pub timed_hold : IsTimed analysis path Hold (pos 0)
timed_hold = record { candidate = candidate Hold; is = (ends, refl, plain_hold) }
