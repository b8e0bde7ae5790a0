-- The timing graph of two registers in a row as data, by example: 14 arcs in order, 10 of nets and 4 that launch, and
-- 4 checks.
use Rattle.std.proofs.Common.{◌≡◌, ◌∙◌, ℕ, zero, suc, ◌+◌, ◌*◌, ◌/◌, ◌<◌, List, [], ◌∷◌, Some, refl, sym, ap, subst, inl, inr, arith}
use Rattle.std.specs.Prelude.{◌⊎◌, drop, slice_get}
use Rattle.std.specs.List.{All, Contains}
use Rattle.std.proofs.Math.Nat.{lt_trans}
use Rattle.std.proofs.lemmas.List.Elements.{All-contains, All-from_recursion}
use Rattle.std.proofs.lemmas.Option.{none-some, same_Some}
use Rattle.timing_types.specs.declared.graphs.Arc.{Arc}
use Rattle.timing_types.specs.declared.graphs.ArcKind.{ArcKind}
use Rattle.timing_types.specs.declared.graphs.ArcKind.TheVariants.{Net, Cell, Launch}
use Rattle.timing_types.specs.declared.graphs.Check.{Check}
use Rattle.timing_types.specs.declared.graphs.Graph.{Graph}
use Rattle.pin_types.specs.declared.pins.Edge.{Edge}
use Rattle.pin_types.specs.declared.pins.Edge.TheVariants.{Rise, Fall}
use Rattle.pin_types.specs.declared.pins.Node.{Node}
use Rattle.pin_types.specs.declared.pins.Side.{Side}
use Rattle.pin_types.specs.declared.pins.Side.TheVariants.{Setup, Hold}
use Rattle.pin_types.specs.Nodes.{node_at, node_number}
use Rattle.timing_model.specs.TimingGraph.{AreInOrder, arc_of, ArcStandsBefore, IsArc, IsArcOf, IsGraphOf, kind_number}
use Rattle.design_model.specs.LibraryArcs.{IsCheck}
use Rattle.timing_laws.proofs.TwoRegisters.{CheckedPins, checks, launches, LaunchPins, NetPins, nets, no_cell_arc, two_registers}

-- ---- the graph

abbrev net : ℕ → ℕ → Edge → Arc
net from to edge = arc_of (node_at from edge) (node_at to edge) Net

abbrev launch : ℕ → ℕ → Edge → Arc
launch from to edge = arc_of (node_at from Rise) (node_at to edge) Launch

abbrev pub check : ℕ → ℕ → Side → Check
check end clock side = record { end = record { 0 = end }; clock = node_at clock Rise; side = side }

abbrev pub fourteen : List Arc
fourteen =
    net 0 4 Rise ∷ net 0 7 Rise ∷ net 0 4 Fall ∷ net 0 7 Fall ∷ net 1 3 Rise ∷ net 1 3 Fall ∷ launch 4 5 Rise ∷ launch 4 5 Fall
    ∷ net 5 6 Rise ∷ net 5 6 Fall ∷ launch 7 8 Rise ∷ launch 7 8 Fall ∷ net 8 2 Rise ∷ net 8 2 Fall ∷ []

abbrev pub four : List Check
four = check 3 4 Setup ∷ check 3 4 Hold ∷ check 6 7 Setup ∷ check 6 7 Hold ∷ []

abbrev pub graph : Graph
graph = record { pins = 9; arcs = fourteen; checks = four }

-- ---- its arcs are the design's

net_is : (from to : ℕ) (edge : Edge) → NetPins to from → IsArc two_registers (net from to edge)
net_is from to edge pins = (nets (node_at from edge) (node_at to edge)).1 (refl, pins)

launch_is : (from to : ℕ) (edge : Edge) → LaunchPins from to → IsArc two_registers (launch from to edge)
launch_is from to edge pins = (launches (node_at from Rise) (node_at to edge)).1 (refl, pins)

first_clock : (edge : Edge) → IsArc two_registers (net 0 4 edge)
first_clock edge = net_is 0 4 edge (inr (inr (inl (refl, refl))))

second_clock : (edge : Edge) → IsArc two_registers (net 0 7 edge)
second_clock edge = net_is 0 7 edge (inr (inr (inr (inr (refl, refl)))))

first_data : (edge : Edge) → IsArc two_registers (net 1 3 edge)
first_data edge = net_is 1 3 edge (inr (inl (refl, refl)))

second_data : (edge : Edge) → IsArc two_registers (net 5 6 edge)
second_data edge = net_is 5 6 edge (inr (inr (inr (inl (refl, refl)))))

output : (edge : Edge) → IsArc two_registers (net 8 2 edge)
output edge = net_is 8 2 edge (inl (refl, refl))

first_launch : (edge : Edge) → IsArc two_registers (launch 4 5 edge)
first_launch edge = launch_is 4 5 edge (inl (refl, refl))

second_launch : (edge : Edge) → IsArc two_registers (launch 7 8 edge)
second_launch edge = launch_is 7 8 edge (inr (refl, refl))

-- each of some arcs is one of the design
abbrev Each : List Arc → Type 0
Each [] = Unit {0}
Each (arc ∷ arcs) = IsArc two_registers arc × Each arcs

each_is : All (IsArc two_registers) fourteen
each_is =
    let last : Each (drop 12 fourteen) = (output Rise, (output Fall, tt)) in
    let third : Each (drop 8 fourteen) = (second_data Rise, (second_data Fall, (second_launch Rise, (second_launch Fall, last)))) in
    let second : Each (drop 4 fourteen) = (first_data Rise, (first_data Fall, (first_launch Rise, (first_launch Fall, third)))) in
    All-from_recursion (IsArc two_registers) fourteen (first_clock Rise, (second_clock Rise, (first_clock Fall, (second_clock Fall, second))))

-- ---- the design's arcs are among them

at_pins : (from to f t : ℕ) (first last : Edge) (kind : ArcKind) → from ≡ f → to ≡ t
    → Contains fourteen (arc_of (node_at f first) (node_at t last) kind)
    → Contains fourteen (arc_of (node_at from first) (node_at to last) kind)
at_pins from to f t first last kind from_is to_is has =
    subst (λ n. Contains fourteen (arc_of (node_at from first) (node_at n last) kind)) (sym to_is)
    (subst (λ n. Contains fourteen (arc_of (node_at n first) (node_at t last) kind)) (sym from_is) has)

net_at : (from to : ℕ) (edge : Edge) → NetPins to from → Contains fourteen (net from to edge)
net_at from to Rise (inl pins) = at_pins from to 8 2 Rise Rise Net pins.1 pins.0 (12, omega arith, refl)
net_at from to Fall (inl pins) = at_pins from to 8 2 Fall Fall Net pins.1 pins.0 (13, omega arith, refl)
net_at from to Rise (inr (inl pins)) = at_pins from to 1 3 Rise Rise Net pins.1 pins.0 (4, omega arith, refl)
net_at from to Fall (inr (inl pins)) = at_pins from to 1 3 Fall Fall Net pins.1 pins.0 (5, omega arith, refl)
net_at from to Rise (inr (inr (inl pins))) = at_pins from to 0 4 Rise Rise Net pins.1 pins.0 (0, omega arith, refl)
net_at from to Fall (inr (inr (inl pins))) = at_pins from to 0 4 Fall Fall Net pins.1 pins.0 (2, omega arith, refl)
net_at from to Rise (inr (inr (inr (inl pins)))) = at_pins from to 5 6 Rise Rise Net pins.1 pins.0 (8, omega arith, refl)
net_at from to Fall (inr (inr (inr (inl pins)))) = at_pins from to 5 6 Fall Fall Net pins.1 pins.0 (9, omega arith, refl)
net_at from to Rise (inr (inr (inr (inr pins)))) = at_pins from to 0 7 Rise Rise Net pins.1 pins.0 (1, omega arith, refl)
net_at from to Fall (inr (inr (inr (inr pins)))) = at_pins from to 0 7 Fall Fall Net pins.1 pins.0 (3, omega arith, refl)

launch_at : (from to : ℕ) (edge : Edge) → LaunchPins from to → Contains fourteen (launch from to edge)
launch_at from to Rise (inl pins) = at_pins from to 4 5 Rise Rise Launch pins.0 pins.1 (6, omega arith, refl)
launch_at from to Fall (inl pins) = at_pins from to 4 5 Rise Fall Launch pins.0 pins.1 (7, omega arith, refl)
launch_at from to Rise (inr pins) = at_pins from to 7 8 Rise Rise Launch pins.0 pins.1 (10, omega arith, refl)
launch_at from to Fall (inr pins) = at_pins from to 7 8 Rise Fall Launch pins.0 pins.1 (11, omega arith, refl)

arc_in : (from to : Node) (kind : ArcKind) → IsArcOf two_registers from to kind → Contains fourteen (arc_of from to kind)
arc_in from to Net arc =
    let known = (nets from to).0 arc in
    subst (λ edge. Contains fourteen (arc_of from (node_at to.pin.0 edge) Net)) known.0 (net_at from.pin.0 to.pin.0 from.edge known.1)
arc_in from to Cell arc = absurd (no_cell_arc from to arc)
arc_in from to Launch arc =
    let known = (launches from to).0 arc in
    subst (λ edge. Contains fourteen (arc_of (node_at from.pin.0 edge) to Launch)) (sym known.0)
    (launch_at from.pin.0 to.pin.0 to.edge known.1)

-- ---- they stand in order

abbrev EndsBefore : Arc → Arc → Type 0
EndsBefore arc other =
    (node_number arc.to < node_number other.to) ⊎ ((arc.to ≡ other.to) × (kind_number arc.kind < kind_number other.kind))

ends_on : (a b c : Arc) → EndsBefore a b → EndsBefore b c → EndsBefore a c
ends_on a b c (inl one) (inl other) = inl (lt_trans one other)
ends_on a b c (inl one) (inr other) = inl (subst (λ node. node_number a.to < node_number node) other.0 one)
ends_on a b c (inr one) (inl other) = inl (subst (λ node. node_number node < node_number c.to) (sym one.0) other)
ends_on a b c (inr one) (inr other) =
    inr (one.0 ∙ other.0, lt_trans one.1 other.1)

stands_on : (a b c : Arc) → ArcStandsBefore a b → ArcStandsBefore b c → ArcStandsBefore a c
stands_on a b c (inl one) (inl other) = inl (lt_trans one other)
stands_on a b c (inl one) (inr other) = inl (subst (λ node. node_number a.from < node_number node) other.0 one)
stands_on a b c (inr one) (inl other) = inl (subst (λ node. node_number node < node_number c.from) (sym one.0) other)
stands_on a b c (inr one) (inr other) = inr (one.0 ∙ other.0, ends_on a b c one.1 other.1)

-- each arc stands before the next one
abbrev AreChained : List Arc → Type 0
AreChained [] = Unit {0}
AreChained (arc ∷ []) = Unit {0}
AreChained (arc ∷ (next ∷ arcs)) = ArcStandsBefore arc next × AreChained (next ∷ arcs)

first_before : (arc : Arc) (arcs : List Arc) → AreChained (arc ∷ arcs) → (j : ℕ) (other : Arc) → slice_get arcs j ≡ Some other
    → ArcStandsBefore arc other
first_before arc [] chained j other is = absurd (none-some other is)
first_before arc (next ∷ arcs) chained zero other is = subst (ArcStandsBefore arc) (same_Some next other is) chained.0
first_before arc (next ∷ arcs) chained (suc j) other is = stands_on arc next other chained.0 (first_before next arcs chained.1 j other is)

rest_chained : (arc : Arc) (arcs : List Arc) → AreChained (arc ∷ arcs) → AreChained arcs
rest_chained arc [] chained = tt
rest_chained arc (next ∷ arcs) chained = chained.1

in_order : (arcs : List Arc) → AreChained arcs → AreInOrder arcs
in_order [] chained i j arc other less first second = absurd (none-some arc first)
in_order (a ∷ arcs) chained i zero arc other less first second = absurd (omega arith)
in_order (a ∷ arcs) chained zero (suc j) arc other less first second =
    subst (λ (one : Arc). ArcStandsBefore one other) (same_Some a arc first) (first_before a arcs chained j other second)
in_order (a ∷ arcs) chained (suc i) (suc j) arc other less first second =
    in_order arcs (rest_chained a arcs chained) i j arc other (omega arith) first second

chained : AreChained fourteen
chained =
    let last : AreChained (drop 12 fourteen) = (inl (omega arith), tt) in
    let third : AreChained (drop 8 fourteen)
    = (inl (omega arith), (inl (omega arith), (inr (refl, inl (omega arith)), (inl (omega arith), last)))) in
    let second : AreChained (drop 4 fourteen)
    = (inl (omega arith), (inl (omega arith), (inr (refl, inl (omega arith)), (inl (omega arith), third)))) in
    (inr (refl, inl (omega arith)), (inl (omega arith), (inr (refl, inl (omega arith)), (inl (omega arith), second))))

-- ---- its checks are the design's, each once

check_is : (end clock : ℕ) (side : Side) → CheckedPins end clock → IsCheck two_registers (check end clock side)
check_is end clock side pins = (checks (check end clock side)).1 (refl, pins)

first_check : (side : Side) → IsCheck two_registers (check 3 4 side)
first_check side = check_is 3 4 side (inl (refl, refl))

second_check : (side : Side) → IsCheck two_registers (check 6 7 side)
second_check side = check_is 6 7 side (inr (refl, refl))

each_check : All (IsCheck two_registers) four
each_check = All-from_recursion (IsCheck two_registers) four (first_check Setup, (first_check Hold, (second_check Setup, (second_check Hold, tt))))

check_pins : (end clock e c : ℕ) (side : Side) → end ≡ e → clock ≡ c → Contains four (check e c side) → Contains four (check end clock side)
check_pins end clock e c side end_is clock_is has =
    subst (λ n. Contains four (check end n side)) (sym clock_is) (subst (λ n. Contains four (check n c side)) (sym end_is) has)

check_at : (end clock : ℕ) (side : Side) → CheckedPins end clock → Contains four (check end clock side)
check_at end clock Setup (inl pins) = check_pins end clock 3 4 Setup pins.0 pins.1 (0, omega arith, refl)
check_at end clock Hold (inl pins) = check_pins end clock 3 4 Hold pins.0 pins.1 (1, omega arith, refl)
check_at end clock Setup (inr pins) = check_pins end clock 6 7 Setup pins.0 pins.1 (2, omega arith, refl)
check_at end clock Hold (inr pins) = check_pins end clock 6 7 Hold pins.0 pins.1 (3, omega arith, refl)

check_in : (one : Check) → IsCheck two_registers one → Contains four one
check_in one is =
    let known = (checks one).0 is in
    subst (λ edge. Contains four (record { end = one.end; clock = node_at one.clock.pin.0 edge; side = one.side })) (sym known.0)
    (check_at one.end.0 one.clock.pin.0 one.side known.1)

side_place : Side → ℕ
side_place Setup = 0
side_place Hold = 1

-- the place of a check, by its pin and side
place_of : Check → ℕ
place_of one = 2 * (one.end.0 / 6) + side_place one.side

at_place : (i : ℕ) (one : Check) → slice_get four i ≡ Some one → i ≡ place_of one
unfolding place_of side_place
at_place zero one is = ap place_of (same_Some (check 3 4 Setup) one is)
at_place (suc zero) one is = ap place_of (same_Some (check 3 4 Hold) one is)
at_place (suc (suc zero)) one is = ap place_of (same_Some (check 6 7 Setup) one is)
at_place (suc (suc (suc zero))) one is = ap place_of (same_Some (check 6 7 Hold) one is)
at_place (suc (suc (suc (suc i)))) one is = absurd (none-some one is)

-- ---- the whole

pub graph_of_two_registers : IsGraphOf two_registers graph
graph_of_two_registers = record {
  pins = refl;
  arcs = λ arc. (All-contains (IsArc two_registers) fourteen arc each_is, arc_in arc.from arc.to arc.kind);
  order = in_order fourteen chained;
  checks = λ one. (All-contains (IsCheck two_registers) four one each_check, check_in one);
  once = λ i j one first second. at_place i one first ∙ sym (at_place j one second);
}
