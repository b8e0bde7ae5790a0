-- The pool of two registers under one clock, by example: its two launched pairs, the clock's rising edge at the clock
-- pin of each register, and an order of its nodes in which every alive arc that launches nothing goes forward.
use Rattle.std.proofs.Common.{◌≡◌, ◌∙◌, ℕ, zero, suc, ◌+◌, ◌*◌, ◌%◌, ◌<◌, List, [], ◌∷◌, Some, refl, sym, ap, subst, inl, inr, arith}
use Rattle.std.specs.Prelude.{drop, slice_get}
use Rattle.std.specs.List.{All, Contains}
use Rattle.std.proofs.lemmas.List.Elements.{All-from_recursion}
use Rattle.std.proofs.lemmas.Option.{none-some, same_Some}
use Rattle.timing_types.specs.declared.class_sets.Launched.{Launched}
use Rattle.timing_types.specs.declared.class_sets.Pool.{Pool}
use Rattle.timing_types.specs.declared.graphs.ArcKind.TheVariants.{Launch}
use Rattle.pin_types.specs.declared.pins.Edge.{Edge}
use Rattle.pin_types.specs.declared.pins.Edge.TheVariants.{Rise, Fall}
use Rattle.pin_types.specs.declared.pins.Node.{Node}
use Rattle.timing_model.specs.Arrival.{GoesOn, IsAmongArrivals}
use Rattle.pin_types.specs.Nodes.{clock_edge, edge_number, node_at}
use Rattle.timing_model.specs.Pools.{AreStarts, IsLaunchedPair, IsOrder, IsPoolOfMode}
use Rattle.timing_model.specs.TimingGraph.{arc_of}
use Rattle.timing_laws.proofs.TwoRegisterGraph.{graph, graph_of_two_registers}
use Rattle.timing_laws.proofs.TwoRegisters.{launches, NetPins}
use Rattle.timing_laws.proofs.TwoRegisterTiming.{among_is, analysis, goes_by_net, Has, not_in, truths}

-- ---- the pool

abbrev pub launched : ℕ → Launched
launched pin = record { start = node_at pin Rise; launch = clock_edge 0 Rise }

abbrev both : ℕ → List Node → List Node
both pin nodes = node_at pin Rise ∷ node_at pin Fall ∷ nodes

-- the pins in turn: the last output stands before the port that it drives
abbrev order : List Node
order = both 8 (both 0 (both 1 (both 2 (both 3 (both 4 (both 5 (both 6 (both 7 []))))))))

abbrev pub pool : Pool
pool = record {
  graph = graph;
  order = order;
  alive = truths;
  modes = truths ∷ [];
  starts = launched 4 ∷ launched 7 ∷ [];
  exceptions = [];
}

-- ---- its starts

starts_launch : (launches_at : Launched) → Contains pool.starts launches_at → IsLaunchedPair analysis launches_at
starts_launch start (zero, below, is) =
    subst (IsLaunchedPair analysis) is (inl ((node_at 5 Rise, (6, omega arith, refl)), (0, omega arith, refl)))
starts_launch start (suc zero, below, is) =
    subst (IsLaunchedPair analysis) is (inl ((node_at 8 Rise, (10, omega arith, refl)), (0, omega arith, refl)))
starts_launch start (suc (suc place), below, is) = absurd (omega arith)

-- what launches at the rising edge of a pin is the clock's rising edge
start_at : (start : Launched) (pin : ℕ) → pin < 9 → start.start.pin.0 ≡ pin → start.start.edge ≡ Rise
    → IsAmongArrivals analysis.arrivals start.launch start.start → launched pin ≡ start
start_at start pin below at edge among =
    let less : start.start.pin.0 < 9 = subst (λ n. n < 9) (sym at) below in
    let known = (among_is start.start.pin.0 start.start.edge start.launch less among).0 in
    let launch : clock_edge 0 Rise ≡ start.launch = sym (known ∙ ap (clock_edge 0) edge) in
    ap (λ n. record { start = node_at n Rise; launch = clock_edge 0 Rise }) (sym at)
    ∙ ap (λ e. record { start = node_at start.start.pin.0 e; launch = clock_edge 0 Rise }) (sym edge)
    ∙ ap (λ l. record { start = start.start; launch = l }) launch

launches_start : (start : Launched) → IsLaunchedPair analysis start → Contains pool.starts start
launches_start start (inl (node, among)) =
    let known = (launches start.start node.0).0 ((graph_of_two_registers.arcs (arc_of start.start node.0 Launch)).0 node.1) in
    elim known.1 [
      | inl first ↦ subst (Contains pool.starts) (start_at start 4 (omega arith) first.0 known.0 among) (0, omega arith, refl)
      | inr second ↦ subst (Contains pool.starts) (start_at start 7 (omega arith) second.0 known.0 among) (1, omega arith, refl)
    ]
launches_start start (inr (port, delayed)) = absurd (not_in delayed.delay delayed.is)

are_starts : AreStarts analysis pool.starts
are_starts start = (starts_launch start, launches_start start)

-- ---- its order

-- the place of a pin among the pins, and of a node by it
turn : ℕ → ℕ
turn pin = (pin + 1) % 9

place_of : Node → ℕ
place_of node = 2 * turn node.pin.0 + edge_number node.edge

-- nodes stand at these places, one after the other from a place on
abbrev ArePlaced : ℕ → List Node → Type 0
ArePlaced from [] = Unit {0}
ArePlaced from (node ∷ nodes) = (place_of node ≡ from) × ArePlaced (suc from) nodes

placed : (nodes : List Node) (from : ℕ) → ArePlaced from nodes → (place : ℕ) (node : Node) → slice_get nodes place ≡ Some node
    → from + place ≡ place_of node
placed [] from are place node is = absurd (none-some node is)
placed (first ∷ nodes) from are zero node is =
    let at : place_of first ≡ from = are.0 in
    let same = ap place_of (same_Some first node is) in omega arith
placed (first ∷ nodes) from are (suc place) node is =
    let later : suc from + place ≡ place_of node = placed nodes (suc from) are.1 place node is in omega arith

in_places : ArePlaced 0 order
unfolding place_of turn
in_places =
    let last : ArePlaced 12 (drop 12 order) = (refl, (refl, (refl, (refl, (refl, (refl, tt)))))) in
    let second : ArePlaced 6 (drop 6 order) = (refl, (refl, (refl, (refl, (refl, (refl, last)))))) in
    (refl, (refl, (refl, (refl, (refl, (refl, second))))))

at_place : (place : ℕ) (node : Node) → slice_get order place ≡ Some node → place ≡ place_of node
at_place place node is = let at : 0 + place ≡ place_of node = placed order 0 in_places place node is in omega arith

every : (pin : ℕ) (edge : Edge) → pin < 9 → Contains order (node_at pin edge)
every zero Rise below = (2, omega arith, refl)
every zero Fall below = (3, omega arith, refl)
every (suc zero) Rise below = (4, omega arith, refl)
every (suc zero) Fall below = (5, omega arith, refl)
every (suc (suc zero)) Rise below = (6, omega arith, refl)
every (suc (suc zero)) Fall below = (7, omega arith, refl)
every (suc (suc (suc zero))) Rise below = (8, omega arith, refl)
every (suc (suc (suc zero))) Fall below = (9, omega arith, refl)
every (suc (suc (suc (suc zero)))) Rise below = (10, omega arith, refl)
every (suc (suc (suc (suc zero)))) Fall below = (11, omega arith, refl)
every (suc (suc (suc (suc (suc zero))))) Rise below = (12, omega arith, refl)
every (suc (suc (suc (suc (suc zero))))) Fall below = (13, omega arith, refl)
every (suc (suc (suc (suc (suc (suc zero)))))) Rise below = (14, omega arith, refl)
every (suc (suc (suc (suc (suc (suc zero)))))) Fall below = (15, omega arith, refl)
every (suc (suc (suc (suc (suc (suc (suc zero))))))) Rise below = (16, omega arith, refl)
every (suc (suc (suc (suc (suc (suc (suc zero))))))) Fall below = (17, omega arith, refl)
every (suc (suc (suc (suc (suc (suc (suc (suc zero)))))))) Rise below = (0, omega arith, refl)
every (suc (suc (suc (suc (suc (suc (suc (suc zero)))))))) Fall below = (1, omega arith, refl)
every (suc (suc (suc (suc (suc (suc (suc (suc (suc pin))))))))) edge below = absurd (omega arith)

abbrev AreBelow : List Node → Type 0
AreBelow [] = Unit {0}
AreBelow (node ∷ nodes) = (node.pin.0 < 9) × AreBelow nodes

within : All (λ (node : Node). node.pin.0 < 9) order
within =
    let last : AreBelow (drop 12 order) = (omega arith, (omega arith, (omega arith, (omega arith, (omega arith, (omega arith, tt)))))) in
    let second : AreBelow (drop 6 order) = (omega arith, (omega arith, (omega arith, (omega arith, (omega arith, (omega arith, last)))))) in
    All-from_recursion (λ (node : Node). node.pin.0 < 9) order
    (omega arith, (omega arith, (omega arith, (omega arith, (omega arith, (omega arith, second))))))

-- a driver's pin stands before its load's
turns : (to from load driver : ℕ) → to ≡ load → from ≡ driver → turn driver < turn load → turn from < turn to
turns to from load driver to_is from_is less =
    subst (λ n. turn n < turn to) (sym from_is) (subst (λ n. turn driver < turn n) (sym to_is) less)

net_forward : (to from : ℕ) → NetPins to from → turn from < turn to
unfolding turn
net_forward to from (inl at) = turns to from 2 8 at.0 at.1 (omega arith)
net_forward to from (inr (inl at)) = turns to from 3 1 at.0 at.1 (omega arith)
net_forward to from (inr (inr (inl at))) = turns to from 4 0 at.0 at.1 (omega arith)
net_forward to from (inr (inr (inr (inl at)))) = turns to from 6 5 at.0 at.1 (omega arith)
net_forward to from (inr (inr (inr (inr at)))) = turns to from 7 0 at.0 at.1 (omega arith)

less_by : (a b c d : ℕ) → a < b → c < 2 → c ≡ d → 2 * a + c < 2 * b + d
less_by a b c d less small same = omega arith

edge_small : (edge : Edge) → edge_number edge < 2
edge_small Rise = omega arith
edge_small Fall = omega arith

goes_forward : (from to : Node) → GoesOn Has from to → place_of from < place_of to
unfolding place_of
goes_forward from to arc =
    let net = goes_by_net from to arc in
    let less : turn from.pin.0 < turn to.pin.0 = net_forward to.pin.0 from.pin.0 net.1 in
    let same : edge_number from.edge ≡ edge_number to.edge = ap edge_number net.0 in
    less_by (turn from.pin.0) (turn to.pin.0) (edge_number from.edge) (edge_number to.edge) less (edge_small from.edge) same

is_order : IsOrder graph truths order
is_order = record {
  every = λ node below. every node.pin.0 node.edge below;
  within = within;
  once = λ i j node first second. at_place i node first ∙ sym (at_place j node second);
  forward = λ i j from to arc first second.
      subst (λ n. i < n) (sym (at_place j to second)) (subst (λ n. n < place_of to) (sym (at_place i from first)) (goes_forward from to arc));
}

pub pool_of_two_registers : IsPoolOfMode analysis pool
pool_of_two_registers = record { graph = refl; order = is_order; alive = refl; modes = refl; starts = are_starts; exceptions = refl }
