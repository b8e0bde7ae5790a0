-- The classes of two registers under one clock, by example. The clock's rising edge launches at both registers; from
-- each there is one class at its clock pin, at both edges of its output, and at both edges of what the output drives.
-- That is five a register, and ten in all.
use Rattle.std.proofs.Common.{◌≡◌, ◌∙◌, ℕ, zero, suc, ◌<◌, ◌≤◌, List, [], ◌∷◌, Some, refl, sym, ap, subst, inl, inr, arith}
use Rattle.std.specs.Prelude.{◌⊎◌, ◌↔◌, Bool, drop, slice_get}
use Rattle.std.specs.List.{Contains}
use Rattle.std.specs.Option.{unwrap_or}
use Rattle.std.specs.Int.{bit_at}
use Rattle.std.proofs.lemmas.Option.{none-some, same_Some, slice_get_within}
use Rattle.timing_types.specs.declared.class_sets.Class.{Class}
use Rattle.timing_types.specs.declared.class_sets.ClassSets.{ClassSets}
use Rattle.timing_types.specs.declared.class_sets.Launched.{Launched}
use Rattle.timing_types.specs.declared.class_sets.Met.{Met}
use Rattle.timing_types.specs.declared.graphs.ArcKind.{ArcKind}
use Rattle.timing_types.specs.declared.graphs.ArcKind.TheVariants.{Net, Launch}
use Rattle.pin_types.specs.declared.pins.Edge.{Edge}
use Rattle.pin_types.specs.declared.pins.Edge.TheVariants.{Rise, Fall}
use Rattle.pin_types.specs.declared.pins.Node.{Node}
use Rattle.timing_model.specs.AliveArcs.{HasAliveArc}
use Rattle.timing_model.specs.Arrival.{GoesOn, Launches}
use Rattle.timing_model.specs.Classes.{AreClassSets, AreLinked, ClassCountIs, classes_at, HasMet, IsClassAt, IsClassOf, IsFirstArc, IsLaunchNode, IsProgress}
use Rattle.pin_types.specs.Nodes.{clock_edge, node_at, node_number}
use Rattle.timing_model.specs.TimingGraph.{arc_of}
use Rattle.timing_model.specs.TimingPath.{first_node, IsJoined}
use Rattle.timing_laws.proofs.TwoRegisterGraph.{fourteen, graph, graph_of_two_registers}
use Rattle.timing_laws.proofs.TwoRegisterPool.{launched, pool}
use Rattle.timing_laws.proofs.TwoRegisters.{launches, LaunchPins, NetPins, only}
use Rattle.timing_laws.proofs.TwoRegisterTiming.{all_true, AreShort, goes_by_net, Has, has_arc, no, not_in, one, short_at, truths}

-- ---- the class of each prefix

abbrev class : ℕ → Class
class pin = record { launch = clock_edge 0 Rise; start = node_at pin Rise; modes = 1; progress = [] }

nothing_met : (start : Launched) (nodes : List Node) (met : Met) → HasMet pool start nodes met → ⊥
nothing_met start nodes met has = none-some has.exception has.is

-- all arcs are alive in the one mode
linked_in : (nodes : List Node) → AreLinked graph Has nodes → (place : ℕ) (alive : List Bool) → slice_get pool.modes place ≡ Some alive
    → (bit_at 1 place ≡ 1) ↔ AreLinked graph (HasAliveArc graph alive) nodes
linked_in nodes linked zero alive is =
    (λ set. subst (λ (a : List Bool). AreLinked graph (HasAliveArc graph a) nodes) (same_Some truths alive is) linked, λ here. refl)
linked_in nodes linked (suc place) alive is = absurd (none-some alive is)

class_of : (pin : ℕ) (nodes : List Node) → AreLinked graph Has nodes → IsClassOf pool (launched pin) nodes (class pin)
class_of pin nodes linked = record {
  launch = refl;
  start = refl;
  modes = record { within = omega arith; each = linked_in nodes linked };
  progress = record {
    members = λ met. (λ has. absurd (not_in met has), λ has. absurd (nothing_met (launched pin) nodes met has));
    order = λ i j x y less first second. absurd (none-some x first);
  };
}

no_progress : (start : Launched) (nodes : List Node) (progress : List Met) → IsProgress pool start nodes progress → [] ≡ progress
no_progress start nodes [] is = refl
no_progress start nodes (met ∷ mets) is = absurd (nothing_met start nodes met ((is.members met).0 (0, omega arith, refl)))

-- of one mode, a set bit says that it is the one
one_mode : (modes : ℕ) → modes < 2 → bit_at modes 0 ≡ 1 → 1 ≡ modes
one_mode zero below bit = absurd (omega arith)
one_mode (suc zero) below bit = refl
one_mode (suc (suc modes)) below bit = absurd (omega arith)

class_is : (pin : ℕ) (nodes : List Node) (start : Launched) (one : Class) → AreLinked graph Has nodes → launched pin ≡ start
    → IsClassOf pool start nodes one → class pin ≡ one
class_is pin nodes start one linked same is =
    let launch : clock_edge 0 Rise ≡ one.launch = ap (λ (l : Launched). l.launch) same ∙ sym is.launch in
    let from : node_at pin Rise ≡ one.start = ap (λ (l : Launched). l.start) same ∙ sym is.start in
    let modes : 1 ≡ one.modes = one_mode one.modes is.modes.within ((is.modes.each 0 truths refl).1 linked) in
    let progress : [] ≡ one.progress = no_progress start nodes one.progress is.progress in
    ap (λ x. record { launch = x; start = node_at pin Rise; modes = 1; progress = [] }) launch
    ∙ ap (λ x. record { launch = one.launch; start = x; modes = 1; progress = [] }) from
    ∙ ap (λ x. record { launch = one.launch; start = one.start; modes = x; progress = [] }) modes
    ∙ ap (λ x. record { launch = one.launch; start = one.start; modes = one.modes; progress = x }) progress

-- ---- where prefixes end

-- the clock pin of the register that launches to each pin, or 0
register_of : ℕ → ℕ
register_of pin = unwrap_or (slice_get (0 ∷ 0 ∷ 7 ∷ 0 ∷ 0 ∷ 4 ∷ 4 ∷ 0 ∷ 7 ∷ []) pin) 0

-- a net leads on after the register that it comes from
after_net : (to from : ℕ) → NetPins to from → 1 ≤ register_of from → register_of to ≡ register_of from
unfolding register_of
after_net to from (inl at) some = ap register_of at.0 ∙ sym (ap register_of at.1)
after_net to from (inr (inl at)) some = let none : register_of from ≡ 0 = ap register_of at.1 in absurd (omega arith)
after_net to from (inr (inr (inl at))) some = let none : register_of from ≡ 0 = ap register_of at.1 in absurd (omega arith)
after_net to from (inr (inr (inr (inl at)))) some = ap register_of at.0 ∙ sym (ap register_of at.1)
after_net to from (inr (inr (inr (inr at)))) some = let none : register_of from ≡ 0 = ap register_of at.1 in absurd (omega arith)

after_launch : (clock to : ℕ) → LaunchPins clock to → register_of to ≡ clock
unfolding register_of
after_launch clock to (inl at) = ap register_of at.1 ∙ sym at.0
after_launch clock to (inr at) = ap register_of at.1 ∙ sym at.0

-- the clock pin of one of the registers
abbrev IsClock : ℕ → Type 0
IsClock clock = (clock ≡ 4) ⊎ (clock ≡ 7)

launch_node : (clock : ℕ) → IsClock clock → IsLaunchNode graph (node_at clock Rise)
launch_node clock (inl is) = subst (λ n. IsLaunchNode graph (node_at n Rise)) (sym is) (node_at 5 Rise, (6, omega arith, refl))
launch_node clock (inr is) = subst (λ n. IsLaunchNode graph (node_at n Rise)) (sym is) (node_at 8 Rise, (10, omega arith, refl))

some_clock : (clock : ℕ) → IsClock clock → 1 ≤ clock
some_clock clock (inl is) = omega arith
some_clock clock (inr is) = omega arith

launch_pins : (from to : Node) → Launches Has from to → LaunchPins from.pin.0 to.pin.0
launch_pins from to arc =
    ((launches from to).0 ((graph_of_two_registers.arcs (arc_of from to Launch)).0 (has_arc arc.0 (arc_of from to Launch) arc.1))).1

after_first : (clock : ℕ) (from to : Node) → IsClock clock → from ≡ node_at clock Rise → IsFirstArc graph Has from to
    → register_of to.pin.0 ≡ clock
after_first clock from to is same (inl launch) =
    after_launch clock to.pin.0 (subst (λ (n : Node). LaunchPins n.pin.0 to.pin.0) same (launch_pins from to launch))
after_first clock from to is same (inr on) = absurd (on.0 (subst (IsLaunchNode graph) (sym same) (launch_node clock is)))

-- a walk of one or more arcs ends after its register
after_walk : (clock : ℕ) (node last : Node) (before : List Node) → IsClock clock → first_node last before ≡ node_at clock Rise
    → IsJoined (IsFirstArc graph Has) (GoesOn Has) node (last ∷ before) → register_of node.pin.0 ≡ clock
after_walk clock node last [] is starts walk = after_first clock last node is starts walk
after_walk clock node last (other ∷ before) is starts walk =
    let shorter = after_walk clock last other before is starts walk.1 in
    let some = subst (λ n. 1 ≤ n) (sym shorter) (some_clock clock is) in
    after_net node.pin.0 last.pin.0 (goes_by_net last node walk.0).1 some ∙ shorter

-- ---- the sets

abbrev from_first : List Class
from_first = class 4 ∷ []

abbrev from_second : List Class
from_second = class 7 ∷ []

-- pin by pin from pin 0, of each its rising edge first
abbrev pub sets : ClassSets
sets = record {
  at =
      [] ∷ [] ∷ [] ∷ [] ∷ from_second ∷ from_second ∷ [] ∷ [] ∷ from_first ∷ [] ∷ from_first ∷ from_first ∷ from_first ∷ from_first
      ∷ from_second ∷ [] ∷ from_second ∷ from_second ∷ [];
}

abbrev IsListed : ℕ → Edge → Class → Type 0
IsListed pin edge one = Contains (classes_at sets (node_number (node_at pin edge))) one

-- after a register its class is listed
after_listed : (pin : ℕ) (edge : Edge) → 1 ≤ register_of pin → IsListed pin edge (class (register_of pin))
unfolding register_of
after_listed zero edge some = absurd (omega arith)
after_listed (suc zero) edge some = absurd (omega arith)
after_listed (suc (suc zero)) Rise some = (0, omega arith, refl)
after_listed (suc (suc zero)) Fall some = (0, omega arith, refl)
after_listed (suc (suc (suc zero))) edge some = absurd (omega arith)
after_listed (suc (suc (suc (suc zero)))) edge some = absurd (omega arith)
after_listed (suc (suc (suc (suc (suc zero))))) Rise some = (0, omega arith, refl)
after_listed (suc (suc (suc (suc (suc zero))))) Fall some = (0, omega arith, refl)
after_listed (suc (suc (suc (suc (suc (suc zero)))))) Rise some = (0, omega arith, refl)
after_listed (suc (suc (suc (suc (suc (suc zero)))))) Fall some = (0, omega arith, refl)
after_listed (suc (suc (suc (suc (suc (suc (suc zero))))))) edge some = absurd (omega arith)
after_listed (suc (suc (suc (suc (suc (suc (suc (suc zero)))))))) Rise some = (0, omega arith, refl)
after_listed (suc (suc (suc (suc (suc (suc (suc (suc zero)))))))) Fall some = (0, omega arith, refl)
after_listed (suc (suc (suc (suc (suc (suc (suc (suc (suc pin))))))))) edge some = absurd (omega arith)

clock_listed : (clock : ℕ) → IsClock clock → IsListed clock Rise (class clock)
clock_listed clock (inl is) = subst (λ n. IsListed n Rise (class n)) (sym is) (0, omega arith, refl)
clock_listed clock (inr is) = subst (λ n. IsListed n Rise (class n)) (sym is) (0, omega arith, refl)

prefix_listed : (clock : ℕ) (node : Node) (before : List Node) → IsClock clock → first_node node before ≡ node_at clock Rise
    → AreLinked graph Has (node ∷ before) → IsListed node.pin.0 node.edge (class clock)
prefix_listed clock node [] is starts linked =
    subst (λ (n : Node). IsListed n.pin.0 n.edge (class clock)) (sym starts) (clock_listed clock is)
prefix_listed clock node (last ∷ before) is starts linked =
    let after = after_walk clock node last before is starts linked in
    let some = subst (λ n. 1 ≤ n) (sym after) (some_clock clock is) in
    subst (λ n. IsListed node.pin.0 node.edge (class n)) after (after_listed node.pin.0 node.edge some)

abbrev IsStartOf : Launched → ℕ → Type 0
IsStartOf start clock = IsClock clock × (launched clock ≡ start)

start_is : (start : Launched) → Contains pool.starts start → (clock : ℕ) × IsStartOf start clock
start_is start (zero, below, is) = (4, (inl refl, is))
start_is start (suc zero, below, is) = (7, (inr refl, is))
start_is start (suc (suc place), below, is) = absurd (omega arith)

-- a class of a prefix is listed where the prefix ends
class_listed : (node : Node) (one : Class) → IsClassAt pool node one → IsListed node.pin.0 node.edge one
class_listed node one (start, before, prefix, is) =
    let known = start_is start prefix.launches in
    let starts = prefix.start ∙ sym (ap (λ (l : Launched). l.start) known.1.1) in
    subst (IsListed node.pin.0 node.edge) (class_is known.0 (node ∷ before) start one prefix.joined known.1.1 is)
    (prefix_listed known.0 node before known.1.0 starts prefix.joined)

-- ---- what is listed is the class of a prefix

prefix_at : (clock : ℕ) (node : Node) (before : List Node) → Contains pool.starts (launched clock)
    → first_node node before ≡ node_at clock Rise → AreLinked graph Has (node ∷ before) → IsClassAt pool node (class clock)
prefix_at clock node before launches_at starts linked =
    (launched clock, before, record { launches = launches_at; start = starts; joined = linked }, class_of clock (node ∷ before) linked)

first_start : Contains pool.starts (launched 4)
first_start = (0, omega arith, refl)

second_start : Contains pool.starts (launched 7)
second_start = (1, omega arith, refl)

-- an arc of the graph is alive
alive_at : (place : ℕ) (from to : Node) (kind : ArcKind) → slice_get fourteen place ≡ Some (arc_of from to kind) → Has (arc_of from to kind)
alive_at place from to kind is = (place, is, all_true fourteen place (arc_of from to kind) is)

first_output : (edge : Edge) → IsFirstArc graph Has (node_at 4 Rise) (node_at 5 edge)
first_output Rise = inl (alive_at 6 (node_at 4 Rise) (node_at 5 Rise) Launch refl)
first_output Fall = inl (alive_at 7 (node_at 4 Rise) (node_at 5 Fall) Launch refl)

second_output : (edge : Edge) → IsFirstArc graph Has (node_at 7 Rise) (node_at 8 edge)
second_output Rise = inl (alive_at 10 (node_at 7 Rise) (node_at 8 Rise) Launch refl)
second_output Fall = inl (alive_at 11 (node_at 7 Rise) (node_at 8 Fall) Launch refl)

first_load : (edge : Edge) → GoesOn Has (node_at 5 edge) (node_at 6 edge)
first_load Rise = inl (alive_at 8 (node_at 5 Rise) (node_at 6 Rise) Net refl)
first_load Fall = inl (alive_at 9 (node_at 5 Fall) (node_at 6 Fall) Net refl)

second_load : (edge : Edge) → GoesOn Has (node_at 8 edge) (node_at 2 edge)
second_load Rise = inl (alive_at 12 (node_at 8 Rise) (node_at 2 Rise) Net refl)
second_load Fall = inl (alive_at 13 (node_at 8 Fall) (node_at 2 Fall) Net refl)

of_only : (clock : ℕ) (node : Node) (one : Class) → IsClassAt pool node (class clock) → Contains (class clock ∷ []) one
    → IsClassAt pool node one
of_only clock node one is has = subst (IsClassAt pool node) (only (class clock) one has.0 has.1 has.2) is

to_first : IsClassAt pool (node_at 4 Rise) (class 4)
to_first = prefix_at 4 (node_at 4 Rise) [] first_start refl tt

to_output : (edge : Edge) → IsClassAt pool (node_at 5 edge) (class 4)
to_output edge = prefix_at 4 (node_at 5 edge) (node_at 4 Rise ∷ []) first_start refl (first_output edge)

to_load : (edge : Edge) → IsClassAt pool (node_at 6 edge) (class 4)
to_load edge = prefix_at 4 (node_at 6 edge) (node_at 5 edge ∷ node_at 4 Rise ∷ []) first_start refl (first_load edge, first_output edge)

to_second : IsClassAt pool (node_at 7 Rise) (class 7)
to_second = prefix_at 7 (node_at 7 Rise) [] second_start refl tt

to_last : (edge : Edge) → IsClassAt pool (node_at 8 edge) (class 7)
to_last edge = prefix_at 7 (node_at 8 edge) (node_at 7 Rise ∷ []) second_start refl (second_output edge)

to_port : (edge : Edge) → IsClassAt pool (node_at 2 edge) (class 7)
to_port edge = prefix_at 7 (node_at 2 edge) (node_at 8 edge ∷ node_at 7 Rise ∷ []) second_start refl (second_load edge, second_output edge)

listed_class : (pin : ℕ) (edge : Edge) (one : Class) → pin < 9 → IsListed pin edge one → IsClassAt pool (node_at pin edge) one
listed_class zero Rise one below has = absurd (not_in one has)
listed_class zero Fall one below has = absurd (not_in one has)
listed_class (suc zero) Rise one below has = absurd (not_in one has)
listed_class (suc zero) Fall one below has = absurd (not_in one has)
listed_class (suc (suc zero)) Rise one below has = of_only 7 (node_at 2 Rise) one (to_port Rise) has
listed_class (suc (suc zero)) Fall one below has = of_only 7 (node_at 2 Fall) one (to_port Fall) has
listed_class (suc (suc (suc zero))) Rise one below has = absurd (not_in one has)
listed_class (suc (suc (suc zero))) Fall one below has = absurd (not_in one has)
listed_class (suc (suc (suc (suc zero)))) Rise one below has = of_only 4 (node_at 4 Rise) one to_first has
listed_class (suc (suc (suc (suc zero)))) Fall one below has = absurd (not_in one has)
listed_class (suc (suc (suc (suc (suc zero))))) Rise one below has = of_only 4 (node_at 5 Rise) one (to_output Rise) has
listed_class (suc (suc (suc (suc (suc zero))))) Fall one below has = of_only 4 (node_at 5 Fall) one (to_output Fall) has
listed_class (suc (suc (suc (suc (suc (suc zero)))))) Rise one below has = of_only 4 (node_at 6 Rise) one (to_load Rise) has
listed_class (suc (suc (suc (suc (suc (suc zero)))))) Fall one below has = of_only 4 (node_at 6 Fall) one (to_load Fall) has
listed_class (suc (suc (suc (suc (suc (suc (suc zero))))))) Rise one below has = of_only 7 (node_at 7 Rise) one to_second has
listed_class (suc (suc (suc (suc (suc (suc (suc zero))))))) Fall one below has = absurd (not_in one has)
listed_class (suc (suc (suc (suc (suc (suc (suc (suc zero)))))))) Rise one below has = of_only 7 (node_at 8 Rise) one (to_last Rise) has
listed_class (suc (suc (suc (suc (suc (suc (suc (suc zero)))))))) Fall one below has = of_only 7 (node_at 8 Fall) one (to_last Fall) has
listed_class (suc (suc (suc (suc (suc (suc (suc (suc (suc pin))))))))) edge one below has = absurd (omega arith)

-- ---- ten classes

short : AreShort sets.at
short =
    let last : AreShort (drop 12 sets.at) = (one, (one, (one, (no, (one, (one, tt)))))) in
    let second : AreShort (drop 6 sets.at) = (no, (no, (one, (no, (one, (one, last)))))) in
    (no, (no, (no, (no, (one, (one, second))))))

are_sets : AreClassSets pool sets
are_sets = record {
  nodes = refl;
  members = λ node class below. (listed_class node.pin.0 node.edge class below, class_listed node class);
  once = λ node i j class first second.
      let few = short_at sets.at short node in
      let within_first = slice_get_within (classes_at sets node) i class first in
      let within_second = slice_get_within (classes_at sets node) j class second in omega arith;
}

pub ten_classes : ClassCountIs pool 10
ten_classes = (sets, are_sets, refl)
