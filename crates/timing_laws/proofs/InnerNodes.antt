-- An arc that launches nothing leaves no launching and no checked pin, so no inner node of a path is at one.
use Rattle.std.proofs.Common.{List, [], ◌∷◌, inl, inr}
use Rattle.timing_types.specs.declared.designs.Design.{Design}
use Rattle.timing_types.specs.declared.graphs.ArcKind.TheVariants.{Net, Cell}
use Rattle.timing_types.specs.declared.graphs.Graph.{Graph}
use Rattle.pin_types.specs.declared.pins.Node.{Node}
use Rattle.timing_model.specs.AliveArcs.{HasArc}
use Rattle.timing_model.specs.Arrival.{GoesOn}
use Rattle.timing_model.specs.TimingGraph.{arc_of, IsGraphOf}
use Rattle.design_model.specs.LibraryArcs.{IsChecked, IsLaunching}
use Rattle.timing_model.specs.TimingPath.{Begins, BetweenEnds, IsJoined}

abbrev IsFree : Design → Node → Type 0
IsFree design node = (IsLaunching design node.pin.0 → ⊥) × (IsChecked design node.pin.0 → ⊥)

module _ (design : Design) (graph : Graph) (is : IsGraphOf design graph) where
  left_free : (from to : Node) → GoesOn (HasArc graph) from to → IsFree design from
  left_free from to (inl net) = let arc = (is.arcs (arc_of from to Net)).0 net in (arc.not_launching, arc.not_checked)
  left_free from to (inr cell) = let arc = (is.arcs (arc_of from to Cell)).0 cell in (arc.source_not_launching, arc.source_not_checked)

  pub inner_free : (node : Node) (before : List Node) → IsJoined (Begins (HasArc graph) design) (GoesOn (HasArc graph)) node before
      → BetweenEnds (IsFree design) before
  inner_free node [] joined = absurd joined
  inner_free node (start ∷ []) joined = tt
  inner_free node (last ∷ (before ∷ others)) joined = (left_free last node joined.0, inner_free last (before ∷ others) joined.1)
