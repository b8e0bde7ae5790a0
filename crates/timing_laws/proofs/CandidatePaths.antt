-- A candidate is a path of alive arcs: its first arc and its end are those of a path.
use Rattle.std.proofs.Common.{◌≡◌, List, [], ◌∷◌, Some, Option, refl, sym, ap, subst, inl, inr}
use Rattle.std.specs.Option.{option_map, unwrap_or}
use Rattle.pin_types.specs.declared.pins.ClockEdge.{ClockEdge}
use Rattle.pin_types.specs.declared.pins.Node.{Node}
use Rattle.pin_types.specs.declared.pins.Side.{Side}
use Rattle.timing_model.specs.Analysis.{Analysis, Alive}
use Rattle.timing_model.specs.Arrival.{GoesOn}
use Rattle.timing_model.specs.Timed.{AreLaunched, IsCapturedBy, IsLaunchedBy}
use Rattle.timing_model.specs.TimingPath.{Begins, Ends, ends_of, IsEnd, IsJoined, IsPath}

joined_so : (First Second Other : Node → Node → Type 0) → ((from to : Node) → First from to → Second from to) → (node : Node) (before : List Node)
    → IsJoined First Other node before → IsJoined Second Other node before
joined_so First Second Other each node [] joined = joined
joined_so First Second Other each node (start ∷ []) joined = each start node joined
joined_so First Second Other each node (last ∷ (before ∷ others)) joined =
    (joined.0, joined_so First Second Other each last (before ∷ others) joined.1)

begins_so : (analysis : Analysis) (side : Side) (edge : ClockEdge) (from to : Node) → IsLaunchedBy analysis side edge from to
    → Begins (Alive analysis) analysis.design from to
begins_so analysis side edge from to (inl launched) = inl launched.0
begins_so analysis side edge from to (inr entered) = inr (entered.0, entered.1)

ends_so : (analysis : Analysis) (side : Side) (last : Node) (edge : ClockEdge) → IsCapturedBy analysis side last edge
    → IsEnd analysis.design analysis.graph last.pin
ends_so analysis side last edge (inl checked) =
    inl (record { end = last.pin; clock = checked.0; side = side }, checked.1, refl)
ends_so analysis side last edge (inr left) = inr left.0

pub path_so : (analysis : Analysis) (side : Side) (launch capture : ClockEdge) (nodes : List Node) (ends : Ends)
    → ends_of nodes launch capture ≡ Some ends → AreLaunched analysis side launch nodes → IsCapturedBy analysis side ends.last capture
    → IsPath (Alive analysis) analysis.design analysis.graph nodes
path_so analysis side launch capture [] ends are launched captured = absurd launched
path_so analysis side launch capture (last ∷ before) ends are launched captured =
    let same : last ≡ ends.last = ap (λ (found : Option Ends). unwrap_or (option_map (λ (e : Ends). e.last) found) last) are in (
      joined_so (IsLaunchedBy analysis side launch) (Begins (Alive analysis) analysis.design) (GoesOn (Alive analysis))
          (begins_so analysis side launch) last before launched,
      subst (λ (node : Node). IsEnd analysis.design analysis.graph node.pin) (sym same) (ends_so analysis side ends.last capture captured),
    )
