-- Through lists that a walk meets it still meets when it goes on: the places on it stay.
use Rattle.std.proofs.Common.{◌≡◌, ℕ, ◌≤◌, List, [], ◌∷◌, subst, sym, inl, inr, arith}
use Rattle.std.specs.Prelude.{Some, reverse, slice_get, take}
use Rattle.std.specs.List.{AllZip}
use Rattle.std.proofs.lemmas.Bool.{cases_lt}
use Rattle.std.proofs.lemmas.List.{reverse-append}
use Rattle.timing_types.specs.declared.constraints.Through.{Through}
use Rattle.pin_types.specs.declared.pins.Node.{Node}
use Rattle.timing_model.specs.Classes.{IsMostMet}
use Rattle.timing_model.specs.Matching.{AreMet, HasNodeAt, IsIn}
use Rattle.text_model.proofs.ListFacts.{front_at}

-- a node of a walk stands at its place when the walk goes on
still_there : (node : Node) (nodes : List Node) (place : ℕ) (other : Node) → HasNodeAt nodes place other → HasNodeAt (node ∷ nodes) place other
still_there node nodes place other is =
    subst (λ walk. slice_get walk place ≡ Some other) (sym (reverse-append (node ∷ []) nodes)) (front_at (reverse nodes) (node ∷ []) place other is)

still_each : (node : Node) (nodes : List Node) (lists : List Through) (places : List ℕ)
    → AllZip (λ list place. (met : Node) × HasNodeAt nodes place met × IsIn list met) lists places
    → AllZip (λ list place. (met : Node) × HasNodeAt (node ∷ nodes) place met × IsIn list met) lists places
still_each node nodes [] [] each = tt
still_each node nodes [] (place ∷ places) each = absurd each
still_each node nodes (list ∷ lists) [] each = absurd each
still_each node nodes (list ∷ lists) (place ∷ places) each =
    ((each.0.0, still_there node nodes place each.0.0 each.0.1, each.0.2), still_each node nodes lists places each.1)

still_met : (lists : List Through) (node : Node) (nodes : List Node) → AreMet lists nodes → AreMet lists (node ∷ nodes)
still_met lists node nodes met = record {
  places = met.places;
  rising = met.rising;
  each = still_each node nodes lists met.places met.each;
}

pub no_list_lost : (lists : List Through) (node : Node) (nodes : List Node) (count more : ℕ)
    → IsMostMet lists nodes count → IsMostMet lists (node ∷ nodes) more → count ≤ more
no_list_lost lists node nodes count more is after = elim (cases_lt more count) [
  | inl less ↦ absurd (after.most count less is.within (still_met (take count lists) node nodes is.met))
  | inr rest ↦ omega arith
]
