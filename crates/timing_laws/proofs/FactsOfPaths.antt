-- The facts of a path have its ends, and say which through lists it meets, so that they match as the path does.
use Rattle.std.proofs.Common.{◌∙◌, ℕ, List, sym, subst}
use Rattle.std.specs.Prelude.{◌↔◌}
use Rattle.std.proofs.lemmas.Option.{same_Some}
use Rattle.timing_types.specs.declared.constraints.Exception.{Exception}
use Rattle.timing_types.specs.declared.paths.Path.{Path}
use Rattle.timing_types.specs.declared.paths.PathFacts.{PathFacts}
use Rattle.pin_types.specs.declared.pins.Side.{Side}
use Rattle.timing_model.specs.Matching.{AreFactsOf, ends_of_facts, EndsFit, FactsMatchAt, MatchesAt}

pub facts_match : (exceptions : List Exception) (path : Path) (facts : PathFacts) (side : Side) (place : ℕ) → AreFactsOf exceptions path facts
    → MatchesAt exceptions path side place ↔ FactsMatchAt exceptions facts side place
facts_match exceptions path facts side place are = (
  λ match. (
    match.0,
    match.1,
    subst (EndsFit match.0 side) (same_Some match.2.ends (ends_of_facts facts) (sym match.2.are_ends ∙ are.ends)) match.2.fit,
    (are.met place match.0 match.1).1 match.2.met,
  ),
  λ match. (
    match.0,
    match.1,
    record { ends = ends_of_facts facts; are_ends = are.ends; fit = match.2; met = (are.met place match.0 match.1).0 match.3 },
  ),
)
