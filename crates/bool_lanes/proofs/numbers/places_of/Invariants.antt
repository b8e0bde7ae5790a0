use Rattle.std.proofs.Common.{drop}
use Rattle.bool_lanes.proofs.NumberFacts.{PlacesSoFar}
use Rattle.bool_lanes.proofs.numbers.places_of.Given as goal

abbrev pub invariant-loop-place : goal.invariant-loop-place
invariant-loop-place l = PlacesSoFar l.numbers l.place (drop l.place l.names) l.names
