-- The merged clocks of the clocks so far have their places.
use Rattle.clock_map.proofs.PlaceLists.{PlacesSoFar}
use Rattle.clock_map.proofs.timings.places_of.Given as goal

abbrev pub invariant-loop-place : goal.invariant-loop-place
invariant-loop-place l = PlacesSoFar l.count l.numbers l.place l.places.items
