use Rattle.std.proofs.Common.{◌≡◌, ◌++◌, drop, map}
use Rattle.timing_types.specs.declared.objects.Object.TheVariants as object
use Rattle.sdc_cli.proofs.clock_queries.clock_objects.Given as goal

-- the clocks so far and those of the places that are left are those of all places
abbrev pub invariant-loop-place : goal.invariant-loop-place
invariant-loop-place l = l.objects ++ map object.Clock (drop l.place-index l.places) ≡ map object.Clock l.places
