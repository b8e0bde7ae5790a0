use Rattle.std.proofs.Common.{◌≡◌, ◌++◌, drop, Some}
use Rattle.std.specs.Option.{option_and_then}
use Rattle.mode_model.specs.ClockGroups.{clock_places}
use Rattle.sdc_cli.proofs.clock_groups.clock_places.Given as goal

-- the places so far and those of the objects that are left are those of all objects
abbrev pub invariant-loop-object : goal.invariant-loop-object
invariant-loop-object l =
    option_and_then (λ others. Some (l.places ++ others)) (clock_places l.count (drop l.object-index l.objects)) ≡ clock_places l.count l.objects
