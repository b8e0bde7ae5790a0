use Rattle.std.proofs.Common.{◌≡◌, ◌++◌, drop, Some}
use Rattle.std.specs.Option.{option_and_then}
use Rattle.mode_model.specs.ClockGroups.{places_of}
use Rattle.sdc_cli.proofs.clock_groups.places_of.Given as goal

-- the places so far and those of the names that are left are those of all names
abbrev pub invariant-loop-name : goal.invariant-loop-name
invariant-loop-name l =
    option_and_then (λ others. Some (l.places ++ others)) (places_of l.clocks (drop l.name-index l.names)) ≡ places_of l.clocks l.names
