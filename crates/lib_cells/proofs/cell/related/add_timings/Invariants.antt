use Rattle.std.proofs.Common.{◌≡◌, ◌++◌, drop, map}
use Rattle.std.specs.List.{flat_map}
use Rattle.lib_cells.specs.Members.{members_seen}
use Rattle.lib_cells.specs.RelatedPins.{related_in, related_seen}
use Rattle.lib_cells.proofs.cell.related.add_timings.Given as goal

abbrev pub invariant-loop-group : goal.invariant-loop-group
invariant-loop-group l =
    map related_seen l.found.items ++ flat_map (related_in l.places l.pins l.to) (members_seen (drop l.group-index l.timings))
    ≡ map related_seen l.fn.found.items ++ flat_map (related_in l.places l.pins l.to) (members_seen l.timings)
