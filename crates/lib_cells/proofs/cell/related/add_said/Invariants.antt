use Rattle.std.proofs.Common.{◌≡◌, ◌++◌, drop, map}
use Rattle.lib_cells.specs.RelatedPins.{related_seen, related_words}
use Rattle.lib_cells.specs.Timings.{timing_seen}
use Rattle.lib_cells.proofs.cell.related.add_said.Given as goal

abbrev pub invariant-loop-name : goal.invariant-loop-name
invariant-loop-name l =
    map related_seen l.found.items ++ related_words l.places l.pins l.to (timing_seen l.said.timing) l.said.sense (drop l.name-index l.said.words)
    ≡ map related_seen l.fn.found.items ++ related_words l.places l.pins l.to (timing_seen l.said.timing) l.said.sense l.said.words
