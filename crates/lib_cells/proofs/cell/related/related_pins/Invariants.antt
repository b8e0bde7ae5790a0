use Rattle.std.proofs.Common.{◌≡◌, ◌++◌, drop, length, map}
use Rattle.lib_cells.specs.RelatedPins.{related_all, related_seen}
use Rattle.lib_cells.proofs.cell.related.related_pins.Given as goal

abbrev pub invariant-loop-place : goal.invariant-loop-place
invariant-loop-place l =
    map related_seen l.found.items ++ related_all l.places (length l.pins) l.place (drop l.place l.pins)
    ≡ related_all l.places (length l.pins) 0 l.pins
