use Rattle.std.proofs.Common.{◌≡◌, [], drop, map}
use Rattle.std.specs.List.{filter_map, fold}
use Rattle.library_model.specs.LibertyArcs as liberty
use Rattle.lib_cells.specs.Pairs.{HasPairs}
use Rattle.lib_cells.specs.RelatedPins.{related_seen}
use Rattle.lib_cells.proofs.cell.arcs.arcs_of.Given as goal

abbrev pub invariant-loop-one : goal.invariant-loop-one
invariant-loop-one l = record {
  joined : fold liberty.with_arc l.arcs.items (filter_map (liberty.arc_if l.pins) (map related_seen (drop l.one-index l.related)))
      ≡ fold liberty.with_arc [] (filter_map (liberty.arc_if l.pins) (map related_seen l.related));
  places : HasPairs l.places l.arcs.items;
}
