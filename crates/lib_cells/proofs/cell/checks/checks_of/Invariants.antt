use Rattle.std.proofs.Common.{◌≡◌, [], drop, map}
use Rattle.std.specs.List.{filter_map, fold}
use Rattle.library_model.specs.LibertyArcs as liberty
use Rattle.lib_cells.specs.CheckKeys.{HasKeys}
use Rattle.lib_cells.specs.RelatedPins.{related_seen}
use Rattle.lib_cells.proofs.cell.checks.checks_of.Given as goal

abbrev pub invariant-loop-one : goal.invariant-loop-one
invariant-loop-one l = record {
  joined : fold liberty.with_check l.checks (filter_map liberty.check_if (map related_seen (drop l.one-index l.related)))
      ≡ fold liberty.with_check [] (filter_map liberty.check_if (map related_seen l.related));
  known : HasKeys l.known l.checks;
}
