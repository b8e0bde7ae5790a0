use Rattle.std.proofs.Common.{[], List, refl, sym, subst}
use Rattle.std.proofs.lemmas.List.{drop_all}
use Rattle.timing_types.specs.declared.edge_times.TimedEdge.{TimedEdge}
use Rattle.sdc_model.specs.EdgesText.{AreTimed, AreLines}
use Rattle.tcl_eval.proofs.RunStepFacts.{drop_item}
use Rattle.sdc_cli.proofs.EdgeLines.{Lines-more, all_appended}
use Rattle.sdc_cli.proofs.edges_report.append_all_lines.Goals as goal

pub append_lines_from-requires-clause-launch : goal.append_lines_from-requires-clause-launch
append_lines_from-requires-clause-launch c =
    (subst AreTimed (drop_item _ _ _ c.loop-launch-test.true c.launch-item.is) c.loop-launch.invariant.timed).0

pub loop-launch-preserved : goal.loop-launch-preserved
loop-launch-preserved c =
    let at = drop_item _ _ _ c.loop-launch-test.true c.launch-item.is in
    record {
      timed = (subst AreTimed at c.loop-launch.invariant.timed).1;
      lines = Lines-more _ _ c.args.edges.now _ c.loop-launch.launch-index _ _ _ _ at c.loop-launch.invariant.lines c.in_ok-append_lines_from.ensures;
    }

pub returns : goal.returns
returns c =
    let none = drop_all c.loop-launch.launch-index c.args.edges.now c.loop-launch-test.false in
    let P : List TimedEdge → Type 0 = λ left. AreLines c.args.file.now left c.args.edges.now [] in
    all_appended _ _ _ (c.loop-launch.invariant.lines [] (subst P (sym none) refl))
