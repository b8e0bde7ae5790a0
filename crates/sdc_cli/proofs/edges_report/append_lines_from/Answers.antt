use Rattle.std.proofs.Common.{[], List, refl, sym, ◌∙◌, subst}
use Rattle.std.proofs.lemmas.List.{drop_all}
use Rattle.timing_types.specs.declared.edge_times.TimedEdge.{TimedEdge}
use Rattle.sdc_model.specs.EdgesText.{AreTimed, AreLinesFrom}
use Rattle.tcl_eval.proofs.RunStepFacts.{drop_item}
use Rattle.sdc_cli.proofs.EdgeLines.{LinesFrom-more_parts, all_appended}
use Rattle.sdc_cli.proofs.edges_report.append_lines_from.Goals as goal

pub relation_of-requires-clause-capture : goal.relation_of-requires-clause-capture
relation_of-requires-clause-capture c =
    (subst AreTimed (drop_item _ _ _ c.loop-capture-test.true c.capture-item.is) c.loop-capture.invariant.timed).0

pub loop-capture-preserved : goal.loop-capture-preserved
loop-capture-preserved c =
    let at = drop_item _ _ _ c.loop-capture-test.true c.capture-item.is in
    record {
      timed = (subst AreTimed at c.loop-capture.invariant.timed).1;
      lines = LinesFrom-more_parts _ _ _ _ c.args.captures.now c.loop-capture.capture-index _ _ _ _ _ at c.loop-capture.invariant.lines c.relation_of.ensures
          (c.as_slice.ensures.value ∙ c.in_ok-front.ensures) c.in_ok-append_line.ensures;
    }

pub returns : goal.returns
returns c =
    let none = drop_all c.loop-capture.capture-index c.args.captures.now c.loop-capture-test.false in
    let P : List TimedEdge → Type 0 = λ left. AreLinesFrom c.args.file.now c.args.launch.now left [] in
    all_appended _ _ _ (c.loop-capture.invariant.lines [] (subst P (sym none) refl))
