use Rattle.std.proofs.Common.{◌<◌, ◌≤◌, ℕ, List, [], length, drop, refl, sym, ◌∙◌, subst, append-nil, arith}
use Rattle.std.proofs.lemmas.List.{drop_all}
use Rattle.timing_types.specs.declared.clocks.Clock.{Clock}
use Rattle.timing_types.specs.declared.modes.Mode.{Mode}
use Rattle.sdc_model.specs.EdgesText.{Appends, AreReports, IsReport, ModesHaveTimes}
use Rattle.tcl_eval.proofs.RunStepFacts.{drop_item}
use Rattle.sdc_cli.proofs.EdgeLines.{Reports-more}
use Rattle.sdc_cli.proofs.edges_report.report_text.Goals as goal

pub loop-at-preserved : goal.loop-at-preserved
loop-at-preserved c =
    let within : c.loop-at.at < length c.args.modes.now = omega arith in
    let at = drop_item c.args.files.now c.loop-at.at _ c.loop-at-test.true c.index-files-at.is in
    let at_mode = drop_item c.args.modes.now c.loop-at.at _ within c.index-modes-at.is in
    let P : List ℕ → List Clock → Type 0 = λ file clocks. Appends (IsReport file clocks) c.loop-at.text.items c.append_report.new.text.items in
    let report : P c.index-files-at.result c.index-modes-at.result.clocks =
    subst (λ (file : List ℕ). P file c.index-modes-at.result.clocks) c.as_str.ensures
    (subst (λ (clocks : List Clock). P c.as_str.result.now clocks) c.as_slice.ensures c.in_ok-append_report.ensures) in
    record {
      timed = (subst ModesHaveTimes at_mode c.loop-at.invariant.timed).1;
      reports = Reports-more c.args.files.now c.args.modes.now c.loop-at.at _ _ (AreReports c.args.files.now c.args.modes.now) _ _ at at_mode c.loop-at.invariant.reports report;
    }

pub returns : goal.returns
returns c =
    let no_files = drop_all c.loop-at.at c.args.files.now c.loop-at-test.false in
    let past : length c.args.modes.now ≤ c.loop-at.at = omega arith in
    let no_modes = drop_all c.loop-at.at c.args.modes.now past in
    let P : List (List ℕ) → Type 0 = λ files. AreReports files (drop c.loop-at.at c.args.modes.now) [] in
    let Q : List Mode → Type 0 = λ modes. AreReports [] modes [] in
    let none : Q (drop c.loop-at.at c.args.modes.now) = subst Q (sym no_modes) refl in
    let found = c.loop-at.invariant.reports [] (subst P (sym no_files) none) in
    subst (AreReports c.args.files.now c.args.modes.now) (found.2 ∙ append-nil _) found.1
