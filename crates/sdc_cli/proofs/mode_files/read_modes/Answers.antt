use Rattle.std.proofs.Common.{◌≡◌, ◌+◌, ◌∷◌, ◌∙◌, suc, drop, Ok, Err, arith, refl}
use Rattle.std.proofs.lemmas.Grind.{common_steps}
use Rattle.std.proofs.lemmas.List.{drop_all}
use Rattle.std.proofs.lemmas.Result.{err_from_is_err_and}
use Rattle.sdc_model.specs.Answers.{OnContents, most_clocks, first_place, files_of}
use Rattle.sdc_cli.specs.Steps.{ReadsMode}
use Rattle.tcl_eval.proofs.RunStepFacts.{drop_item}
use Rattle.sdc_cli.proofs.MergedModes.{printable-push, clocks_in-push}
use Rattle.sdc_cli.proofs.ModeSteps.{ReadSoFar-more, ReadSoFar-stops, ReadSoFar-all}
use Rattle.sdc_cli.proofs.mode_files.read_modes.Goals as goal

pub returns-in_err-mode-clause-contents : goal.returns-in_err-mode-clause-contents
returns-in_err-mode-clause-contents g c =
    let name = c.index-names-at.result in
    let here : drop c.loop-at.at (files_of c.args.line.now) ≡ name ∷ drop (c.loop-at.at + 1) (files_of c.args.line.now) =
    rw c.files_of-names.ensures at (drop_item c.files_of-names.result.now c.loop-at.at _ c.loop-at-test.true c.index-names-at.is) in
    let reads : OnContents (ReadsMode (most_clocks c.args.line.now) c.loop-at.count (first_place c.args.line.now + c.loop-at.at) name (Err c.in_err-mode.field-0.0)) (g.I.Inputs.contents c.loop-at.inputs) (g.I.Inputs.contents c.read_file.new.inputs) =
    rw (c.most_clocks-most.ensures, c.first_place-first.ensures, c.as_str.ensures) at c.in_err-mode.ensures.contents in
    let p = err_from_is_err_and c.from_residual.result c.from_residual.ensures.1 in
    rw (p.1, p.2) (ReadSoFar-stops c.args.line.now _ _ _ _ _ _ _ _ _ here c.loop-at.invariant.contents reads)

pub loop-at-preserved : goal.loop-at-preserved
loop-at-preserved g c =
    let name = c.index-names-at.result in
    let here : drop c.loop-at.at (files_of c.args.line.now) ≡ name ∷ drop (c.loop-at.at + 1) (files_of c.args.line.now) =
    rw c.files_of-names.ensures at (drop_item c.files_of-names.result.now c.loop-at.at _ c.loop-at-test.true c.index-names-at.is) in
    let reads : OnContents (ReadsMode (most_clocks c.args.line.now) c.loop-at.count (first_place c.args.line.now + c.loop-at.at) name (Ok c.in_ok-mode.mode)) (g.I.Inputs.contents c.loop-at.inputs) (g.I.Inputs.contents c.read_file.new.inputs) =
    rw (c.most_clocks-most.ensures, c.first_place-first.ensures, c.as_str.ensures) at c.in_ok-mode.ensures.contents in
    let next : first_place c.args.line.now + (c.loop-at.at + 1) ≡ suc (first_place c.args.line.now + c.loop-at.at) = omega arith in
    record {
      contents = rw (c.len-count.ensures, c.in_ok-push.ensures.ok) (ReadSoFar-more _ _ _ _ _ _ _ _ _ _ _ _ _ here next c.loop-at.invariant.contents reads);
      quiet = c.in_ok-mode.ensures.quiet ∙ c.loop-at.invariant.quiet;
      each = rw c.in_ok-push.ensures.ok (grind (arith, common_steps));
      within = omega (arith, c.in_ok-mode.ensures.within, c.most_clocks-most.ensures);
      printable = rw c.in_ok-push.ensures.ok (printable-push _ _ c.loop-at.invariant.printable c.in_ok-mode.ensures.printable);
      counted = rw (c.in_ok-push.ensures.ok, c.len-count.ensures, clocks_in-push c.loop-at.modes c.in_ok-mode.mode, ← c.loop-at.invariant.counted) refl;
    }

pub returns-clause-contents : goal.returns-clause-contents
returns-clause-contents g c =
    let none = rw c.files_of-names.ensures at (drop_all c.loop-at.at c.files_of-names.result.now c.loop-at-test.false) in
    ReadSoFar-all c.args.line.now _ _ _ _ _ _ none c.loop-at.invariant.contents
