use Rattle.std.proofs.Common.{◌<◌, Option, Ok, Err, drop, map, reverse, refl, sym, ap, subst, ◌∙◌, arith, rules}
use Rattle.std.proofs.lemmas.List.{drop_all}
use Rattle.std.proofs.lemmas.Result.{err_from_is_err_and}
use Rattle.source_types.specs.declared.built_ins.CommandName.TheVariants as command
use Rattle.source_types.specs.declared.commands.Command.{Command}
use Rattle.source_types.specs.declared.expressions.ExpressionStep.TheVariants as step
use Rattle.tcl_model.specs.ExpressionSteps.{ParsesTo}
use Rattle.timing_types.specs.declared.objects.Value.{Value}
use Rattle.tcl_model.specs.BuiltIns.{Concats, Indexes, no_text}
use Rattle.timing_types.specs.declared.objects.Value.TheVariants as value
use Rattle.tcl_model.specs.ExpressionValue.{text_of, truth_of}
use Rattle.tcl_model.specs.HostCalls.{World, text_in}
use Rattle.tcl_model.specs.RunSteps.{Answers}
use Rattle.tcl_model.specs.NamedCommands.{EvaluatesText, ReadsWord, named, spaced}
use Rattle.tcl_model.specs.ScriptRun.{RunsCommand}
use Rattle.tcl_eval.specs.ScriptReads.{CommandWithin, beginning}
use Rattle.tcl_words.proofs.Refusals.{meets_refusal}
use Rattle.tcl_eval.specs.Worlds.{Begins, level_of, world}
use Rattle.tcl_eval.proofs.CommandRuns.{begun, body_refused, body_run, body_unread, one_run}
use Rattle.tcl_eval.proofs.NamedRuns.{by_name, condition_refused, does_hold, does_not_hold, item_refused, item_run, items_run, no_condition_run, no_item_run, no_truth, none_holds, repeats_run, repeats_unread, name_run, words_refused, no_words}
use Rattle.tcl_eval.proofs.StepRuns.{no_step_run, step_refused, step_run, step_taken, steps_run, word_step, word_step_refused}
use Rattle.tcl_eval.proofs.RunStepFacts.{answer_ok, drop_item, gave, gives_raised, looked, then_ok, then_stop}
use Rattle.tcl_eval.proofs.WordRuns.{bracket_run, index_run, part_refused, part_run, parts_run, word_refused, word_run, words_run}
use Rattle.tcl_eval.proofs.running.scripts.+run.Goals as goal

-- ---- a body

pub run_body-loop-last-init : goal.run_body-loop-last-init
run_body-loop-last-init g below c = rw (c.new-reader.ensures, c.no_text-last.ensures) (begun _ _ _ _)

pub run_body-returns-in_err-command : goal.run_body-returns-in_err-command
run_body-returns-in_err-command g below c =
    let same = err_from_is_err_and c.from_residual.result c.from_residual.ensures.1 in
    rw (same.1, same.2)
    (body_unread g.H.Commands.host c.args.level.line c.args.level.left c.inner-inner.result c.args.script.now _ c.loop-last.reader _ c.loop-last.last _ c.in_err-command.field-0.0
    (omega (arith, c.if-level-eq0.false)) c.inner-inner.ensures.line c.inner-inner.ensures.left c.loop-last.invariant c.in_err-command.ensures.command)

pub run_body-returns-in_err-last : goal.run_body-returns-in_err-last
run_body-returns-in_err-last g below c =
    let same = err_from_is_err_and c.from_residual-in_err-last.result c.from_residual-in_err-last.ensures.1 in
    let stands = subst (λ (o : Option Command). CommandWithin c.loop-last.reader (Ok o) c.next_within.new.reader) c.in-Some.is c.in_ok-command.ensures.command in
    rw (same.1, same.2)
    (body_refused g.H.Commands.host c.args.level.line c.args.level.left c.inner-inner.result c.args.script.now _ c.loop-last.reader c.loop-last.last _ c.in-Some.command c.next_within.new.reader c.in_err-last.field-0.0 _
    (omega (arith, c.if-level-eq0.false)) c.inner-inner.ensures.line c.inner-inner.ensures.left c.loop-last.invariant stands c.in_err-last.ensures)

pub run_body-loop-last-preserved : goal.run_body-loop-last-preserved
run_body-loop-last-preserved g below c =
    let stands = subst (λ (o : Option Command). CommandWithin c.loop-last.reader (Ok o) c.next_within.new.reader) c.in-Some.is c.in_ok-command.ensures.command in
    one_run (RunsCommand (level_of g.H.Commands.host c.inner-inner.result)) (beginning c.args.script.now) no_text _ c.loop-last.reader c.loop-last.last _ c.in-Some.command c.next_within.new.reader _ _ c.loop-last.invariant stands c.in_ok-last.ensures

pub run_body-returns : goal.run_body-returns
run_body-returns g below c =
    let stands = subst (λ (o : Option Command). CommandWithin c.loop-last.reader (Ok o) c.next_within.new.reader) c.in_default.is c.in_ok-command.ensures.command in
    body_run g.H.Commands.host c.args.level.line c.args.level.left c.inner-inner.result c.args.script.now _ c.loop-last.reader c.loop-last.last _
    (omega (arith, c.if-level-eq0.false)) c.inner-inner.ensures.line c.inner-inner.ensures.left c.loop-last.invariant stands

-- ---- a command

pub run_command-returns-in_err-value : goal.run_command-returns-in_err-value
run_command-returns-in_err-value g below c =
    let same = err_from_is_err_and c.from_residual-in_err-value.result c.from_residual-in_err-value.ensures.1 in
    rw (same.1, same.2)
    (words_refused (level_of g.H.Commands.host c.args.level) c.args.command.now c.args.run.now c.begin.new.self _ c.in_err-value.field-0.0 _
    (meets_refusal c.begin.result (Ok c.in_ok-map_err.field-0) (λ given. Begins c.args.run.now given c.begin.new.self) c.in_ok-map_err.ensures.cases c.begin.ensures)
    (word_refused (level_of g.H.Commands.host c.args.level) c.args.command.now.words _ c.loop-word.values.items _ _ _ _ c.in_err-value.field-0.0 _
    c.loop-word.invariant (drop_item c.as_slice-word-items.result.now c.loop-word.word-index c.word-item.result c.loop-word-test.true c.word-item.is) (rw c.as_slice.ensures at c.in_err-value.ensures)))

pub run_command-loop-word-preserved : goal.run_command-loop-word-preserved
run_command-loop-word-preserved g below c =
    word_run (level_of g.H.Commands.host c.args.level) c.args.command.now.words _ c.loop-word.values.items _ _ _ _ _ c.in_ok-value.value _
    c.loop-word.invariant (drop_item c.as_slice-word-items.result.now c.loop-word.word-index c.word-item.result c.loop-word-test.true c.word-item.is) (rw c.as_slice.ensures at c.in_ok-value.ensures) c.in_ok-push.ensures.items

pub run_command-returns-in_default : goal.run_command-returns-in_default
run_command-returns-in_default g below c =
    rw c.no_text.ensures (no_words (level_of g.H.Commands.host c.args.level) c.args.command.now c.args.run.now c.begin.new.self _ c.loop-word.values.items _ (meets_refusal c.begin.result (Ok c.in_ok-map_err.field-0) (λ given. Begins c.args.run.now given c.begin.new.self) c.in_ok-map_err.ensures.cases c.begin.ensures) (words_run (level_of g.H.Commands.host c.args.level) c.args.command.now.words _ c.loop-word.values.items (drop c.loop-word.word-index c.as_slice-word-items.result.now) _ c.loop-word.invariant (drop_all c.loop-word.word-index c.as_slice-word-items.result.now c.loop-word-test.false)) c.in_default.ensures)

pub run_command-returns : goal.run_command-returns
run_command-returns g below c =
    name_run (level_of g.H.Commands.host c.args.level) c.args.command.now c.args.run.now c.begin.new.self _ c.loop-word.values.items c.in-Some.first c.in-Some.arguments c.in_ok-name.name _ _ _
    (meets_refusal c.begin.result (Ok c.in_ok-map_err.field-0) (λ given. Begins c.args.run.now given c.begin.new.self) c.in_ok-map_err.ensures.cases c.begin.ensures) (words_run (level_of g.H.Commands.host c.args.level) c.args.command.now.words _ c.loop-word.values.items (drop c.loop-word.word-index c.as_slice-word-items.result.now) _ c.loop-word.invariant (drop_all c.loop-word.word-index c.as_slice-word-items.result.now c.loop-word-test.false)) c.in-Some.ensures c.in_ok-name.ensures c.run_named.ensures

-- ---- a word

pub run_word-returns-in_err-value : goal.run_word-returns-in_err-value
run_word-returns-in_err-value g below c =
    let same = err_from_is_err_and c.from_residual.result c.from_residual.ensures.1 in
    rw (same.1, same.2)
    (part_refused (level_of g.H.Commands.host c.args.level) c.args.inside c.args.parts.now _ c.loop-part.joined _ _ _ _ c.in_err-value.field-0.0 _
    (λ e. grind (arith, e)) c.loop-part.invariant (drop_item c.args.parts.now c.loop-part.part-index c.part-item.result c.loop-part-test.true c.part-item.is) c.in_err-value.ensures)

pub run_word-loop-part-preserved : goal.run_word-loop-part-preserved
run_word-loop-part-preserved g below c =
    part_run (level_of g.H.Commands.host c.args.level) c.args.inside c.args.parts.now _ c.loop-part.joined _ _ _ _ _ c.in_ok-value.value _
    c.loop-part.invariant (drop_item c.args.parts.now c.loop-part.part-index c.part-item.result c.loop-part-test.true c.part-item.is) c.in_ok-value.ensures c.in_ok-add_text.ensures

pub run_word-returns : goal.run_word-returns
run_word-returns g below c =
    parts_run (level_of g.H.Commands.host c.args.level) c.args.inside c.args.parts.now _ c.loop-part.joined (drop c.loop-part.part-index c.args.parts.now) _ (λ e. grind (arith, e)) c.loop-part.invariant (drop_all c.loop-part.part-index c.args.parts.now c.loop-part-test.false)

-- ---- a part

pub run_part-returns-then-is_index : goal.run_part-returns-then-is_index
run_part-returns-then-is_index g below c =
    rw c.in-Script.is
    (index_run g.H.Commands.host c.args.level.line c.args.level.left c.args.inside c.in-Script.script _ c.index_value.result
    (sym (rw c.as_bytes.ensures at c.if-is_index.ensures)) (rw c.as_str-then-is_index.ensures at c.index_value.ensures))

pub run_part-returns-else-is_index : goal.run_part-returns-else-is_index
run_part-returns-else-is_index g below c =
    rw c.in-Script.is
    (bracket_run g.H.Commands.host c.args.level.line c.args.level.left c.args.inside c.after.result.left c.in-Script.script _ _ c.run_body.result
    (sym (rw c.as_bytes.ensures at c.if-is_index.ensures)) c.after.ensures.left (rw (c.as_str-in-Script.ensures, c.after.ensures.line) at c.run_body.ensures))

-- ---- a command by its name

pub run_named-returns-in_err-result-in-Expr : goal.run_named-returns-in_err-result-in-Expr
run_named-returns-in_err-result-in-Expr g below c =
    let level = level_of g.H.Commands.host c.args.level in
    let state = g.H.Commands.state c.args.host.now in
    let w = world c.args.run.now state in
    let later = world c.evaluate.new.run (g.H.Commands.state c.evaluate.new.host) in
    let is = rw c.as_slice-words.ensures at c.in_ok-text-in-Expr.ensures in
    let same = err_from_is_err_and c.from_residual-in_err-result-in-Expr.result c.from_residual-in_err-result-in-Expr.ensures.1 in
    rw (same.1, same.2)
    (by_name level (named c.args.name.now) command.Expr c.args.name.now c.args.arguments.now w later (Err c.in_err-result-in-Expr.field-0.0) (sym (rw c.as_str.ensures at c.command_name.ensures) ∙ c.in-Expr.is)
    (then_stop (EvaluatesText level (spaced (map (text_in g.H.Commands.host state) c.args.arguments.now))) (λ result. Answers (Ok (value.Text (text_of result)))) w later c.in_err-result-in-Expr.field-0.0
    (rw is at c.in_err-result-in-Expr.ensures)))

pub run_named-returns-in-Concat : goal.run_named-returns-in-Concat
run_named-returns-in-Concat g below c =
    let level = level_of g.H.Commands.host c.args.level in
    let state = g.H.Commands.state c.args.host.now in
    let w = world c.args.run.now state in
    rw c.tcl_answer.ensures
    (by_name level (named c.args.name.now) command.Concat c.args.name.now c.args.arguments.now w w _ (sym (rw c.as_str.ensures at c.command_name.ensures) ∙ c.in-Concat.is)
    (looked (Concats (text_in g.H.Commands.host state) c.args.arguments.now) w c.concat.result (rw c.as_slice-words.ensures at c.concat.ensures)))

pub run_named-returns-in-Lindex : goal.run_named-returns-in-Lindex
run_named-returns-in-Lindex g below c =
    let level = level_of g.H.Commands.host c.args.level in
    let state = g.H.Commands.state c.args.host.now in
    let w = world c.args.run.now state in
    rw c.tcl_answer-in-Lindex.ensures
    (by_name level (named c.args.name.now) command.Lindex c.args.name.now c.args.arguments.now w w _ (sym (rw c.as_str.ensures at c.command_name.ensures) ∙ c.in-Lindex.is)
    (looked (Indexes (text_in g.H.Commands.host state) c.args.arguments.now) w c.lindex.result (rw c.as_slice-words.ensures at c.lindex.ensures)))

pub run_named-returns-in_ok-result-in-Expr : goal.run_named-returns-in_ok-result-in-Expr
run_named-returns-in_ok-result-in-Expr g below c =
    let level = level_of g.H.Commands.host c.args.level in
    let state = g.H.Commands.state c.args.host.now in
    let w = world c.args.run.now state in
    let later = world c.evaluate.new.run (g.H.Commands.state c.evaluate.new.host) in
    let is = rw c.as_slice-words.ensures at c.in_ok-text-in-Expr.ensures in
    let v = c.in_ok-result-in-Expr.result in
    by_name level (named c.args.name.now) command.Expr c.args.name.now c.args.arguments.now w later _ (sym (rw c.as_str.ensures at c.command_name.ensures) ∙ c.in-Expr.is)
    (then_ok (EvaluatesText level (spaced (map (text_in g.H.Commands.host state) c.args.arguments.now))) (λ result. Answers (Ok (value.Text (text_of result)))) v w later later c.as_value.result
    (rw is at c.in_ok-result-in-Expr.ensures) (gave (Ok (value.Text (text_of v))) later c.as_value.result c.as_value.ensures))

-- ---- `foreach`

pub repeat-returns-in_err-items : goal.repeat-returns-in_err-items
repeat-returns-in_err-items g below c =
    let w = world c.args.run.now (g.H.Commands.state c.args.host.now) in
    let same = err_from_is_err_and c.from_residual-in_err-items.result c.from_residual-in_err-items.ensures.1 in
    rw (same.1, same.2)
    (repeats_unread (level_of g.H.Commands.host c.args.level) c.args.arguments.now c.name-item.result c.list-item.result c.body-item.result c.item_values.result w c.in_err-items.field-0.0
    (omega (arith, c.in-len3.len_at_least, c.in-len3.len_below)) c.name-item.is c.list-item.is c.body-item.is c.item_values.ensures (sym c.tcl_answer.ensures ∙ c.in_err-items.was))

pub repeat-loop-item-init : goal.repeat-loop-item-init
repeat-loop-item-init g below c = no_item_run (level_of g.H.Commands.host c.args.level) c.as_str-name.result.now c.as_str-body.result.now c.as_slice-item-items.result.now (world c.args.run.now (g.H.Commands.state c.args.host.now))

pub repeat-returns-in_err-run_body : goal.repeat-returns-in_err-run_body
repeat-returns-in_err-run_body g below c =
    let level = level_of g.H.Commands.host c.args.level in
    let w = world c.args.run.now (g.H.Commands.state c.args.host.now) in
    let later = world c.run_body.new.run (g.H.Commands.state c.run_body.new.host) in
    let same = err_from_is_err_and c.from_residual-in_err-run_body.result c.from_residual-in_err-run_body.ensures.1 in
    let ran = item_refused level c.as_str-name.result.now c.as_str-body.result.now c.as_slice-item-items.result.now _ _ c.item-item.result _ c.loop-item.run c.set.new.self (g.H.Commands.state c.loop-item.host) c.in_err-run_body.field-0.0 later
    c.loop-item.invariant (drop_item c.as_slice-item-items.result.now c.loop-item.item-index c.item-item.result c.loop-item-test.true c.item-item.is) c.in_ok-set.ensures.variables c.set.ensures.begun c.in_err-run_body.ensures in
    rw (same.1, same.2)
    (repeats_run level c.args.arguments.now c.name-item.result c.list-item.result c.body-item.result c.as_str-name.result.now c.as_str-body.result.now c.in_ok-items.items c.item_values.result w later (Err c.in_err-run_body.field-0.0)
    (omega (arith, c.in-len3.len_at_least, c.in-len3.len_below)) c.name-item.is c.list-item.is c.body-item.is c.item_values.ensures (sym c.in_ok-items.was ∙ c.tcl_answer.ensures)
    (c.as_str-name.ensures ∙ c.in_ok-name.ensures) (c.as_str-body.ensures ∙ c.in_ok-body.ensures) (rw c.as_slice-item-items.ensures at ran))

pub repeat-loop-item-preserved : goal.repeat-loop-item-preserved
repeat-loop-item-preserved g below c =
    item_run (level_of g.H.Commands.host c.args.level) c.as_str-name.result.now c.as_str-body.result.now c.as_slice-item-items.result.now _ _ c.item-item.result _ c.loop-item.run c.set.new.self (g.H.Commands.state c.loop-item.host) c.in_ok-run_body.field-0 _
    c.loop-item.invariant (drop_item c.as_slice-item-items.result.now c.loop-item.item-index c.item-item.result c.loop-item-test.true c.item-item.is) c.in_ok-set.ensures.variables c.set.ensures.begun c.in_ok-run_body.ensures

pub repeat-returns : goal.repeat-returns
repeat-returns g below c =
    let level = level_of g.H.Commands.host c.args.level in
    let w = world c.args.run.now (g.H.Commands.state c.args.host.now) in
    let later = world c.loop-item.run (g.H.Commands.state c.loop-item.host) in
    let ran = items_run level c.as_str-name.result.now c.as_str-body.result.now c.as_slice-item-items.result.now _ _ later c.loop-item.invariant (drop_all c.loop-item.item-index c.as_slice-item-items.result.now c.loop-item-test.false) in
    rw c.no_text.ensures
    (repeats_run level c.args.arguments.now c.name-item.result c.list-item.result c.body-item.result c.as_str-name.result.now c.as_str-body.result.now c.in_ok-items.items c.item_values.result w later (Ok no_text)
    (omega (arith, c.in-len3.len_at_least, c.in-len3.len_below)) c.name-item.is c.list-item.is c.body-item.is c.item_values.ensures (sym c.in_ok-items.was ∙ c.tcl_answer.ensures)
    (c.as_str-name.ensures ∙ c.in_ok-name.ensures) (c.as_str-body.ensures ∙ c.in_ok-body.ensures) (rw c.as_slice-item-items.ensures at ran))

-- ---- `if`

pub run_first-loop-branch-init : goal.run_first-loop-branch-init
run_first-loop-branch-init g below c = no_condition_run (level_of g.H.Commands.host c.args.level) c.args.branches.now c.args.otherwise.now (world c.args.run.now (g.H.Commands.state c.args.host.now))

pub run_first-returns-in_err-result : goal.run_first-returns-in_err-result
run_first-returns-in_err-result g below c =
    let same = err_from_is_err_and c.from_residual.result c.from_residual.ensures.1 in
    rw (same.1, same.2)
    (condition_refused (level_of g.H.Commands.host c.args.level) c.args.branches.now c.args.otherwise.now _ _ _ _ _ c.in_err-result.field-0.0 _ c.loop-branch.invariant (drop_item c.args.branches.now c.loop-branch.branch-index c.branch-item.result c.loop-branch-test.true c.branch-item.is) c.in_err-result.ensures)

pub run_first-returns-in_err-holds : goal.run_first-returns-in_err-holds
run_first-returns-in_err-holds g below c =
    let same = err_from_is_err_and c.from_residual-in_err-holds.result c.from_residual-in_err-holds.ensures.1 in
    rw (same.1, same.2)
    (no_truth (level_of g.H.Commands.host c.args.level) c.args.branches.now c.args.otherwise.now _ _ _ _ _ c.in_ok-result.result c.in_err-holds.field-0.0 _ c.loop-branch.invariant (drop_item c.args.branches.now c.loop-branch.branch-index c.branch-item.result c.loop-branch-test.true c.branch-item.is) c.in_ok-result.ensures
    (gives_raised (truth_of c.in_ok-result.result) c.truth_of.result (Err c.in_err-holds.field-0.0) c.in_err-holds.ensures.cases c.truth_of.ensures))

pub run_first-returns-then-holds : goal.run_first-returns-then-holds
run_first-returns-then-holds g below c =
    let body = rw c.as_str.ensures at c.run_body.ensures in
    does_hold (level_of g.H.Commands.host c.args.level) c.args.branches.now c.args.otherwise.now _ _ _ _ _ c.in_ok-result.result c.in_ok-holds.holds _ _ c.run_body.result c.loop-branch.invariant (drop_item c.args.branches.now c.loop-branch.branch-index c.branch-item.result c.loop-branch-test.true c.branch-item.is) c.in_ok-result.ensures
    (gives_raised (truth_of c.in_ok-result.result) c.truth_of.result (Ok c.in_ok-holds.holds) c.in_ok-holds.ensures.cases c.truth_of.ensures) c.if-holds.true body

pub run_first-loop-branch-preserved : goal.run_first-loop-branch-preserved
run_first-loop-branch-preserved g below c =
    does_not_hold (level_of g.H.Commands.host c.args.level) c.args.branches.now c.args.otherwise.now _ _ _ _ _ c.in_ok-result.result c.in_ok-holds.holds _ c.loop-branch.invariant (drop_item c.args.branches.now c.loop-branch.branch-index c.branch-item.result c.loop-branch-test.true c.branch-item.is) c.in_ok-result.ensures
    (gives_raised (truth_of c.in_ok-result.result) c.truth_of.result (Ok c.in_ok-holds.holds) c.in_ok-holds.ensures.cases c.truth_of.ensures) c.if-holds.false

pub run_first-returns-in-Some : goal.run_first-returns-in-Some
run_first-returns-in-Some g below c =
    let ran = rw c.as_str-in-Some.ensures at c.run_body-in-Some.ensures in
    none_holds (level_of g.H.Commands.host c.args.level) c.args.branches.now c.args.otherwise.now _ (drop c.loop-branch.branch-index c.args.branches.now) (world c.loop-branch.run (g.H.Commands.state c.loop-branch.host)) (world c.run_body-in-Some.new.run (g.H.Commands.state c.run_body-in-Some.new.host)) c.run_body-in-Some.result c.loop-branch.invariant (drop_all c.loop-branch.branch-index c.args.branches.now c.loop-branch-test.false) (rw c.in-Some.is ran)

pub run_first-returns-in-None : goal.run_first-returns-in-None
run_first-returns-in-None g below c =
    let now = world c.loop-branch.run (g.H.Commands.state c.loop-branch.host) in
    let given : Answers {State = World g.H.Commands.State} {A = Value} (Ok no_text) now (Ok c.no_text.result) now = (ap (λ v. Ok v) c.no_text.ensures, refl) in
    none_holds (level_of g.H.Commands.host c.args.level) c.args.branches.now c.args.otherwise.now _ (drop c.loop-branch.branch-index c.args.branches.now) now now (Ok c.no_text.result) c.loop-branch.invariant (drop_all c.loop-branch.branch-index c.args.branches.now c.loop-branch-test.false) (rw c.in-None.is given)

-- ---- an expression

pub evaluate-loop-step-init : goal.evaluate-loop-step-init
evaluate-loop-step-init g below c = (rw c.new-values.ensures.items (no_step_run (ReadsWord (level_of g.H.Commands.host c.args.level)) c.as_slice-step-items.result.now (world c.args.run.now (g.H.Commands.state c.args.host.now))), omega arith)

pub evaluate-run_step-requires : goal.evaluate-run_step-requires
evaluate-run_step-requires g below c =
    let within : c.loop-step.passed < 18446744073709551615 = omega (arith, c.loop-step.invariant.1) in
    search (rules, within)

pub evaluate-loop-step-preserved : goal.evaluate-loop-step-preserved
evaluate-loop-step-preserved g below c =
    let items = c.as_slice-step-items.result.now in (
      step_run (ReadsWord (level_of g.H.Commands.host c.args.level)) items _ c.loop-step.passed c.in_ok-passed.passed (reverse c.loop-step.values.items) _ _ _ _ _ _
          c.loop-step.invariant.0 (drop_item items c.loop-step.step-index c.step-item.result c.loop-step-test.true c.step-item.is) c.in_ok-passed.ensures.on,
      omega (arith, c.loop-step.invariant.1, c.in_ok-passed.ensures.within),
    )

pub evaluate-returns-in_err-passed : goal.evaluate-returns-in_err-passed
evaluate-returns-in_err-passed g below c =
    let same = err_from_is_err_and c.from_residual-in_err-passed.result c.from_residual-in_err-passed.ensures.1 in
    let parsed = answer_ok c.parse_expression.result c.in_ok-expression.expression (ParsesTo c.args.text.now) (rw c.as_str.ensures at c.parse_expression.ensures) (sym c.in_ok-expression.was ∙ c.tcl_answer.ensures) in
    rw (same.1, same.2)
    (step_refused (ReadsWord (level_of g.H.Commands.host c.args.level)) c.args.level.left c.args.text.now c.in_ok-expression.expression _ c.loop-step.passed (reverse c.loop-step.values.items) _ _ _ _ _ _ c.in_err-passed.field-0.0
    parsed c.if-level-expression.false (rw c.as_slice-step-items.ensures at c.loop-step.invariant.0) (rw c.as_slice-step-items.ensures at (drop_item c.as_slice-step-items.result.now c.loop-step.step-index c.step-item.result c.loop-step-test.true c.step-item.is)) c.in_err-passed.ensures.on)

pub evaluate-returns : goal.evaluate-returns
evaluate-returns g below c =
    let parsed = answer_ok c.parse_expression.result c.in_ok-expression.expression (ParsesTo c.args.text.now) (rw c.as_str.ensures at c.parse_expression.ensures) (sym c.in_ok-expression.was ∙ c.tcl_answer.ensures) in
    steps_run (ReadsWord (level_of g.H.Commands.host c.args.level)) c.args.level.left c.args.text.now c.in_ok-expression.expression _ c.loop-step.passed (reverse c.loop-step.values.items) _ _ c.last_value.result c.map_err.result
    parsed c.if-level-expression.false (rw c.as_slice-step-items.ensures at c.loop-step.invariant.0) (drop_all c.loop-step.step-index c.in_ok-expression.expression.steps (rw c.as_slice-step-items.ensures at c.loop-step-test.false)) c.last_value.ensures c.map_err.ensures.cases

-- ---- a step

pub run_step-returns-in_err-value-in-Word-clause-on : goal.run_step-returns-in_err-value-in-Word-clause-on
run_step-returns-in_err-value-in-Word-clause-on g below c =
    let same = err_from_is_err_and c.from_residual.result c.from_residual.ensures.1 in
    rw (same.1, same.2, c.in-Word.is)
    (word_step_refused (level_of g.H.Commands.host c.args.level) c.args.passed c.in-Word.word c.in-Word.inside _ _ _ _ c.in_err-value-in-Word.field-0.0
    (omega (arith, c.if-passed-gt0.false)) (rw c.as_slice.ensures at c.in_err-value-in-Word.ensures))

pub run_step-returns-in_ok-push_text-in-Word-clause-on : goal.run_step-returns-in_ok-push_text-in-Word-clause-on
run_step-returns-in_ok-push_text-in-Word-clause-on g below c =
    rw c.in-Word.is
    (word_step (level_of g.H.Commands.host c.args.level) c.args.passed c.in-Word.word c.in-Word.inside _ _ _ _ c.in_ok-value-in-Word.value
    (omega (arith, c.if-passed-gt0.false)) (rw c.as_slice.ensures at c.in_ok-value-in-Word.ensures) c.in_ok-push_text-in-Word.ensures)

pub run_step-returns-in-Decide-clause-on : goal.run_step-returns-in-Decide-clause-on
run_step-returns-in-Decide-clause-on g below c =
    rw (c.tcl_answer-in-Decide.ensures, c.in-Decide.is)
    (step_taken (ReadsWord (level_of g.H.Commands.host c.args.level)) c.args.passed (step.Decide c.in-Decide.operator) _ _ _ c.take_decision.result (omega (arith, c.if-passed-gt0.false)) c.take_decision.ensures)

pub run_step-returns-in-Binary-clause-on : goal.run_step-returns-in-Binary-clause-on
run_step-returns-in-Binary-clause-on g below c =
    rw (c.tcl_answer-in-Binary.ensures, c.in-Binary.is)
    (step_taken (ReadsWord (level_of g.H.Commands.host c.args.level)) c.args.passed (step.Binary c.in-Binary.operator) _ _ _ c.take_binary.result (omega (arith, c.if-passed-gt0.false)) c.take_binary.ensures)
