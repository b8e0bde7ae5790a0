use Rattle.std.proofs.Common.{◌≡◌, ℕ, List, [], ◌∷◌, ◌++◌, false, ◌+◌, drop, String, Global, string_bytes, sym, ◌∙◌, ap}
use Rattle.sdc_model.specs.CommandLine.{merge_arguments, words_of, is_option}
use Rattle.sdc_cli.proofs.Arguments.{in_front_of, merge_arguments-more}
use Rattle.tcl_eval.proofs.RunStepFacts.{drop_item}
use Rattle.sdc_cli.proofs.command_line.merge_arguments.Goals as goal

pub loop-at-preserved : goal.loop-at-preserved
loop-at-preserved c =
    let here = drop_item c.args.words.now c.loop-at.at _ c.loop-at-test.true c.index-words-at.is in
    let bytes = string_bytes c.index-words-at.result in
    let rest = drop (c.loop-at.at + 1) c.args.words.now in
    let no_option : is_option bytes ≡ false = ap is_option (sym c.as_str.ensures.value) ∙ (sym c.is_option.ensures ∙ c.if-is_option.false) in
    let pushed : c.push.new.self ≡ c.loop-at.found ++ bytes ∷ [] =
    c.in_ok-push.ensures.ok ∙ ap (λ (text : List ℕ). c.loop-at.found ++ text ∷ []) (c.in_ok-from_str.ensures ∙ c.as_str-in-loop-at.ensures.value) in
    ap (λ (found : List (List ℕ)). in_front_of found (merge_arguments (words_of rest))) pushed
    ∙ (sym (merge_arguments-more c.loop-at.found bytes (words_of rest) no_option)
    ∙ (ap (λ (words : List (String Global)). in_front_of c.loop-at.found (merge_arguments (words_of words))) (sym here) ∙ c.loop-at.invariant))
