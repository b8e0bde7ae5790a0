use Rattle.std.proofs.Common.{◌≡◌, ◌∙◌, [], ◌∷◌, sym, false, true, arith}
use Rattle.mode_model.specs.PrintedLine.{name_word, is_bare_text}
use Rattle.sdc_print.proofs.AddedFacts.{added_added, added_three, longer, stops}
use Rattle.sdc_print.proofs.word_printing.push_name.Goals as goal

pub returns-clause-adds : goal.returns-clause-adds
unfolding name_word
returns-clause-adds c =
    let e : is_bare_text c.args.name.now ≡ false = sym c.is_bare.ensures ∙ c.if-is_bare.false in
    rw (e, c.in_ok-push-3.ensures.adds, c.in_ok-push-2.ensures.adds, c.in_ok-push.ensures.adds) (simp added_added)

pub returns-then-is_bare-clause-adds : goal.returns-then-is_bare-clause-adds
unfolding name_word
returns-then-is_bare-clause-adds c =
    let e : is_bare_text c.args.name.now ≡ true = sym c.is_bare.ensures ∙ c.if-is_bare.true in
    rw e c.push.ensures.adds

pub returns-then-is_bare-clause-limit : goal.returns-then-is_bare-clause-limit
unfolding name_word
returns-then-is_bare-clause-limit c =
    let e : is_bare_text c.args.name.now ≡ true = sym c.is_bare.ensures ∙ c.if-is_bare.true in
    rw e c.push.ensures.limit

pub returns-in_err-push-clause-limit : goal.returns-in_err-push-clause-limit
unfolding name_word
returns-in_err-push-clause-limit c =
    let e : is_bare_text c.args.name.now ≡ false = sym c.is_bare.ensures ∙ c.if-is_bare.false in
    rw e (stops _ (added_three c.args.out.now (123 ∷ []) c.args.name.now (125 ∷ [])) (grind (arith, longer)))

pub returns-in_err-push-2-clause-limit : goal.returns-in_err-push-2-clause-limit
unfolding name_word
returns-in_err-push-2-clause-limit c =
    let e : is_bare_text c.args.name.now ≡ false = sym c.is_bare.ensures ∙ c.if-is_bare.false in
    rw e (stops _ (added_three c.args.out.now (123 ∷ []) c.args.name.now (125 ∷ [])) (grind (arith, longer)))

pub returns-in_err-push-3-clause-limit : goal.returns-in_err-push-3-clause-limit
unfolding name_word
returns-in_err-push-3-clause-limit c =
    let e : is_bare_text c.args.name.now ≡ false = sym c.is_bare.ensures ∙ c.if-is_bare.false in
    rw e (stops _ (added_three c.args.out.now (123 ∷ []) c.args.name.now (125 ∷ [])) (grind (arith, longer)))
