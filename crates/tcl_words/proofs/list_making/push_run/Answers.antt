use Rattle.std.proofs.Common.{◌≡◌, ◌++◌, ◌∷◌, [], ℕ, List, ap, get_or, length, subst, ◌∙◌}
use Rattle.tcl_model.specs.ListText.{taken_as}
use Rattle.tcl_words.specs.Taken.{UntakenTo}
use Rattle.tcl_words.proofs.TakenFacts.{pushed_taken}
use Rattle.tcl_words.proofs.list_making.push_run.Goals as goal

pub returns : goal.returns
returns c =
    let item = c.args.item.now in
    let end = c.untaken_end-end.result in
    let same = c.as_bytes-bytes.ensures.value in
    let run = subst (λ (t : List ℕ). UntakenTo t c.args.from end) same c.untaken_end-end.ensures in
    let other = subst (λ (t : List ℕ). end ≡ length t → ⊥) same c.if-end-bytes.false in
    let pair = subst (λ (t : List ℕ). c.taken.result.now ≡ 92 ∷ (taken_as (get_or t end 0) ∷ [])) same c.taken.ensures in
    let first = c.in_ok-push_str.ensures.ok ∙ ap (λ (t : List ℕ). c.args.made.now ++ t) c.range.ensures.value in
    pushed_taken c.args.made.now item c.push_str.new.self c.push_str-2.new.self c.taken.result.now c.args.from end c.utf8.item run other first pair c.in_ok-push_str-2.ensures.ok
