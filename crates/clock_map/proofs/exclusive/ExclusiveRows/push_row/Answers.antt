use Rattle.std.proofs.Common.{◌≡◌, ◌∙◌, ◌++◌, [], sym, ap, inr, arith}
use Rattle.std.specs.Prelude.{◌==◌}
use Rattle.std.specs.List.{filter}
use Rattle.std.proofs.lemmas.List.{append-nil}
use Rattle.clock_map.specs.Timings.{row}
use Rattle.clock_map.proofs.FirstClocks.{rows_with, rows_without}
use Rattle.clock_map.proofs.exclusive.ExclusiveRows.push_row.Goals as goal

pub returns-then-first-self : goal.returns-then-first-self
returns-then-first-self c =
    let first = c.args.first in
    let count = c.self.inside.count in
    let none : filter (λ pair. pair.first == first) c.args.self.now ≡ [] =
    ap (filter (λ pair. pair.first == first)) (sym c.self.view_is) ∙ rows_without c.self.inside.timings.items count first 0 count (inr (omega arith)) in
    sym (append-nil c.args.pairs.now) ∙ ap (λ ps. c.args.pairs.now ++ ps) (sym none)

pub returns : goal.returns
returns c =
    let first = c.args.first in
    let count = c.self.inside.count in
    let timings = c.self.inside.timings.items in
    let this : filter (λ pair. pair.first == first) c.args.self.now ≡ row timings count first =
    ap (filter (λ pair. pair.first == first)) (sym c.self.view_is) ∙ rows_with timings count first 0 count (omega arith) (omega arith) in
    c.in_ok-add_row.ensures
    ∙ ap (λ ts. c.args.pairs.now ++ row ts count first) c.deref.ensures.value
    ∙ ap (λ ps. c.args.pairs.now ++ ps) (sym this)
