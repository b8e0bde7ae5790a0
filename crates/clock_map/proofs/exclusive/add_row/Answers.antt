use Rattle.std.proofs.Common.{◌≡◌, ◌∙◌, ◌+◌, ◌-◌, ◌++◌, ap, arith}
use Rattle.clock_map.specs.Timings.{others_from, row}
use Rattle.clock_map.proofs.FirstClocks.{others_are_row}
use Rattle.clock_map.proofs.exclusive.add_row.Goals as goal

pub returns : goal.returns
returns c =
    let first = c.args.first in
    let after = c.args.count - (first + 1) in
    let flags = c.in_ok-timed.timed.items in
    let others : others_from flags first (first + 1) after ≡ row c.args.timings.now c.args.count first =
    others_are_row c.args.timings.now c.args.count first flags (first + 1) after c.in_ok-timed.ensures (omega arith) (omega (arith, c.requires.within)) in
    c.in_ok-add_others.ensures
    ∙ ap (λ fs. c.args.pairs.now ++ others_from fs first (first + 1) after) c.deref.ensures.value
    ∙ ap (λ ps. c.args.pairs.now ++ ps) others
