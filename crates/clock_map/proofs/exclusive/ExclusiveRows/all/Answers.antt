use Rattle.std.proofs.Common.{◌≡◌, ◌∙◌, ◌++◌, ap}
use Rattle.clock_map.specs.Timings.{row}
use Rattle.clock_map.proofs.PairRows.{rows_step}
use Rattle.clock_map.proofs.exclusive.ExclusiveRows.all.Goals as goal

pub loop-first-preserved : goal.loop-first-preserved
loop-first-preserved c =
    let timings = c.self.inside.timings.items in
    let count = c.self.inside.count in
    let before = c.loop-first.pairs in
    let added : c.add_row.new.pairs ≡ before ++ row timings count c.loop-first.first =
    c.in_ok-add_row.ensures ∙ ap (λ ts. before ++ row ts count c.loop-first.first) c.deref.ensures.value in
    rows_step timings count c.loop-first.first before c.add_row.new.pairs _ c.loop-first-test.true added c.loop-first.invariant
