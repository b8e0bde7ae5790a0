use Rattle.std.proofs.Common.{◌≡◌, ◌∙◌, ◌<◌, ◌++◌, ◌+◌, length, refl, ap}
use Rattle.std.specs.Prelude.{◌==◌}
use Rattle.std.specs.List.{filter}
use Rattle.sdc_print.specs.Runs.{group_text, groups_text}
use Rattle.sdc_print.proofs.GroupLengths.{groups_more}
use Rattle.sdc_cli.proofs.merges.length_with_groups.Goals as goal

pub loop-first-preserved : goal.loop-first-preserved
loop-first-preserved c =
    let clocks = c.args.clocks.now in
    let first = c.loop-first.first in
    let within : first < length clocks = rw c.as_slice-clock-items.ensures at c.loop-first-test.true in
    let row : c.push_row.new.pairs ≡ filter (λ pair. pair.first == first) c.args.rows.now =
    c.in_ok-push_row.ensures ∙ ap (λ ps. ps ++ filter (λ pair. pair.first == first) c.args.rows.now) c.new-pairs.ensures in
    groups_more clocks c.args.rows.now c.push_row.new.pairs first c.clock-item.result c.loop-first.bytes (length (group_text c.clock-item.result.name clocks c.push_row.new.pairs)) c.in_ok-bytes.bytes
    (c.args.front + length (groups_text clocks c.args.rows.now)) within (rw c.as_slice-clock-items.ensures at c.clock-item.is) row refl c.in_ok-bytes.ensures.counts c.loop-first.invariant
