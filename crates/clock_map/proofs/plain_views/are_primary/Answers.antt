use Rattle.std.proofs.Common.{◌∙◌, sym}
use Rattle.std.proofs.lemmas.Bool.{false≢true}
use Rattle.clock_map.proofs.PlainLists.{primary_here, primary_step}
use Rattle.clock_map.proofs.plain_views.are_primary.Goals as goal

pub returns-then-not-is_primary : goal.returns-then-not-is_primary
returns-then-not-is_primary c =
    let items = c.as_slice-clock-items.ensures in (
      λ h. absurd (false≢true h),
      λ all. sym c.if-not-is_primary.true ∙ c.is_primary.ensures.1
          (primary_here c.args.clocks.now c.loop-clock.clock-index c.clock-item.result (rw items at c.loop-clock-test.true) (rw items at c.clock-item.is) all),
    )

pub loop-clock-preserved : goal.loop-clock-preserved
loop-clock-preserved c =
    let items = c.as_slice-clock-items.ensures in
    primary_step c.args.clocks.now c.loop-clock.clock-index c.clock-item.result (rw items at c.loop-clock-test.true) (rw items at c.clock-item.is)
    (c.is_primary.ensures.0 c.if-not-is_primary.false) c.loop-clock.invariant
