use Rattle.std.proofs.Common.{◌≡◌, ◌<◌, ◌∙◌, ◌-◌, ◌+◌, ℕ, length, get_or, sym, subst, arith}
use Rattle.std.proofs.lemmas.Bool.{false≢true}
use Rattle.clock_map.proofs.ClockLists.{primary_mode, waves_of_mode}
use Rattle.clock_map.proofs.PlainLists.{PlainSoFar, plain_step, too_many}
use Rattle.clock_map.proofs.plain_views.are_plain.Goals as goal
use Rattle.clock_map.proofs.plain_views.are_plain.Goals.{then-len-clocks-via-then-len-clocks, then-len-clocks-via-else-len-clocks+then-not-are_primary}

pub returns-then-len-clocks : goal.returns-then-len-clocks
returns-then-len-clocks c =
    let items = c.as_slice-view-items.ensures in
    let i = c.loop-view.view-index in
    let view = c.view-item.result in
    let within : i < length c.args.modes.now = rw items at c.loop-view-test.true in
    let is : view ≡ get_or c.args.modes.now i view = rw items at c.view-item.is in (
      λ h. absurd (false≢true h),
      λ plain. elim c.then-len-clocks.branch [
        | then-len-clocks-via-then-len-clocks w ↦
            let same = waves_of_mode c.args.modes.now i view plain.waves within is in
            let a = c.len.ensures in let b = c.len-clocks.ensures in
            absurd (w.if-len-clocks.true (a ∙ same ∙ sym b))
        | then-len-clocks-via-else-len-clocks+then-not-are_primary w ↦
            sym w.if-not-are_primary.true ∙ w.are_primary.ensures.1 (primary_mode c.args.modes.now i view plain.primary within is)
      ],
    )

pub returns-then-left-clocks : goal.returns-then-left-clocks
returns-then-left-clocks c =
    let items = c.as_slice-view-items.ensures in
    let i = c.loop-view.view-index in
    let view = c.view-item.result in
    let count = c.len-clocks.ensures in (
      λ h. absurd (false≢true h),
      λ plain. absurd (too_many c.args.modes.now i c.loop-view.left view (rw items at c.loop-view-test.true) (rw items at c.view-item.is)
          (omega (arith, c.if-left-clocks.true)) c.loop-view.invariant plain),
    )

pub loop-view-preserved : goal.loop-view-preserved
loop-view-preserved c =
    let items = c.as_slice-view-items.ensures in
    let i = c.loop-view.view-index in
    let view = c.view-item.result in
    let count = c.len-clocks.ensures in
    let waves : length view.waves ≡ length view.mode.clocks = sym c.len.ensures ∙ c.if-len-clocks.false ∙ count in
    let step = plain_step c.args.modes.now i c.loop-view.left view (rw items at c.loop-view-test.true) (rw items at c.view-item.is)
    (c.are_primary.ensures.0 c.if-not-are_primary.false) waves (omega (arith, c.if-left-clocks.false)) c.loop-view.invariant in
    subst (λ (n : ℕ). PlainSoFar c.args.modes.now (i + 1) (c.loop-view.left - n)) (sym count) step
