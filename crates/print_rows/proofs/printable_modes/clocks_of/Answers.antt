use Rattle.std.proofs.Common.{sym, ◌∙◌}
use Rattle.sdc_print.proofs.PrintableFacts.{next_clock}
use Rattle.print_rows.proofs.printable_modes.clocks_of.Goals as goal

pub loop-name-preserved : goal.loop-name-preserved
loop-name-preserved c =
    next_clock c.loop-name.clocks c.push.new.self c.in-Some.name.now _ c.in_ok-clock.clock c.loop-name.invariant
    (c.is_wave.ensures c.if-not-is_wave.false) (c.is_plain_name.ensures c.if-not-is_plain_name.false)
    (sym c.is_held.ensures ∙ c.if-is_held.false) c.in_ok-clock.ensures c.in_ok-push.ensures.ok
