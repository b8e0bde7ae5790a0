use Rattle.std.proofs.Common.{◌≡◌, ◌*◌, ◌^◌, min}
use Rattle.sdc_base.proofs.rounding.grown.Given as goal

abbrev pub invariant-loop-step : goal.invariant-loop-step
invariant-loop-step l = l.grown ≡ min (l.value * 10 ^ l._step) (10 ^ 24)
