use Rattle.std.proofs.Common.{◌^◌}
use Rattle.sdc_base.proofs.PlaceFacts.{Writes}
use Rattle.sdc_base.proofs.fixed_text.push_places.Given as goal

abbrev pub invariant-loop-place : goal.invariant-loop-place
invariant-loop-place l = Writes 9 l.fn.text l.text l._place l.rest l.left (10 ^ 9)
