use Rattle.std.proofs.Common.{◌≡◌, ◌+◌, length, take}
use Rattle.sdc_base.proofs.PlaceFacts.{Writes}
use Rattle.sdc_base.proofs.times.write_places.Given as goal

abbrev pub invariant-loop-place : goal.invariant-loop-place
invariant-loop-place l = Writes 6 (take 22 l.fn.bytes) (take (22 + l.place) l.bytes) l.place l.rest l.left l.unit × (length l.bytes ≡ 28)
