-- No net before this one has two sources.
use Rattle.std.proofs.Common.{◌≡◌, ◌<◌, ℕ, false}
use Rattle.flat_design.specs.Sources.{has_two}
use Rattle.flat_design.proofs.drivers.net_ends.any_has_two.Given as goal

abbrev pub invariant-loop-net : goal.invariant-loop-net
invariant-loop-net l = (net : ℕ) → net < l.net → has_two l.table.rows.now net ≡ false
