-- The nets so far are done.
use Rattle.std.proofs.Common.{◌≡◌, ◌<◌, ℕ, length, true}
use Rattle.flat_design.specs.Ends.{AreSettled, is_done, mark_of}
use Rattle.flat_design.proofs.drivers.ends.ends_of.Given as goal

abbrev pub invariant-loop-net : goal.invariant-loop-net
invariant-loop-net l = record {
  settled : AreSettled l.table.rows.now (length l.table.last) l.marks.items;
  done : (k : ℕ) → k < l.net → is_done (mark_of l.marks.items k) ≡ true;
}
