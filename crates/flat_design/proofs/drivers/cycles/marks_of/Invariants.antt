-- The nets of the rows so far are marked.
use Rattle.std.proofs.Common.{◌≡◌, ◌<◌, ◌||◌, ℕ, false, get_or, length, take}
use Rattle.std.specs.List.{list_any}
use Rattle.flat_design.specs.Cycles.{falls, is_level_at}
use Rattle.flat_design.proofs.drivers.cycles.marks_of.Given as goal

abbrev pub invariant-loop-row : goal.invariant-loop-row
invariant-loop-row l = record {
  count : length l.marks.items ≡ length l.numbers;
  each : (net : ℕ) → net < length l.numbers → get_or l.marks.items net false
      ≡ (list_any (falls l.numbers) l.rows || list_any (is_level_at l.numbers net) (take l.row-index l.rows));
}
