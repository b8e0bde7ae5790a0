use Rattle.std.proofs.Common.{◌≡◌, ◌+◌, drop}
use Rattle.sdc_print.specs.Runs.{run_length}
use Rattle.sdc_print.proofs.group_printing.group_size.Given as goal

abbrev pub invariant-loop-size : goal.invariant-loop-size
invariant-loop-size l = run_length l.place l.pairs ≡ l.size + run_length l.place (drop l.size l.pairs)
