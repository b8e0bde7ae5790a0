use Rattle.std.proofs.Common.{length}
use Rattle.print_rows.proofs.printable_modes.+are_pairs.Given as goal

abbrev pub decreases-are_pairs : goal.decreases-are_pairs
decreases-are_pairs l = length l.pairs.now
