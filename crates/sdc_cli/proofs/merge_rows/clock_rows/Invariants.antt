use Rattle.std.proofs.Common.{◌≡◌, ◌++◌, drop}
use Rattle.sdc_cli.specs.MergeRows.{clock_rows}
use Rattle.sdc_cli.proofs.merge_rows.clock_rows.Given as goal

-- the rows so far and those of the clocks that are left are those of all clocks
abbrev pub invariant-loop-number : goal.invariant-loop-number
invariant-loop-number l =
    l.rows ++ clock_rows l.number l.files l.modes l.merged.maps (drop l.number l.merged.clocks)
    ≡ clock_rows 0 l.files l.modes l.merged.maps l.merged.clocks
