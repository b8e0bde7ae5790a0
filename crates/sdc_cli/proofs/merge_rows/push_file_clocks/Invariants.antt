use Rattle.std.proofs.Common.{◌≡◌, ◌++◌, drop}
use Rattle.sdc_cli.specs.MergeRows.{file_clocks}
use Rattle.sdc_cli.proofs.merge_rows.push_file_clocks.Given as goal

-- the clocks so far and those that are left are all clocks
abbrev pub invariant-loop-at : goal.invariant-loop-at
invariant-loop-at l =
    l.out ++ file_clocks l.merged l.file (drop l.at l.clocks) (drop l.at l.numbers) ≡ l.fn.out ++ file_clocks l.merged l.file l.clocks l.numbers
