use Rattle.std.proofs.Common.{◌≡◌, ◌++◌, drop, length}
use Rattle.std.specs.List.{AllZip}
use Rattle.sdc_cli.specs.MergeRows.{IsNumbered, mode_clocks}
use Rattle.sdc_cli.proofs.merge_rows.mode_clocks.Given as goal

-- the clocks so far and those of the modes that are left are those of all modes
abbrev pub invariant-loop-at : goal.invariant-loop-at
invariant-loop-at l = record {
  each : length (drop l.at l.files) ≡ length (drop l.at l.modes);
  maps : AllZip IsNumbered (drop l.at l.modes) (drop l.at l.maps);
  clocks : l.clocks ++ mode_clocks l.merged (drop l.at l.files) (drop l.at l.modes) (drop l.at l.maps) ≡ mode_clocks l.merged l.files l.modes l.maps;
}
