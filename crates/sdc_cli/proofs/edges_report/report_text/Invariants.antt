use Rattle.std.proofs.Common.{◌≡◌, ◌++◌, ℕ, List, drop}
use Rattle.sdc_model.specs.EdgesText.{AreReports, ModesHaveTimes}
use Rattle.sdc_cli.proofs.edges_report.report_text.Given as goal

-- whatever reports follow for the files that are left complete the reports for all
abbrev pub invariant-loop-at : goal.invariant-loop-at
invariant-loop-at l = record {
  timed : ModesHaveTimes (drop l.at l.modes);
  reports : (rest : List ℕ) → AreReports (drop l.at l.files) (drop l.at l.modes) rest
      → (all : List ℕ) × AreReports l.files l.modes all × (all ≡ l.text.items ++ rest);
}
