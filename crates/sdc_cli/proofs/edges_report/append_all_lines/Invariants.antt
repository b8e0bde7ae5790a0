use Rattle.std.proofs.Common.{◌≡◌, ◌++◌, ℕ, List, drop}
use Rattle.sdc_model.specs.EdgesText.{AreLines, AreTimed}
use Rattle.sdc_cli.proofs.edges_report.append_all_lines.Given as goal

-- whatever lines follow for the launch edges that are left complete the lines for all
abbrev pub invariant-loop-launch : goal.invariant-loop-launch
invariant-loop-launch l = record {
  timed : AreTimed (drop l.launch-index l.edges);
  lines : (rest : List ℕ) → AreLines l.file (drop l.launch-index l.edges) l.edges rest
      → (lines : List ℕ) × AreLines l.file l.edges l.edges lines × (l.fn.text.items ++ lines ≡ l.text.items ++ rest);
}
