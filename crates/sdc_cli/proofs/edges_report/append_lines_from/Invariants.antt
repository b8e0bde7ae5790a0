use Rattle.std.proofs.Common.{◌≡◌, ◌++◌, ℕ, List, drop}
use Rattle.sdc_model.specs.EdgesText.{AreLinesFrom, AreTimed}
use Rattle.sdc_cli.proofs.edges_report.append_lines_from.Given as goal

-- whatever lines follow for the capture edges that are left complete the lines for all
abbrev pub invariant-loop-capture : goal.invariant-loop-capture
invariant-loop-capture l = record {
  timed : AreTimed (drop l.capture-index l.captures);
  lines : (rest : List ℕ) → AreLinesFrom l.file l.launch (drop l.capture-index l.captures) rest
      → (lines : List ℕ) × AreLinesFrom l.file l.launch l.captures lines × (l.fn.text.items ++ lines ≡ l.text.items ++ rest);
}
