use Rattle.std.proofs.Common.{sym, ◌∙◌, subst}
use Rattle.sdc_model.specs.EdgesText.{AreTimed}
use Rattle.sdc_cli.proofs.EdgeLines.{AreTimed-clock_edges}
use Rattle.sdc_cli.proofs.edges_report.append_report.Goals as goal

pub append_all_lines-requires : goal.append_all_lines-requires
append_all_lines-requires c =
    subst AreTimed (sym (c.as_slice.ensures ∙ c.in_ok-edges.ensures)) (AreTimed-clock_edges _ c.requires)
