use Rattle.std.proofs.Common.{◌∙◌, ap}
use Rattle.std.proofs.lemmas.Result.{IfOk-weaker}
use Rattle.serde_json.specs.Written.{has_float}
use Rattle.sdc_cli.proofs.ReportTrees.{no_float-tree}
use Rattle.sdc_cli.proofs.report_tree.tree.Goals as goal

pub returns-clause-no_float : goal.returns-clause-no_float
returns-clause-no_float c =
    IfOk-weaker c.part.result _ _ (λ value is_tree. ap has_float is_tree ∙ no_float-tree c.args.report.now) c.part.ensures
