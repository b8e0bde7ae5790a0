use Rattle.sdc_cli.proofs.OneReport.{reports_once}
use Rattle.sdc_cli.proofs.laws.modes_have_one_report.Goals as goal

pub returns : goal.returns
returns c = reports_once
