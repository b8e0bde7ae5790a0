use Rattle.sdc_cli.proofs.OneMerge.{merge_once}
use Rattle.sdc_cli.proofs.laws.modes_have_one_merge.Goals as goal

pub returns : goal.returns
returns c = merge_once
