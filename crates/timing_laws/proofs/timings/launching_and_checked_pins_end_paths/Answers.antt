use Rattle.timing_laws.proofs.InnerNodes.{inner_free}
use Rattle.timing_laws.proofs.timings.launching_and_checked_pins_end_paths.Goals as goal

pub returns : goal.returns
returns c design graph last before is path = inner_free design graph is last before path.0
