use Rattle.std.proofs.Common.{[]}
use Rattle.timing_laws.proofs.timings.clocks_arrive_at_their_sources.Goals as goal

pub returns : goal.returns
returns c graph alive clocks edge node same source = ([], (same, source))
