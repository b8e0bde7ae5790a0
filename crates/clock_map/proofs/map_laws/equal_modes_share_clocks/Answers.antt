use Rattle.clock_map.proofs.SharedClocks.{shared}
use Rattle.clock_map.proofs.map_laws.equal_modes_share_clocks.Goals as goal

pub returns : goal.returns
returns c = shared
