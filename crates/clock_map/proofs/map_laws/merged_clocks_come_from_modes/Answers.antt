use Rattle.clock_map.proofs.SharedClocks.{from_mode}
use Rattle.clock_map.proofs.map_laws.merged_clocks_come_from_modes.Goals as goal

pub returns : goal.returns
returns c = from_mode
