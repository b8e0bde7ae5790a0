use Rattle.clock_map.proofs.SharedClocks.{apart}
use Rattle.clock_map.proofs.map_laws.clocks_of_a_mode_are_distinct.Goals as goal

pub returns : goal.returns
returns c = apart
