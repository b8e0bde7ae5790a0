use Rattle.clock_map.proofs.OneMap.{map_once}
use Rattle.clock_map.proofs.map_laws.modes_have_one_map.Goals as goal

pub returns : goal.returns
returns c = map_once
