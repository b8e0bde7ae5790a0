use Rattle.clock_map.proofs.RisingPairs.{pairs_once}
use Rattle.clock_map.proofs.map_laws.merged_clocks_have_one_list_of_pairs.Goals as goal

pub returns : goal.returns
returns c = pairs_once
