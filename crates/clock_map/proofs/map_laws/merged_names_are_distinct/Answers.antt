use Rattle.clock_map.proofs.SharedClocks.{names_distinct}
use Rattle.clock_map.proofs.map_laws.merged_names_are_distinct.Goals as goal

pub returns : goal.returns
returns c = names_distinct
