use Rattle.timing_model.proofs.RelationFacts.{same_relation}
use Rattle.clock_tree.proofs.edge_laws.relation_is_unique.Goals as goal

pub returns : goal.returns
returns c = same_relation
