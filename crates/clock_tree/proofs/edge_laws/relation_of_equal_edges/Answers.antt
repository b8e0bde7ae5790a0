use Rattle.std.proofs.Common.{ℤ, pos, negsuc, arith}
use Rattle.std.proofs.lemmas.Int.{ints}
use Rattle.std.proofs.lemmas.Nat.Gcd.{dvd_refl}
use Rattle.timing_model.specs.Relation.{IsEdgeOf, IsRelation}
use Rattle.clock_tree.proofs.Separations.{IsRelation-from_shifted}
use Rattle.clock_tree.proofs.edge_laws.relation_of_equal_edges.Goals as goal

equal_edges : (a p : ℤ) → IsEdgeOf a p → IsRelation a p a p (record { setup = p; hold = pos 0 })
equal_edges (pos a) (pos p) edge =
    IsRelation-from_shifted a p a p p (record { setup = pos p; hold = pos 0 }) (omega (arith, ints)) (omega (arith, ints)) (dvd_refl p, dvd_refl p, λ d h g. h) (record { up = 0; down = 1; same = omega (arith, ints) }) (omega (arith, ints)) (omega (arith, ints)) (omega (arith, ints))
equal_edges (negsuc a) p edge = absurd (omega (arith, ints))
equal_edges a (negsuc p) edge = absurd (omega (arith, ints))

pub returns : goal.returns
returns c a p edge = equal_edges a p edge
