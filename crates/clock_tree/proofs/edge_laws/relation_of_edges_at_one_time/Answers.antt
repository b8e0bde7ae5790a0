use Rattle.std.proofs.Common.{◌≡◌, ℕ, zero, suc, ◌*◌, ◌/◌, ◌<◌, ℤ, pos, negsuc, arith}
use Rattle.std.proofs.Math.Nat.{div-mul_cancel}
use Rattle.std.proofs.lemmas.Int.{ints}
use Rattle.std.specs.Int.{IsGcd}
use Rattle.timing_model.specs.Relation.{IsEdgeOf, IsRelation}
use Rattle.clock_tree.proofs.Separations.{IsRelation-from_shifted}
use Rattle.clock_tree.proofs.edge_laws.relation_of_edges_at_one_time.Goals as goal

divides_some : (k g p : ℕ) → k * g ≡ p → 0 < p → 0 < g
divides_some k zero p e some = absurd (omega arith)
divides_some k (suc g) p e some = omega arith

at_one_time : (a : ℤ) (p q g : ℕ) → IsEdgeOf a (pos p) → IsEdgeOf a (pos q) → IsGcd p q g
    → IsRelation a (pos p) a (pos q) (record { setup = pos g; hold = pos 0 })
at_one_time (pos a) p q g launch capture common =
    let some_p : 0 < p = omega (arith, ints) in
    let some_q : 0 < q = omega (arith, ints) in
    let some : 0 < g = divides_some (p / g) g p (div-mul_cancel g common.0) some_p in
    IsRelation-from_shifted a p a q g (record { setup = pos g; hold = pos 0 }) some_p some_q common
    (record { up = 0; down = 1; same = omega (arith, ints) }) (omega (arith, ints)) (omega (arith, ints)) (omega (arith, ints))
at_one_time (negsuc a) p q g launch capture common = absurd (omega (arith, ints))

pub returns : goal.returns
returns c = at_one_time
