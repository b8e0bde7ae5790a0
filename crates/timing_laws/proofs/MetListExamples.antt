-- Through lists by example. A walk of one node meets one of two lists, also where both have its pin; a walk on to a
-- second node meets both of two lists that have a node each, in their order alone.
use Rattle.std.proofs.Common.{◌≡◌, ℕ, zero, suc, ◌<◌, List, [], ◌∷◌, None, get_or, refl, sym, ap, subst, arith}
use Rattle.std.specs.Prelude.{take}
use Rattle.std.specs.List.{AllZip}
use Rattle.std.proofs.lemmas.Option.{none-some, same_Some, slice_get_within}
use Rattle.timing_types.specs.declared.constraints.Through.{Through}
use Rattle.pin_types.specs.declared.pins.Edge.TheVariants.{Rise}
use Rattle.pin_types.specs.declared.pins.Node.{Node}
use Rattle.pin_types.specs.declared.pins.Pin.{Pin}
use Rattle.timing_model.specs.Classes.{IsMostMet}
use Rattle.timing_model.specs.Matching.{AreMet, AreRising, HasNodeAt, IsIn}
use Rattle.pin_types.specs.Nodes.{node_at}

abbrev list_of : ℕ → Through
list_of pin = record { edge = None; pins = record { 0 = pin } ∷ [] }

abbrev clock_pin : Node
clock_pin = node_at 4 Rise

abbrev output : Node
output = node_at 5 Rise

-- one place rises, and two do where the first is less
one_rises : (p : ℕ) → AreRising (p ∷ [])
one_rises p zero zero q r less first second = absurd (omega arith)
one_rises p (suc i) j q r less first second = absurd (none-some q first)
one_rises p zero (suc j) q r less first second = absurd (none-some r second)

-- ---- one node

met_once : AreMet (list_of 4 ∷ []) (clock_pin ∷ [])
met_once = record { places = 0 ∷ []; rising = one_rises 0; each = ((clock_pin, refl, ((0, omega arith, refl), tt)), tt) }

not_twice : AreMet (list_of 4 ∷ list_of 4 ∷ []) (clock_pin ∷ []) → ⊥
not_twice met = two met.places met.rising met.each where
  two : (places : List ℕ) → AreRising places → AllZip (λ list place. (node : Node) × HasNodeAt (clock_pin ∷ []) place node × IsIn list node) (list_of 4 ∷ list_of 4 ∷ []) places → ⊥
  two [] rising each = absurd each
  two (p ∷ []) rising each = absurd each.1
  two (p ∷ (q ∷ others)) rising each =
      let less : p < q = rising 0 1 p q (omega arith) refl refl in
      let below : q < 1 = slice_get_within (clock_pin ∷ []) q each.1.0.0 each.1.0.1 in omega arith

one_node_meets_one : IsMostMet (list_of 4 ∷ list_of 4 ∷ []) (clock_pin ∷ []) 1
one_node_meets_one = record {
  within = omega arith;
  met = met_once;
  most = λ more above within met.
      let two : more ≡ 2 = omega arith in
      not_twice (subst (λ n. AreMet (take n (list_of 4 ∷ list_of 4 ∷ [])) (clock_pin ∷ [])) two met);
}

-- ---- two nodes, the last one first

two_nodes_meet_two : IsMostMet (list_of 4 ∷ list_of 5 ∷ []) (output ∷ clock_pin ∷ []) 2
two_nodes_meet_two = record {
  within = omega arith;
  met = record {
    places = 0 ∷ 1 ∷ [];
    rising = λ i j p q less first second. rise i j p q less first second;
    each = ((clock_pin, refl, ((0, omega arith, refl), tt)), ((output, refl, ((0, omega arith, refl), tt)), tt));
  };
  most = λ more above within met. absurd (omega arith);
} where
  rise : AreRising (0 ∷ 1 ∷ [])
  rise zero zero p q less first second = absurd (omega arith)
  rise zero (suc zero) p q less first second =
      let a : 0 ≡ p = same_Some 0 p first in let b : 1 ≡ q = same_Some 1 q second in omega arith
  rise zero (suc (suc j)) p q less first second = absurd (none-some q second)
  rise (suc zero) zero p q less first second = absurd (omega arith)
  rise (suc zero) (suc zero) p q less first second = absurd (omega arith)
  rise (suc zero) (suc (suc j)) p q less first second = absurd (none-some q second)
  rise (suc (suc i)) j p q less first second = absurd (none-some p first)

-- pin 4 is not in a list of pin 5
not_in : (k : ℕ) (pin : Pin) → k < 1 → get_or (record { 0 = 5 } ∷ []) k pin ≡ pin → pin.0 ≡ 4 → ⊥
not_in zero pin below is four = let five : 5 ≡ pin.0 = ap (λ (p : Pin). p.0) is in omega arith
not_in (suc k) pin below is four = absurd (omega arith)

-- the lists in the other order are not both met
not_backwards : AreMet (list_of 5 ∷ list_of 4 ∷ []) (output ∷ clock_pin ∷ []) → ⊥
not_backwards met = two met.places met.rising met.each where
  -- the first list is met at place 1 alone, so the second is met after it, where no node stands
  two : (places : List ℕ) → AreRising places → AllZip (λ list place. (node : Node) × HasNodeAt (output ∷ clock_pin ∷ []) place node × IsIn list node) (list_of 5 ∷ list_of 4 ∷ []) places → ⊥
  two [] rising each = absurd each
  two (p ∷ []) rising each = absurd each.1
  two (zero ∷ (q ∷ others)) rising each =
      let same : clock_pin ≡ each.0.0 = same_Some clock_pin each.0.0 each.0.1 in
      not_in each.0.2.0.0 each.0.0.pin each.0.2.0.1 each.0.2.0.2 (sym (ap (λ (node : Node). node.pin.0) same))
  two (suc p ∷ (q ∷ others)) rising each =
      let less : suc p < q = rising 0 1 (suc p) q (omega arith) refl refl in
      let below : q < 2 = slice_get_within (clock_pin ∷ output ∷ []) q each.1.0.0 each.1.0.1 in omega arith
