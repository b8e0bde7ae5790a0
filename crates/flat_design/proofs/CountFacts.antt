-- Counts of bits, as far as a design may have.
use Rattle.std.proofs.Common.{◌≡◌, ◌+◌, ◌<◌, ℕ, min, List, [], ◌∷◌, map, length, take, get_or, refl, ◌∙◌, ap, arith}
use Rattle.std.proofs.lemmas.List.{length-map}
use Rattle.std.proofs.lemmas.List.Concat.{length-flat_map}
use Rattle.std.proofs.lemmas.List.Sums.{sum_by_more, sum_by-cons}
use Rattle.std.specs.List.{sum_by}
use Rattle.source_types.specs.declared.netlists.Module.{Module}
use Rattle.source_types.specs.declared.netlists.Port.{Port}
use Rattle.source_types.specs.declared.netlists.Wire.{Wire}
use Rattle.flat_model.specs.FlatDesign.{port_pin, port_pins}
use Rattle.flat_model.specs.FlatNets.{nets_in, wire_nets}
use Rattle.flat_model.specs.Instances.{ModuleInstance}
use Rattle.netlist_model.specs.Ranges.{indices, width}
use Rattle.netlist_model.proofs.RangeFacts.{indices_length}
use Rattle.flat_design.specs.Elaboration.{capped}

-- one more term of a sum
pub count_more : {X : Type 0} (f : X → ℕ) (xs : List X) (i : ℕ) (x : X) (count w : ℕ) → i < length xs → x ≡ get_or xs i x → w ≡ f x
    → count ≡ min (sum_by f (take i xs)) 4000002 → capped count w ≡ min (sum_by f (take (i + 1) xs)) 4000002
count_more f xs i x count w within is same so_far =
    let more = sum_by_more f xs i x within in
    let own : f x ≡ f (get_or xs i x) = ap f is in
    omega (arith, more, own, same, so_far)

pub same_sum : {X : Type 0} (f g : X → ℕ) → ((x : X) → f x ≡ g x) → (xs : List X) → sum_by f xs ≡ sum_by g xs
same_sum f g same [] = refl
same_sum f g same (x ∷ xs) =
    let one = same x in
    let rest = same_sum f g same xs in
    let a = sum_by-cons f x xs in
    let b = sum_by-cons g x xs in
    omega (arith, one, rest, a, b)

pub nets_length : (scope : ModuleInstance) → length (nets_in scope) ≡ sum_by (λ (net : Wire). width net.range) scope.body.nets
nets_length scope =
    length-flat_map (wire_nets scope) scope.body.nets
    ∙ same_sum (λ (net : Wire). length (wire_nets scope net)) (λ (net : Wire). width net.range)
    (λ net. length-map (indices net.range) _ ∙ indices_length net.range) scope.body.nets

pub ports_length : (top : Module) → length (port_pins top) ≡ sum_by (λ (port : Port). width port.range) top.ports
ports_length top =
    length-flat_map (λ (port : Port). map (port_pin port) (indices port.range)) top.ports
    ∙ same_sum (λ (port : Port). length (map (port_pin port) (indices port.range))) (λ (port : Port). width port.range)
    (λ port. length-map (indices port.range) (port_pin port) ∙ indices_length port.range) top.ports
