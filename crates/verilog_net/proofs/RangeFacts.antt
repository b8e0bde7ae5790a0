-- The numbers from one to another, one by one.
use Rattle.std.proofs.Common.{◌≡◌, ◌∙◌, ◌+◌, ◌-◌, ◌<◌, ◌≤◌, ◌++◌, ◌∷◌, ℕ, suc, true, false, List, [], Some, append_assoc, map, nat_le, nat_lt, refl, sym, ap, arith}
use Rattle.std.specs.Prelude.{if◌then◌else◌}
use Rattle.std.proofs.lemmas.Bool.Decides.{nat_tests}
use Rattle.sdc_base.proofs.CaseFacts.{by_bool}
use Rattle.source_types.specs.declared.netlists.Bit.{Bit}
use Rattle.source_types.specs.declared.netlists.Range.{Range}
use Rattle.netlist_model.specs.Ranges.{falling, from_to, indices, rising}
use Rattle.netlist_model.specs.VerilogNets.{net_bit}

upwards : (i r : ℕ) → i ≤ r → from_to i r ≡ rising i ((r - i) + 1)
upwards i r up = let test : nat_le i r ≡ true = grind (arith, nat_tests) in rw test refl

downwards : (i r : ℕ) → r < i → from_to i r ≡ falling i ((i - r) + 1)
downwards i r down = let test : nat_le i r ≡ false = grind (arith, nat_tests) in rw test refl

pub from_to_same : (r : ℕ) → from_to r r ≡ r ∷ []
from_to_same r = let one : (r - r) + 1 ≡ 1 = omega arith in upwards r r (omega arith) ∙ ap (rising r) one

down_rest : (i r : ℕ) → r < i → falling (i - 1) (i - r) ≡ from_to (i - 1) r
down_rest i r down =
    by_bool (λ t. falling (i - 1) (i - r) ≡ (if t then rising (i - 1) ((r - (i - 1)) + 1) else falling (i - 1) (((i - 1) - r) + 1))) (nat_le (i - 1) r)
    (λ last. let below : i - 1 ≤ r = grind (arith, nat_tests) in
    let one : i - r ≡ 1 = omega (arith, below, down) in
    let other : (r - (i - 1)) + 1 ≡ 1 = omega (arith, below, down) in
    ap (falling (i - 1)) one ∙ ap (rising (i - 1)) (sym other))
    (λ more. let above : r < i - 1 = grind (arith, nat_tests) in
    let count : i - r ≡ ((i - 1) - r) + 1 = omega (arith, above) in
    ap (falling (i - 1)) count)

one_up : (i r : ℕ) → i < r → from_to i r ≡ i ∷ from_to (i + 1) r
one_up i r up =
    let count : (r - i) + 1 ≡ suc ((r - (i + 1)) + 1) = omega (arith, up) in
    upwards i r (omega (arith, up)) ∙ (ap (rising i) count ∙ ap (λ ns. i ∷ ns) (sym (upwards (i + 1) r (omega (arith, up)))))

one_down : (i r : ℕ) → r < i → from_to i r ≡ i ∷ from_to (i - 1) r
one_down i r down =
    let count : (i - r) + 1 ≡ suc (i - r) = omega arith in
    downwards i r down ∙ (ap (falling i) count ∙ ap (λ ns. i ∷ ns) (down_rest i r down))

from_to_more : (i r : ℕ) → (i ≡ r → ⊥) → from_to i r ≡ i ∷ from_to (if nat_lt i r then i + 1 else i - 1) r
from_to_more i r apart =
    by_bool (λ t. from_to i r ≡ i ∷ from_to (if t then i + 1 else i - 1) r) (nat_lt i r)
    (λ up. let less : i < r = grind (arith, nat_tests) in one_up i r less)
    (λ down. let not_less : r ≤ i = grind (arith, nat_tests) in let more : r < i = omega (arith, apart, not_less) in one_down i r more)

-- the next number is nearer
pub nearer : (i r : ℕ) → (i ≡ r → ⊥) → (r - (if nat_lt i r then i + 1 else i - 1)) + ((if nat_lt i r then i + 1 else i - 1) - r) < (r - i) + (i - r)
nearer i r apart =
    by_bool (λ t. (r - (if t then i + 1 else i - 1)) + ((if t then i + 1 else i - 1) - r) < (r - i) + (i - r)) (nat_lt i r)
    (λ up. let less : i < r = grind (arith, nat_tests) in omega (arith, less))
    (λ down. let not_less : r ≤ i = grind (arith, nat_tests) in omega (arith, apart, not_less))

bits_once : (name : List ℕ) (ns : List ℕ) → map (net_bit name) (map (λ i. Some i) ns) ≡ map (λ i. net_bit name (Some i)) ns
bits_once name [] = refl
bits_once name (n ∷ ns) = ap (λ bs. net_bit name (Some n) ∷ bs) (bits_once name ns)

pub range_bits : (name : List ℕ) (range : Range) → map (net_bit name) (indices (Some range)) ≡ map (λ i. net_bit name (Some i)) (from_to range.left range.right)
range_bits name range = bits_once name (from_to range.left range.right)

pub range_more : (bits more start : List Bit) (name : List ℕ) (i r n : ℕ) → (i ≡ r → ⊥) → more ≡ bits ++ net_bit name (Some i) ∷ [] → n ≡ (if nat_lt i r then i + 1 else i - 1)
    → bits ++ map (λ j. net_bit name (Some j)) (from_to i r) ≡ start → more ++ map (λ j. net_bit name (Some j)) (from_to n r) ≡ start
range_more bits more start name i r n apart is next so_far =
    ap (λ (bs : List Bit). bs ++ map (λ j. net_bit name (Some j)) (from_to n r)) is
    ∙ (append_assoc bits (net_bit name (Some i) ∷ []) (map (λ j. net_bit name (Some j)) (from_to n r))
    ∙ (ap (λ (m : ℕ). bits ++ net_bit name (Some i) ∷ map (λ j. net_bit name (Some j)) (from_to m r)) next
    ∙ (ap (λ (ns : List ℕ). bits ++ map (λ j. net_bit name (Some j)) ns) (sym (from_to_more i r apart)) ∙ so_far)))
