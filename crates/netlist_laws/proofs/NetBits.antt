-- Bits of a netlist without faults are constants, or bits of a net of their module.
use Rattle.std.proofs.lemmas.Bool.{and_parts, or_cases}
use Rattle.sdc_base.proofs.CaseFacts.{by_bool}
use Rattle.text_model.proofs.Members.{contains, In}
use Rattle.netlist_model.specs.Ranges.{falling, from_to, indices, rising}
use Rattle.netlist_model.specs.Verilog.{has_index, is_within, unknown_in}
use Rattle.netlist_model.specs.VerilogNets.{net_bit, piece_bits, range_named}
use Rattle.netlist_model.specs.VerilogSyntax.{bit, constant, Declared, is, part, Piece, whole}
use Rattle.netlist_model.specs.VerilogTokens.{Token}
use Rattle.netlist_model.specs.WellFormedNetlist.{IsBetween, IsBitOf, IsDriven, IsNetBit, Selects}
use Rattle.source_types.specs.declared.netlists.Bit.TheVariants as bits
use Rattle.source_types.specs.declared.netlists.Bit.{Bit}
use Rattle.source_types.specs.declared.netlists.Range.{Range}
use Rattle.source_types.specs.declared.netlists.Wire.{Wire}
use Rattle.std.proofs.Common.{◌+◌, ◌-◌, ◌∙◌, ◌∷◌, ◌≡◌, ◌≤◌, [], arith, Bool, false, inl, inr, List, map, nat_le, None, Option, refl, Some, subst, suc, sym, true, zero, ℕ}
use Rattle.std.proofs.lemmas.Bool.Decides.{nat_tests}
use Rattle.std.proofs.lemmas.List.Elements.{All-cons, All-nil, All-weaker}
use Rattle.std.proofs.lemmas.Option.{same_Some}
use Rattle.std.proofs.lemmas.Simd.{map-map}
use Rattle.std.specs.List.{All}
use Rattle.std.specs.Prelude.{◌&&◌, if◌then◌else◌}

-- ---- numbers in a range

abbrev AllBetween : Range → List ℕ → Type 0
AllBetween range [] = Unit {0}
AllBetween range (i ∷ is) = IsBetween range i × AllBetween range is

within_between : (range : Range) (i : ℕ) → is_within range i ≡ true → IsBetween range i
within_between range i h =
    elim (or_cases (nat_le range.left i && nat_le i range.right) (nat_le range.right i && nat_le i range.left) h) [
      | inl up ↦ let both = and_parts (nat_le range.left i) (nat_le i range.right) up in
          let low : nat_le range.left i ≡ true = both.0 in
          let high : nat_le i range.right ≡ true = both.1 in
          inl (grind (arith, nat_tests), grind (arith, nat_tests))
      | inr down ↦ let both = and_parts (nat_le range.right i) (nat_le i range.left) down in
          let low : nat_le range.right i ≡ true = both.0 in
          let high : nat_le i range.left ≡ true = both.1 in
          inr (grind (arith, nat_tests), grind (arith, nat_tests))
    ]

-- a number between two that are in a range is in it
between_two : (range : Range) (a b i : ℕ) → IsBetween range a → IsBetween range b → a ≤ i → i ≤ b → IsBetween range i
between_two range a b i (inl h) (inl k) low high = inl (omega (arith, h.0, low), omega (arith, k.1, high))
between_two range a b i (inl h) (inr k) low high = inl (omega (arith, h.0, low), omega (arith, h.0, h.1, k.0, k.1, low, high))
between_two range a b i (inr h) (inl k) low high = inr (omega (arith, h.0, h.1, k.0, k.1, low, high), omega (arith, h.0, h.1, k.0, k.1, low, high))
between_two range a b i (inr h) (inr k) low high = inr (omega (arith, h.0, low), omega (arith, k.1, high))

rising_between : (range : Range) (a b n count : ℕ) → IsBetween range a → IsBetween range b → a ≤ n → n + count ≤ b + 1 → AllBetween range (rising n count)
rising_between range a b n zero h k low high = tt
rising_between range a b n (suc count) h k low high =
    (between_two range a b n h k low (omega (arith, high)), rising_between range a b (n + 1) count h k (omega (arith, low)) (omega (arith, high)))

falling_between : (range : Range) (a b n count : ℕ) → IsBetween range a → IsBetween range b → n ≤ b → a + count ≤ n + 1 → AllBetween range (falling n count)
falling_between range a b n zero h k low high = tt
falling_between range a b n (suc count) h k low high =
    (between_two range a b n h k (omega (arith, high)) low, falling_between range a b (n - 1) count h k (omega (arith, low)) (omega (arith, high)))

all_between : (range : Range) (left right : ℕ) → IsBetween range left → IsBetween range right → AllBetween range (from_to left right)
all_between range left right h k =
    by_bool (λ b. AllBetween range (if b then rising left ((right - left) + 1) else falling left ((left - right) + 1))) (nat_le left right)
    (λ up. let less : left ≤ right = grind (arith, nat_tests) in rising_between range left right left ((right - left) + 1) h k (omega arith) (omega (arith, less)))
    (λ down. let more : right ≤ left = grind (arith, nat_tests) in falling_between range right left left ((left - right) + 1) k h (omega arith) (omega (arith, more)))

-- ---- nets of a module

-- a net of a name that has the range that its declarations give
abbrev pub HasNet : List Declared → List Wire → List ℕ → Type 0
HasNet all nets name = (net : Wire) × In net nets × (net.name ≡ name) × (net.range ≡ range_named all name)

net_bit_of : (all : List Declared) (nets : List Wire) (name : List ℕ) (index : Option ℕ) → HasNet all nets name → Selects index (range_named all name) → IsNetBit nets name index
net_bit_of all nets name index net selects =
    (net.0, contains net.0 nets net.1, net.2, subst (λ (r : Option Range). Selects index r) (sym net.3) selects)

-- all bits are of nets
index_bits : (all : List Declared) (nets : List Wire) (name : List ℕ) (range : Range) (is : List ℕ) → HasNet all nets name → range_named all name ≡ Some range → AllBetween range is → All (IsDriven nets) (map (λ i. net_bit name (Some i)) is)
index_bits all nets name range [] net of between = All-nil (IsDriven nets)
index_bits all nets name range (i ∷ is) net of between =
    All-cons (IsDriven nets) (net_bit name (Some i)) (map (λ j. net_bit name (Some j)) is)
    (net_bit_of all nets name (Some i) net (subst (λ (r : Option Range). Selects (Some i) r) (sym of) between.0))
    (index_bits all nets name range is net of between.1)

ends_between : (range : Range) → IsBetween range range.left × IsBetween range range.right
ends_between range =
    by_bool (λ b. IsBetween range range.left × IsBetween range range.right) (nat_le range.left range.right)
    (λ up. let less : range.left ≤ range.right = grind (arith, nat_tests) in (inl (omega arith, less), inl (less, omega arith)))
    (λ down. let more : range.right ≤ range.left = grind (arith, nat_tests) in (inr (more, omega arith), inr (omega arith, more)))

whole_bits : (all : List Declared) (nets : List Wire) (name : List ℕ) (range : Option Range) → range_named all name ≡ range → HasNet all nets name → All (IsDriven nets) (map (net_bit name) (indices range))
whole_bits all nets name None of net =
    All-cons (IsDriven nets) (net_bit name None) [] (net_bit_of all nets name None net (subst (λ (r : Option Range). Selects None r) (sym of) tt)) (All-nil (IsDriven nets))
whole_bits all nets name (Some range) of net =
    let ends = ends_between range in
    subst (λ bs. All (IsDriven nets) bs) (sym (map-map (net_bit name) (λ i. Some i) (from_to range.left range.right)))
    (index_bits all nets name range (from_to range.left range.right) net of (all_between range range.left range.right ends.0 ends.1))

-- an index that is there is in the range of a name that has one
indexed : (r : Option Range) (i : ℕ) → has_index r i ≡ true → (range : Range) × (r ≡ Some range) × IsBetween range i
indexed None i h = cc
indexed (Some range) i h = (range, refl, within_between range i h)

unless : (b : Bool) (name : Token) → (if b then [] else name ∷ []) ≡ [] → b ≡ true
unless true name h = refl
unless false name h = cc

-- pieces that name a net
abbrev pub names_net : Piece → Bool
names_net (whole name) = true
names_net (bit name i) = true
names_net (part name left right) = true
names_net (constant values) = false

-- the nets of pieces are there
abbrev pub HasNets : List Declared → List Wire → Piece → Type 0
HasNets all nets (whole name) = HasNet all nets name.text
HasNets all nets piece = Unit {0}

-- a name that has a range has a net
abbrev pub Declares : List Declared → List Wire → Type 0
Declares all nets = (name : List ℕ) (range : Range) → range_named all name ≡ Some range → HasNet all nets name

pub driven_bits : (all : List Declared) (nets : List Wire) (piece : Piece) → Declares all nets → unknown_in all piece ≡ [] → HasNets all nets piece → names_net piece ≡ true → All (IsDriven nets) (piece_bits all piece)
driven_bits all nets (whole name) declares known has is = whole_bits all nets name.text (range_named all name.text) refl has
driven_bits all nets (bit name i) declares known has is =
    let at = indexed (range_named all name.text) i (unless (has_index (range_named all name.text) i) name known) in
    index_bits all nets name.text at.0 (i ∷ []) (declares name.text at.0 at.1) at.1 (at.2, tt)
driven_bits all nets (part name left right) declares known has is =
    let both = and_parts (has_index (range_named all name.text) left) (has_index (range_named all name.text) right) (unless (has_index (range_named all name.text) left && has_index (range_named all name.text) right) name known) in
    let first = indexed (range_named all name.text) left both.0 in
    let second = indexed (range_named all name.text) right both.1 in
    let same : first.0 ≡ second.0 = same_Some first.0 second.0 (sym first.1 ∙ second.1) in
    index_bits all nets name.text first.0 (from_to left right) (declares name.text first.0 first.1) first.1
    (all_between first.0 left right first.2 (subst (λ (r : Range). IsBetween r right) (sym same) second.2))
driven_bits all nets (constant values) declares known has is = cc

driven_is_bit : (nets : List Wire) (b : Bit) → IsDriven nets b → IsBitOf nets b
driven_is_bit nets (bits.Net name index) h = h
driven_is_bit nets (bits.Constant value) h = tt

constants : (nets : List Wire) (values : List (Option Bool)) → All (IsBitOf nets) (map bits.Constant values)
constants nets [] = All-nil (IsBitOf nets)
constants nets (v ∷ values) = All-cons (IsBitOf nets) (bits.Constant v) (map bits.Constant values) tt (constants nets values)

pub piece_ok : (all : List Declared) (nets : List Wire) (piece : Piece) → Declares all nets → unknown_in all piece ≡ [] → HasNets all nets piece → All (IsBitOf nets) (piece_bits all piece)
piece_ok all nets (whole name) declares known has = All-weaker (IsDriven nets) (IsBitOf nets) (driven_is_bit nets) (piece_bits all (whole name)) (driven_bits all nets (whole name) declares known has refl)
piece_ok all nets (bit name i) declares known has = All-weaker (IsDriven nets) (IsBitOf nets) (driven_is_bit nets) (piece_bits all (bit name i)) (driven_bits all nets (bit name i) declares known has refl)
piece_ok all nets (part name left right) declares known has = All-weaker (IsDriven nets) (IsBitOf nets) (driven_is_bit nets) (piece_bits all (part name left right)) (driven_bits all nets (part name left right) declares known has refl)
piece_ok all nets (constant values) declares known has = constants nets values
