-- No two net bits of a design are one: they are distinct by path, name and index.
use Rattle.std.proofs.Common.{◌≡◌, ◌+◌, ◌-◌, ◌<◌, inl, inr, ℕ, List, [], map, slice_get, Option, Some, None, sym, ◌∙◌, ap, arith}
use Rattle.std.proofs.lemmas.Bool.{cases_lt}
use Rattle.std.proofs.lemmas.Option.{same_Some, slice_get_within}
use Rattle.std.specs.List.{flat_map}
use Rattle.source_types.specs.declared.netlists.Module.{Module}
use Rattle.source_types.specs.declared.netlists.Range.{Range}
use Rattle.source_types.specs.declared.netlists.Wire.{Wire}
use Rattle.flat_model.specs.FlatNets.{FlatNet, NetBit, bit_of, nets_in, wire_nets}
use Rattle.flat_model.specs.Instances.{ModuleInstance, scopes_of}
use Rattle.netlist_model.specs.Ranges.{from_to, indices, span}
use Rattle.text_model.specs.Names.{AreDistinct}
use Rattle.netlist_model.proofs.RangeFacts.{span_length}
use Rattle.flat_design.specs.Hierarchy.{HaveDistinctNets}
use Rattle.flat_design.specs.NetNumbers.{IsNumber}
use Rattle.flat_design.proofs.DistinctFacts.{Distinct, distinct_cons, distinct_flat, distinct_map, distinct_none, get_flat, get_map}
use Rattle.flat_design.proofs.DistinctPaths.{scopes_distinct}
use Rattle.flat_design.proofs.RangeFacts.{down_at, down_within, map_at, up_at}

-- ---- the bits of one net

down_same : (left right i j x y : ℕ) → right < left → i < span left right → j < span left right → left - i ≡ x → left - j ≡ y → x ≡ y → i ≡ j
down_same left right i j x y high in_i in_j a b same =
    let m : i < (left - right) + 1 = down_within left right i high in_i in
    let n : j < (left - right) + 1 = down_within left right j high in_j in
    omega (arith, high, m, n, a, b, same)

index_distinct : (left right i j x y : ℕ) → i < span left right → j < span left right → slice_get (from_to left right) i ≡ Some x
    → slice_get (from_to left right) j ≡ Some y → x ≡ y → i ≡ j
index_distinct left right i j x y in_i in_j at_i at_j same =
    elim (cases_lt right left) [
      | inl high ↦
          let a : left - i ≡ x = same_Some (left - i) x (sym (down_at left right i high in_i) ∙ at_i) in
          let b : left - j ≡ y = same_Some (left - j) y (sym (down_at left right j high in_j) ∙ at_j) in
          down_same left right i j x y high in_i in_j a b same
      | inr low ↦
          let a : left + i ≡ x = same_Some (left + i) x (sym (up_at left right i low in_i) ∙ at_i) in
          let b : left + j ≡ y = same_Some (left + j) y (sym (up_at left right j low in_j) ∙ at_j) in
          omega (arith, a, b, same)
    ]

numbers_distinct : (range : Range) → Distinct (λ (i : ℕ). i) (from_to range.left range.right)
numbers_distinct range i j x y at_i at_j same =
    let count = span_length range.left range.right in
    let a = slice_get_within (from_to range.left range.right) i x at_i in
    let b = slice_get_within (from_to range.left range.right) j y at_j in
    index_distinct range.left range.right i j x y (omega (arith, count, a)) (omega (arith, count, b)) at_i at_j same

indices_distinct : (range : Option Range) → Distinct (λ (index : Option ℕ). index) (indices range)
indices_distinct None = distinct_cons (λ (index : Option ℕ). index) None [] (distinct_none (λ (index : Option ℕ). index)) (λ j y at same. let bad : None ≡ Some y = at in cc)
indices_distinct (Some range) =
    distinct_map (λ (i : ℕ). Some i) (λ (index : Option ℕ). index) (from_to range.left range.right)
    (λ i j x y at_i at_j same. numbers_distinct range i j x y at_i at_j (same_Some x y same))

-- ---- the nets of one module

abbrev pub net_of : ModuleInstance → Wire → Option ℕ → FlatNet
net_of scope wire index = record { scope = scope; wire = wire; index = index }

wire_distinct : (scope : ModuleInstance) (wire : Wire) → Distinct bit_of (wire_nets scope wire)
wire_distinct scope wire =
    distinct_map (net_of scope wire) bit_of (indices wire.range)
    (λ i j x y at_i at_j same. indices_distinct wire.range i j x y at_i at_j (ap (λ (bit : NetBit). bit.index) same))

names_distinct : (scope : ModuleInstance) → AreDistinct (map (λ (net : Wire). net.name) scope.body.nets) → Distinct (λ (net : Wire). net.name) scope.body.nets
names_distinct scope distinct i j x y at_i at_j same =
    distinct i j x.name (map_at (λ (net : Wire). net.name) scope.body.nets i x at_i)
    (map_at (λ (net : Wire). net.name) scope.body.nets j y at_j ∙ ap (λ (name : List ℕ). Some name) (sym same))

-- a bit of a net has its module and its net
pub bit_parts : (scope : ModuleInstance) (wire : Wire) (i : ℕ) (net : FlatNet) → slice_get (wire_nets scope wire) i ≡ Some net
    → (net.scope ≡ scope) × (net.wire ≡ wire)
bit_parts scope wire i net at =
    let r = get_map (net_of scope wire) (indices wire.range) i net at in
    (ap (λ (n : FlatNet). n.scope) r.2, ap (λ (n : FlatNet). n.wire) r.2)

pub net_scope : (scope : ModuleInstance) (i : ℕ) (net : FlatNet) → slice_get (nets_in scope) i ≡ Some net → net.scope ≡ scope
net_scope scope i net at =
    let r = get_flat (wire_nets scope) scope.body.nets i net at in
    (bit_parts scope r.1 r.2 net r.4).0

nets_distinct : (scope : ModuleInstance) → AreDistinct (map (λ (net : Wire). net.name) scope.body.nets) → Distinct bit_of (nets_in scope)
nets_distinct scope distinct =
    distinct_flat (wire_nets scope) (λ (net : Wire). net.name) bit_of scope.body.nets (names_distinct scope distinct)
    (λ k wire at. wire_distinct scope wire)
    (λ k l x other at_k at_l i j y z at_i at_j same.
    sym (ap (λ (w : Wire). w.name) (bit_parts scope x i y at_i).1)
    ∙ (ap (λ (bit : NetBit). bit.name) same ∙ ap (λ (w : Wire). w.name) (bit_parts scope other j z at_j).1))

-- ---- all nets of a design

bits_distinct : (modules : List Module) (top : Module) → HaveDistinctNets (scopes_of modules top) → Distinct bit_of (flat_map nets_in (scopes_of modules top))
bits_distinct modules top distinct =
    distinct_flat nets_in (λ (s : ModuleInstance). s.path) bit_of (scopes_of modules top) (scopes_distinct modules top)
    (λ k scope at. nets_distinct scope (distinct k scope at))
    (λ k l x other at_k at_l i j y z at_i at_j same.
    sym (ap (λ (s : ModuleInstance). s.path) (net_scope x i y at_i))
    ∙ (ap (λ (bit : NetBit). bit.path) same ∙ ap (λ (s : ModuleInstance). s.path) (net_scope other j z at_j)))

-- so a bit has one number
pub number_once : (modules : List Module) (top : Module) → HaveDistinctNets (scopes_of modules top) → (bit : NetBit) (n m : ℕ)
    → IsNumber (scopes_of modules top) n bit → IsNumber (scopes_of modules top) m bit → n ≡ m
number_once modules top distinct bit n m at_n at_m =
    let a = get_map bit_of (flat_map nets_in (scopes_of modules top)) n bit at_n in
    let b = get_map bit_of (flat_map nets_in (scopes_of modules top)) m bit at_m in
    bits_distinct modules top distinct n m a.0 b.0 a.1 b.1 (sym a.2 ∙ b.2)
