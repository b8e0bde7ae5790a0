-- Values that the derived order finds equal are equal.
use Rattle.std.proofs.Common.{◌≡◌, true, false, [], ◌∷◌, Some, None, Ordering, refl, ap}
use Rattle.std.specs.Ordering.{nat_cmp, int_cmp, bool_cmp, ordering_then}
use Rattle.std.specs.Option.{option_cmp}
use Rattle.std.specs.Cmp.Lexicographic.{slice_cmp}
use Rattle.std.specs.declared.cmp.Ordering.TheVariants.{Less, Equal, Greater}
use Rattle.std.proofs.lemmas.Map.Lookups.{CmpEqualImpliesEq, exact_signed, exact_unsigned}
use Rattle.timing_types.specs.declared.identities.Definition.{Definition}
use Rattle.timing_types.specs.declared.clocks.Form.TheVariants.{Primary, Generated}
use Rattle.timing_types.specs.declared.clocks.Shape.TheVariants.{Divide, Multiply, Edges}
use Rattle.timing_types.specs.contracts.identities.DefinitionOrd.TheImpl as definition_order
use Rattle.timing_types.specs.contracts.identities.IdentityOrd.TheImpl as identity_order
use Rattle.pin_types.specs.contracts.pins.PinOrd.TheImpl as pin_order
use Rattle.timing_types.specs.contracts.clocks.EarlyOrd.TheImpl as early_order
use Rattle.timing_types.specs.contracts.clocks.LatencyOrd.TheImpl as latency_order
use Rattle.timing_types.specs.contracts.clocks.FormOrd.TheImpl as form_order
use Rattle.timing_types.specs.contracts.clocks.ShapeOrd.TheImpl as shape_order
use Rattle.timing_types.specs.contracts.clocks.WaveOrd.TheImpl as wave_order

-- two steps of an order that end equal are both equal
pub both_equal : (o p : Ordering) → ordering_then o p ≡ Equal → (o ≡ Equal) × (p ≡ Equal)
both_equal Less p e = cc
both_equal Equal p e = (refl, e)
both_equal Greater p e = cc

pub wave_exact : CmpEqualImpliesEq ((wave_order.ghosts).cmp)
wave_exact x y e =
    let h : ordering_then (int_cmp x.period y.period) (ordering_then (int_cmp x.rise y.rise) (int_cmp x.fall y.fall)) ≡ Equal = e in
    let a = both_equal _ _ h in
    let b = both_equal _ _ a.1 in
    let p : x.period ≡ y.period = exact_signed _ _ a.0 in
    let q : x.rise ≡ y.rise = exact_signed _ _ b.0 in
    let r : x.fall ≡ y.fall = exact_signed _ _ b.1 in
    λ i. record { period = p i; rise = q i; fall = r i }

pub shape_exact : CmpEqualImpliesEq ((shape_order.ghosts).cmp)
shape_exact (Divide a) (Divide b) e = ap Divide (exact_unsigned a b e)
shape_exact (Divide a) (Multiply b) e = cc
shape_exact (Divide a) (Edges p q r) e = cc
shape_exact (Multiply a) (Divide b) e = cc
shape_exact (Multiply a) (Multiply b) e = ap Multiply (exact_unsigned a b e)
shape_exact (Multiply a) (Edges p q r) e = cc
shape_exact (Edges a b c) (Divide d) e = cc
shape_exact (Edges a b c) (Multiply d) e = cc
shape_exact (Edges a b c) (Edges p q r) e =
    let first = both_equal (nat_cmp a p) (ordering_then (nat_cmp b q) (nat_cmp c r)) e in
    let others = both_equal (nat_cmp b q) (nat_cmp c r) first.1 in
    let x : a ≡ p = exact_unsigned a p first.0 in
    let y : b ≡ q = exact_unsigned b q others.0 in
    let z : c ≡ r = exact_unsigned c r others.1 in
    λ i. Edges (x i) (y i) (z i)

pub pin_exact : CmpEqualImpliesEq ((pin_order.ghosts).cmp)
pin_exact x y e = let h : x.0 ≡ y.0 = exact_unsigned x.0 y.0 e in λ i. record { 0 = h i }

option_exact : CmpEqualImpliesEq (option_cmp nat_cmp)
option_exact None None e = refl
option_exact None (Some y) e = cc
option_exact (Some x) None e = cc
option_exact (Some x) (Some y) e = ap Some (exact_unsigned x y e)

bool_exact : CmpEqualImpliesEq bool_cmp
bool_exact false false e = refl
bool_exact false true e = cc
bool_exact true false e = cc
bool_exact true true e = refl

list_exact : {K : Type 0} (R : K → K → Ordering) → CmpEqualImpliesEq R → CmpEqualImpliesEq (slice_cmp R)
list_exact R exact [] [] e = refl
list_exact R exact [] (y ∷ ys) e = cc
list_exact R exact (x ∷ xs) [] e = cc
list_exact R exact (x ∷ xs) (y ∷ ys) e =
    let parts = both_equal (R x y) (slice_cmp R xs ys) e in
    let first : x ≡ y = exact x y parts.0 in
    let rest : xs ≡ ys = list_exact R exact xs ys parts.1 in
    λ i. first i ∷ rest i

pub form_exact : CmpEqualImpliesEq ((form_order.ghosts).cmp)
form_exact (Primary a) (Primary b) e = ap Primary (wave_exact a b e)
form_exact (Primary a) (Generated s m h i) e = cc
form_exact (Generated s m h i) (Primary b) e = cc
form_exact (Generated s m h i) (Generated t n k j) e =
    let a = both_equal ((pin_order.ghosts).cmp s t) (ordering_then (option_cmp nat_cmp m n) (ordering_then ((shape_order.ghosts).cmp h k) (bool_cmp i j))) e in
    let b = both_equal (option_cmp nat_cmp m n) (ordering_then ((shape_order.ghosts).cmp h k) (bool_cmp i j)) a.1 in
    let c = both_equal ((shape_order.ghosts).cmp h k) (bool_cmp i j) b.1 in
    let p : s ≡ t = pin_exact s t a.0 in
    let q : m ≡ n = option_exact m n b.0 in
    let r : h ≡ k = shape_exact h k c.0 in
    let o : i ≡ j = bool_exact i j c.1 in
    λ x. Generated (p x) (q x) (r x) (o x)

early_exact : CmpEqualImpliesEq ((early_order.ghosts).cmp)
early_exact x y e =
    let a = both_equal (int_cmp x.rise y.rise) (int_cmp x.fall y.fall) e in
    let p : x.rise ≡ y.rise = exact_signed x.rise y.rise a.0 in
    let q : x.fall ≡ y.fall = exact_signed x.fall y.fall a.1 in
    λ i. record { rise = p i; fall = q i }

latency_exact : CmpEqualImpliesEq ((latency_order.ghosts).cmp)
latency_exact x y e =
    let R = (early_order.ghosts).cmp in
    let a = both_equal (R x.source_early y.source_early) (ordering_then (R x.source_late y.source_late) (ordering_then (R x.network_early y.network_early) (R x.network_late y.network_late))) e in
    let b = both_equal (R x.source_late y.source_late) (ordering_then (R x.network_early y.network_early) (R x.network_late y.network_late)) a.1 in
    let c = both_equal (R x.network_early y.network_early) (R x.network_late y.network_late) b.1 in
    let p = early_exact x.source_early y.source_early a.0 in
    let q = early_exact x.source_late y.source_late b.0 in
    let r = early_exact x.network_early y.network_early c.0 in
    let s = early_exact x.network_late y.network_late c.1 in
    λ i. record { source_early = p i; source_late = q i; network_early = r i; network_late = s i }

-- the order of a definition, field by field
abbrev latency_on : Definition → Definition → Ordering
latency_on x y = (latency_order.ghosts).cmp x.latency y.latency

abbrev uncertain : Definition → Definition → Ordering
uncertain x y = ordering_then (int_cmp x.setup_uncertainty y.setup_uncertainty)
    (ordering_then (int_cmp x.hold_uncertainty y.hold_uncertainty) (bool_cmp x.propagated y.propagated))

pub definition_exact : CmpEqualImpliesEq ((definition_order.ghosts).cmp)
definition_exact x y e =
    let form = (form_order.ghosts).cmp x.form y.form in
    let wave = (wave_order.ghosts).cmp x.wave y.wave in
    let a = both_equal (slice_cmp ((pin_order.ghosts).cmp) x.sources y.sources) (ordering_then wave (ordering_then form (ordering_then (latency_on x y) (uncertain x y)))) e in
    let b = both_equal wave (ordering_then form (ordering_then (latency_on x y) (uncertain x y))) a.1 in
    let c = both_equal form (ordering_then (latency_on x y) (uncertain x y)) b.1 in
    let d = both_equal (latency_on x y) (uncertain x y) c.1 in
    let f = both_equal (int_cmp x.setup_uncertainty y.setup_uncertainty) (ordering_then (int_cmp x.hold_uncertainty y.hold_uncertainty) (bool_cmp x.propagated y.propagated)) d.1 in
    let g = both_equal (int_cmp x.hold_uncertainty y.hold_uncertainty) (bool_cmp x.propagated y.propagated) f.1 in
    let p = list_exact ((pin_order.ghosts).cmp) pin_exact x.sources y.sources a.0 in
    let q = wave_exact x.wave y.wave b.0 in
    let r = form_exact x.form y.form c.0 in
    let s = latency_exact x.latency y.latency d.0 in
    let t = exact_signed x.setup_uncertainty y.setup_uncertainty f.0 in
    let u = exact_signed x.hold_uncertainty y.hold_uncertainty g.0 in
    let v = bool_exact x.propagated y.propagated g.1 in
    λ i. record {
      sources = p i;
      wave = q i;
      form = r i;
      latency = s i;
      setup_uncertainty = t i;
      hold_uncertainty = u i;
      propagated = v i;
    }

pub identity_exact : CmpEqualImpliesEq ((identity_order.ghosts).cmp)
identity_exact x y e =
    let a = both_equal ((definition_order.ghosts).cmp x.definition y.definition) (nat_cmp x.rank y.rank) e in
    let p = definition_exact x.definition y.definition a.0 in
    let q : x.rank ≡ y.rank = exact_unsigned x.rank y.rank a.1 in
    λ i. record { definition = p i; rank = q i }
