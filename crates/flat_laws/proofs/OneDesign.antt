-- A netlist has one flat design over a library, or one first fault.
use Rattle.std.proofs.Common.{◌≡◌, ◌∙◌, inl, inr, ℕ, Bool, true, false, List, [], ◌∷◌, get_or, map, slice_get, Option, Some, None, Result, Ok, Err, refl, sym, ap, arith}
use Rattle.std.specs.List.{All, AllZip}
use Rattle.std.proofs.lemmas.Option.{slice_get-map}
use Rattle.sdc_base.specs.declared.memory.At.{At}
use Rattle.timing_types.specs.declared.designs.CellInfo.{CellInfo}
use Rattle.timing_types.specs.declared.designs.Design.{Design}
use Rattle.timing_types.specs.declared.designs.NetInfo.{NetInfo}
use Rattle.timing_types.specs.declared.designs.PinInfo.{PinInfo}
use Rattle.source_types.specs.declared.fault_kinds.DesignKind.{DesignKind}
use Rattle.source_types.specs.declared.fault_kinds.DesignKind.TheVariants as fault
use Rattle.source_types.specs.declared.libraries.Library.{Library}
use Rattle.pin_types.specs.declared.library_cells.LibCell.{LibCell}
use Rattle.source_types.specs.declared.netlists.Module.{Module}
use Rattle.flat_model.specs.FlatDesign.{Flat, FlatCell, FlatPin, IsCell, IsFlatDesign, IsNet, IsPin, flat}
use Rattle.flat_model.specs.FlatFaults.{CellHas, HasNoFault, InstanceHas, IsFirstFault, IsNoLater, NetHas, cell_line, instance_line, net_line, rank}
use Rattle.flat_model.specs.FlatNets.{FlatNet, bit_of}
use Rattle.flat_model.specs.Flattening.{CanFlatten, FirstByName, FirstFault, FirstOfWhole, Flattens, FlattensTo, FlattensTop, HasNoFaults}
use Rattle.flat_model.specs.Instances.{Placed, module_named}
use Rattle.text_model.specs.Names.{AreDistinct}
use Rattle.netlist_model.specs.WellFormedNetlist.{IsWellFormedModule}
use Rattle.flat_laws.proofs.OneSource.{driver_once, source_once}

-- ---- one first fault

-- the kinds in their order
of_rank : ℕ → DesignKind
of_rank n =
    get_or (fault.UnknownModule ∷ fault.ModuleCycle ∷ fault.UnsupportedCell ∷ fault.WidthMismatch ∷ fault.DoubleName ∷ fault.BadName ∷ fault.TwoDrivers ∷ fault.AssignCycle ∷ [])
    n fault.TooMany

rank_back : (kind : DesignKind) → of_rank (rank kind) ≡ kind
unfolding of_rank
rank_back fault.UnknownModule = refl
rank_back fault.ModuleCycle = refl
rank_back fault.UnsupportedCell = refl
rank_back fault.WidthMismatch = refl
rank_back fault.DoubleName = refl
rank_back fault.BadName = refl
rank_back fault.TwoDrivers = refl
rank_back fault.AssignCycle = refl
rank_back fault.TooMany = refl

kind_once : (kind other : DesignKind) → rank kind ≡ rank other → kind ≡ other
kind_once kind other e = sym (rank_back kind) ∙ (ap of_rank e ∙ rank_back other)

-- each of two faults comes no later than the other
both_first : (n m : ℕ) (kind other : DesignKind) → IsNoLater n kind m other → IsNoLater m other n kind → (n ≡ m) × (rank kind ≡ rank other)
both_first n m kind other (inl h) (inl k) = absurd (omega (arith, h, k))
both_first n m kind other (inl h) (inr k) = absurd (omega (arith, h, k.0))
both_first n m kind other (inr h) (inl k) = absurd (omega (arith, h.0, k))
both_first n m kind other (inr h) (inr k) = (h.0, omega (arith, h.1, k.1))

fault_same : (one other : At DesignKind) → one.line ≡ other.line → one.kind ≡ other.kind → one ≡ other
fault_same one other line kind = λ i. record { line = line i; kind = kind i }

thing_once : {A : Type 0} (xs : List A) (n m : ℕ) (x y : A) → n ≡ m → slice_get xs n ≡ Some x → slice_get xs m ≡ Some y → x ≡ y
thing_once xs n m x y same at other =
    let e : Some x ≡ Some y = sym at ∙ (ap (slice_get xs) same ∙ other) in cc

first_once : (Thing : Type 0) (Has : ℕ → Thing → DesignKind → Type 0) (line : Thing → ℕ) (things : List Thing) (one other : At DesignKind)
    → IsFirstFault Thing Has line things one → IsFirstFault Thing Has line things other → one ≡ other
first_once Thing Has line things one other h k =
    let both = both_first h.place k.place one.kind other.kind (h.earliest k.place k.thing other.kind k.is k.has) (k.earliest h.place h.thing one.kind h.is h.has) in
    fault_same one other
    (h.line_is ∙ (ap line (thing_once things h.place k.place h.thing k.thing both.0 h.is k.is) ∙ sym k.line_is))
    (kind_once one.kind other.kind both.1)

first_or_none : (Thing : Type 0) (Has : ℕ → Thing → DesignKind → Type 0) (line : Thing → ℕ) (things : List Thing) (first : At DesignKind)
    → IsFirstFault Thing Has line things first → HasNoFault Thing Has things → ⊥
first_or_none Thing Has line things first h none = none h.place h.thing first.kind h.is h.has

named_once : (f : Flat) (one other : At DesignKind) → FirstByName f one → FirstByName f other → one ≡ other
named_once f one other (inl h) (inl k) = first_once FlatNet (NetHas f) net_line f.nets one other h k
named_once f one other (inl h) (inr k) = absurd (first_or_none FlatNet (NetHas f) net_line f.nets one h k.0)
named_once f one other (inr h) (inl k) = absurd (first_or_none FlatNet (NetHas f) net_line f.nets other k h.0)
named_once f one other (inr h) (inr k) = first_once FlatCell (CellHas f) cell_line f.cells one other h.1 k.1

not_both : (b : Bool) → b ≡ true → b ≡ false → ⊥
not_both b is fails = let bad : true ≡ false = sym is ∙ fails in cc

whole_once : (f : Flat) (one other : At DesignKind) → FirstOfWhole f one → FirstOfWhole f other → one ≡ other
whole_once f one other (inl h) (inl k) = h.1 ∙ sym k.1
whole_once f one other (inl h) (inr k) = absurd (not_both _ h.0 k.0)
whole_once f one other (inr h) (inl k) = absurd (not_both _ k.0 h.0)
whole_once f one other (inr h) (inr k) = named_once f one other h.1 k.1

fault_once : (modules : List Module) (library : Library) (f : Flat) (one other : At DesignKind) → FirstFault modules library f one → FirstFault modules library f other → one ≡ other
fault_once modules library f one other (inl h) (inl k) = first_once Placed (InstanceHas modules library) instance_line f.instances one other h k
fault_once modules library f one other (inl h) (inr k) = absurd (first_or_none Placed (InstanceHas modules library) instance_line f.instances one h k.0)
fault_once modules library f one other (inr h) (inl k) = absurd (first_or_none Placed (InstanceHas modules library) instance_line f.instances other k h.0)
fault_once modules library f one other (inr h) (inr k) = whole_once f one other h.1 k.1

-- ---- a fault, or none

fault_or_none : (modules : List Module) (library : Library) (f : Flat) (first : At DesignKind) → FirstFault modules library f first → HasNoFaults modules library f → ⊥
fault_or_none modules library f first (inl h) none = first_or_none Placed (InstanceHas modules library) instance_line f.instances first h none.instances
fault_or_none modules library f first (inr (_, inl h)) none = not_both _ h.0 none.size
fault_or_none modules library f first (inr (_, inr (_, inl h))) none = first_or_none FlatNet (NetHas f) net_line f.nets first h none.nets
fault_or_none modules library f first (inr (_, inr (_, inr h))) none = first_or_none FlatCell (CellHas f) cell_line f.cells first h.1 none.cells

-- ---- one design

zip_once : {A B : Type 0} (R : A → B → Type 0) → ((x : A) (y z : B) → R x y → R x z → y ≡ z) → (xs : List A) (ys zs : List B) → AllZip R xs ys → AllZip R xs zs → ys ≡ zs
zip_once R same [] [] [] h k = refl
zip_once R same [] [] (z ∷ zs) h k = absurd k
zip_once R same [] (y ∷ ys) zs h k = absurd h
zip_once R same (x ∷ xs) [] zs h k = absurd h
zip_once R same (x ∷ xs) (y ∷ ys) [] h k = absurd k
zip_once {B = B} R same (x ∷ xs) (y ∷ ys) (z ∷ zs) h k =
    let head : y ≡ z = same x y z h.0 k.0 in
    let tail : ys ≡ zs = zip_once R same xs ys zs h.1 k.1 in
    ap (λ (v : B). v ∷ ys) head ∙ ap (λ (vs : List B). z ∷ vs) tail

-- a design has these pins, of each of which the driver is one
pin_once : (f : Flat) (pin : FlatPin) (one other : PinInfo) → (one.driver ≡ other.driver) → IsPin f pin one → IsPin f pin other → one ≡ other
pin_once f pin one other driver h k =
    let name = h.name ∙ sym k.name in
    let role = h.role ∙ sym k.role in
    let cell = h.cell ∙ sym k.cell in
    let lib_pin = h.lib_pin ∙ sym k.lib_pin in
    λ i. record { name = name i; role = role i; cell = cell i; lib_pin = lib_pin i; driver = driver i }

kind_at : (library : Library) (n : ℕ) (kind : LibCell) → slice_get library.cells n ≡ Some kind → slice_get (map (λ (cell : LibCell). cell.name) library.cells) n ≡ Some kind.name
kind_at library n kind at = rw (slice_get-map (λ (cell : LibCell). cell.name) library.cells n, at) refl

cell_once : (library : Library) → AreDistinct (map (λ (cell : LibCell). cell.name) library.cells) → (cell : FlatCell) (one other : CellInfo)
    → IsCell library cell one → IsCell library cell other → one ≡ other
cell_once library distinct cell one other h k =
    let name = h.name ∙ sym k.name in
    let kind = distinct one.kind other.kind cell.is.kind.name (kind_at library one.kind cell.is.kind h.kind) (kind_at library other.kind cell.is.kind k.kind) in
    let number = h.first ∙ sym k.first in
    let count = h.count ∙ sym k.count in
    λ i. record { name = name i; kind = kind i; first = record { 0 = number i }; count = count i }

net_once : (f : Flat) (net : FlatNet) (one other : NetInfo) → (one.source ≡ other.source) → IsNet f net one → IsNet f net other → one ≡ other
net_once f net one other source h k =
    let name = h.name ∙ sym k.name in
    λ i. record { name = name i; source = source i }

design_once : (modules : List Module) (library : Library) (name : List ℕ) (top : Module) (one other : Design) → All IsWellFormedModule modules
    → AreDistinct (map (λ (cell : LibCell). cell.name) library.cells) → module_named modules name ≡ Some top → HasNoFaults modules library (flat modules library top)
    → IsFlatDesign library (flat modules library top) one → IsFlatDesign library (flat modules library top) other → one ≡ other
design_once modules library name top one other well distinct named none h k =
    let f = flat modules library top in
    let same_top = h.top ∙ sym k.top in
    let unit = h.unit ∙ sym k.unit in
    let kinds = h.kinds ∙ sym k.kinds in
    let pins = zip_once (IsPin f)
    (λ pin a b x y. pin_once f pin a b (driver_once modules library name top pin.load a.driver b.driver well named none.nets x.driver y.driver) x y) f.pins one.pins other.pins h.pins k.pins in
    let cells = zip_once (IsCell library) (cell_once library distinct) f.cells one.cells other.cells h.cells k.cells in
    let nets = zip_once (IsNet f)
    (λ net a b x y. net_once f net a b (source_once modules library name top (bit_of net) a.source b.source well named none.nets x.source y.source) x y) f.nets one.nets other.nets h.nets k.nets in
    λ i. record { top = same_top i; unit = unit i; pins = pins i; cells = cells i; nets = nets i; kinds = kinds i }

-- ---- the outcome

to_once : (modules : List Module) (library : Library) (name : List ℕ) (top : Module) (one other : Result Design (At DesignKind)) → CanFlatten modules library
    → module_named modules name ≡ Some top → FlattensTo modules library (flat modules library top) one → FlattensTo modules library (flat modules library top) other → one ≡ other
to_once modules library name top (Ok a) (Ok b) can named h k =
    ap (λ (d : Design). Ok d) (design_once modules library name top a b can.0.0 can.1.names named h.0 h.1 k.1)
to_once modules library name top (Ok a) (Err q) can named h k = absurd (fault_or_none modules library (flat modules library top) q k h.0)
to_once modules library name top (Err p) (Ok b) can named h k = absurd (fault_or_none modules library (flat modules library top) p h k.0)
to_once modules library name top (Err p) (Err q) can named h k = ap (λ (at : At DesignKind). Err at) (fault_once modules library (flat modules library top) p q h k)

top_once : (modules : List Module) (library : Library) (name : List ℕ) (one other : Result Design (At DesignKind)) (top : Option Module) → CanFlatten modules library
    → module_named modules name ≡ top → FlattensTop modules library top one → FlattensTop modules library top other → one ≡ other
top_once modules library name one other None can named h k = h ∙ sym k
top_once modules library name one other (Some top) can named h k = to_once modules library name top one other can named h k

pub outcome_once : (modules : List Module) (library : Library) (name : List ℕ) (one other : Result Design (At DesignKind)) → CanFlatten modules library
    → Flattens modules library name one → Flattens modules library name other → one ≡ other
outcome_once modules library name one other can h k = top_once modules library name one other (module_named modules name) can refl h k
