-- Modules that are counted in order have sizes that are no more than what stands in them; where the top's is beyond the
-- limits, the design is too large.
use Rattle.std.proofs.Common.{◌≡◌, ◌<◌, ◌≤◌, ◌||◌, ◌==◌, inl, inr, ℕ, zero, suc, true, List, [], ◌∷◌, map, length, take, drop, get_or, replicate, set, slice_get, nat_lt, Option, Some, None, refl, sym, ◌∙◌, ap, subst, arith}
use Rattle.std.proofs.lemmas.Bool.{cases_eq, eq-eqb, lt-ltb, ltb-true, or_cases, or_left, or_right}
use Rattle.std.proofs.lemmas.List.{get_or-set_other, get_or-set_same, length-append, length-map, length-replicate, length-set}
use Rattle.std.proofs.lemmas.Option.{get_or_from_slice_get, slice_get_within}
use Rattle.std.specs.List.{All, filter_map, flat_map}
use Rattle.source_types.specs.declared.fault_kinds.DesignKind.{DesignKind}
use Rattle.source_types.specs.declared.libraries.Library.{Library}
use Rattle.pin_types.specs.declared.library_cells.LibCell.{LibCell}
use Rattle.source_types.specs.declared.netlists.Instance.{Instance}
use Rattle.source_types.specs.declared.netlists.Links.{Links}
use Rattle.source_types.specs.declared.netlists.Module.{Module}
use Rattle.flat_model.specs.Connections.{cell_fault}
use Rattle.flat_model.specs.FlatDesign.{flat}
use Rattle.flat_model.specs.FlatFaults as faults
use Rattle.flat_model.specs.FlatNets.{nets_in}
use Rattle.flat_model.specs.Flattening.{NoneOfInstances}
use Rattle.flat_model.specs.Instances.{entered, instances_of, top_scope}
use Rattle.text_model.proofs.ListFacts.{element_at}
use Rattle.flat_design.specs.declared.elaborate.sizes.Size.{Size}
use Rattle.flat_design.specs.declared.elaborate.walk.Step.{Step}
use Rattle.flat_design.specs.Elaboration.{capped, net_count, port_count}
use Rattle.flat_design.specs.Names.{place_of}
use Rattle.flat_design.specs.Sizes.{IsKind, is_beyond, is_counted_beyond, module_size, no_size, sizes_along, sizes_in, with_size}
use Rattle.flat_design.specs.Steps.{all_steps, cell_names, cell_step, fault_step, module_names, named_step, step_of_cell, steps_in}
use Rattle.flat_design.specs.Walk.{AreOrdered, is_in, steps_of}
use Rattle.flat_design.proofs.CountFacts.{ports_length}
use Rattle.flat_design.proofs.OrderFacts.{order_few}
use Rattle.flat_design.proofs.PinCounts.{pins_length}
use Rattle.flat_design.proofs.RangeFacts.{map_at}
use Rattle.flat_design.proofs.SizeBounds.{IsCounted, IsUpTo, amount, each_faultless, module_counted, own_nets, plus}
use Rattle.flat_design.proofs.StepFacts.{cell_within, each_step, step_known, step_unknown}
use Rattle.flat_design.proofs.WalkFacts.{differ, in_take_place}
use Rattle.flat_design.proofs.WalkSteps.{in_place}

-- ---- numbers in lists

in_taken : (xs : List ℕ) (place n m : ℕ) → slice_get xs place ≡ Some m → place < n → is_in (take n xs) m ≡ true
in_taken [] place n m at low = let bad : None ≡ Some m = at in cc
in_taken (x ∷ xs) place zero m at low = absurd (omega (arith, low))
in_taken (x ∷ xs) zero (suc n) m at low = let e : Some x ≡ Some m = at in let same : x ≡ m = cc in or_left (x == m) (is_in (take n xs) m) (eq-eqb x m same)
in_taken (x ∷ xs) (suc place) (suc n) m at low = or_right (x == m) (is_in (take n xs) m) (in_taken xs place n m at (omega (arith, low)))

drop_first : (xs : List ℕ) (n x : ℕ) (rest : List ℕ) → drop n xs ≡ x ∷ rest → (slice_get xs n ≡ Some x) × (drop (suc n) xs ≡ rest)
drop_first [] zero x rest is = let bad : [] ≡ x ∷ rest = is in cc
drop_first [] (suc n) x rest is = let bad : [] ≡ x ∷ rest = is in cc
drop_first (y ∷ ys) zero x rest is =
    let whole : y ∷ ys ≡ x ∷ rest = is in
    let first : y ≡ x = cc in
    let after : ys ≡ rest = cc in
    (ap (λ (z : ℕ). Some z) first, after)
drop_first (y ∷ ys) (suc n) x rest is = drop_first ys n x rest is

drop_end : (xs : List ℕ) (n : ℕ) → drop n xs ≡ [] → length xs ≤ n
drop_end [] n is = omega arith
drop_end (x ∷ xs) zero is = let bad : x ∷ xs ≡ [] = is in cc
drop_end (x ∷ xs) (suc n) is = let rest = drop_end xs n is in omega (arith, rest)

-- an order has modules that there are
pub order_within : (all : List (List Step)) (order : List ℕ) → AreOrdered all order → All (λ m. m < length all) order
order_within all order ordered place d low =
    let here = element_at order place low in
    subst (λ (m : ℕ). m < length all) (sym (get_or_from_slice_get order place here.0 d here.1)) (ordered place here.0 here.1).0

-- ---- the kinds of cells

fault_kind : (n kind : ℕ) (own : Option DesignKind) → kind < n → IsKind n (fault_step kind own)
fault_kind n kind None low = low
fault_kind n kind (Some found) low = tt

cell_kind : (n kind : ℕ) (cell : Option LibCell) (links : Links) → kind < n → IsKind n (cell_step kind cell links)
cell_kind n kind None links low = tt
cell_kind n kind (Some cell) links low = fault_kind n kind (cell_fault cell links) low

known_kind : (library : Library) (instance : Instance) (found : Option ℕ) → place_of (cell_names library) instance.kind ≡ found
    → IsKind (length library.cells) (step_of_cell library instance)
known_kind library instance None is = subst (IsKind (length library.cells)) (step_unknown library instance is) tt
known_kind library instance (Some kind) is =
    subst (IsKind (length library.cells)) (step_known library instance kind is)
    (cell_kind (length library.cells) kind (slice_get library.cells kind) instance.links (cell_within library instance.kind kind is))

named_kind : (modules : List Module) (library : Library) (instance : Instance) (found : Option ℕ) → IsKind (length library.cells) (named_step modules library instance found)
named_kind modules library instance None = known_kind library instance (place_of (cell_names library) instance.kind) refl
named_kind modules library instance (Some p) = tt

-- the steps of instances are of library cells that there are
pub kinds_within : (modules : List Module) (library : Library) (steps : List (List Step)) → steps ≡ all_steps modules library
    → All (All (IsKind (length library.cells))) steps
kinds_within modules library steps is =
    each_step modules library (IsKind (length library.cells))
    (λ instance. named_kind modules library instance (place_of (module_names modules) instance.kind)) steps is

-- ---- modules in their order

abbrev AreCounted : List Module → Library → List Size → List ℕ → ℕ → Type 0
AreCounted modules library sizes order n = (place m : ℕ) → slice_get order place ≡ Some m → place < n
    → (levels : ℕ) → place < levels → IsCounted modules library levels m (get_or sizes m no_size)

count_at : (modules : List Module) (counts : List ℕ) (m : ℕ) (body : Module) → counts ≡ map (λ (one : Module). net_count one.nets) modules
    → slice_get modules m ≡ Some body → get_or counts m 0 ≡ net_count body.nets
count_at modules counts m body same at =
    get_or_from_slice_get counts m (net_count body.nets) 0
    (ap (λ (xs : List ℕ). slice_get xs m) same ∙ map_at (λ (one : Module). net_count one.nets) modules m body at)

-- the module that is counted last
last_counted : (modules : List Module) (library : Library) (counts : List ℕ) (sizes : List Size) (order : List ℕ) (n m : ℕ)
    → AreOrdered (all_steps modules library) order → counts ≡ map (λ (one : Module). net_count one.nets) modules
    → AreCounted modules library sizes order n → slice_get order n ≡ Some m → (levels : ℕ) → n < levels
    → IsCounted modules library levels m (module_size library sizes (get_or counts m 0) (steps_of (all_steps modules library) m))
last_counted modules library counts sizes order n m ordered same so_far at zero enough = absurd (omega (arith, enough))
last_counted modules library counts sizes order n m ordered same so_far at (suc levels) enough =
    module_counted modules library levels sizes (take n order) m (get_or counts m 0)
    (λ e before. let there = in_take_place order n e before in so_far there.0 e there.2 there.1 levels (omega (arith, there.1, enough)))
    (ordered n m at).2
    (λ body found. count_at modules counts m body same found)

one_more : (modules : List Module) (library : Library) (counts : List ℕ) (sizes : List Size) (order : List ℕ) (n m : ℕ)
    → AreOrdered (all_steps modules library) order → counts ≡ map (λ (one : Module). net_count one.nets) modules
    → length sizes ≡ length (all_steps modules library) → AreCounted modules library sizes order n → slice_get order n ≡ Some m
    → AreCounted modules library (with_size library (all_steps modules library) counts sizes m) order (suc n)
one_more modules library counts sizes order n m ordered same count so_far at place other there low levels enough =
    let size : Size = module_size library sizes (get_or counts m 0) (steps_of (all_steps modules library) m) in
    elim (cases_eq place n) [
      | inl here ↦
          let e : Some other ≡ Some m = sym there ∙ (ap (λ (k : ℕ). slice_get order k) here ∙ at) in
          let one : other ≡ m = cc in
          let within : m < length sizes = omega (arith, (ordered n m at).0, count) in
          let new : get_or (set sizes m size) other no_size ≡ size = ap (λ (k : ℕ). get_or (set sizes m size) k no_size) one ∙ get_or-set_same sizes m size no_size within in
          subst (IsCounted modules library levels other) (sym new) (subst (λ (k : ℕ). IsCounted modules library levels k size) (sym one)
          (last_counted modules library counts sizes order n m ordered same so_far at levels (omega (arith, here, enough))))
      | inr distinct ↦
          let before : place < n = omega (arith, distinct, low) in
          let different : other ≡ m → ⊥ = λ e. differ (take n order) other m (in_taken order place n other there before) (ordered n m at).1 (sym e) in
          subst (IsCounted modules library levels other) (sym (get_or-set_other sizes m other size no_size different))
          (so_far place other there before levels enough)
    ]

all_counted : (modules : List Module) (library : Library) (counts order : List ℕ)
    → AreOrdered (all_steps modules library) order → counts ≡ map (λ (one : Module). net_count one.nets) modules
    → (rest : List ℕ) (n : ℕ) (sizes : List Size) → drop n order ≡ rest → length sizes ≡ length (all_steps modules library)
    → AreCounted modules library sizes order n
    → AreCounted modules library (sizes_along library (all_steps modules library) counts sizes rest) order (length order)
all_counted modules library counts order ordered same [] n sizes is count so_far =
    let few = drop_end order n is in
    λ place m at low levels enough. so_far place m at (omega (arith, low, few)) levels enough
all_counted modules library counts order ordered same (m ∷ rest) n sizes is count so_far =
    let first = drop_first order n m rest is in
    let size : Size = module_size library sizes (get_or counts m 0) (steps_of (all_steps modules library) m) in
    all_counted modules library counts order ordered same rest (suc n) (with_size library (all_steps modules library) counts sizes m) first.1
    (length-set sizes m size ∙ count)
    (one_more modules library counts sizes order n m ordered same count so_far first.0)

-- ---- the top

-- the size of the top is no more than what stands in the design
top_counted : (modules : List Module) (library : Library) (counts order : List ℕ) (top : ℕ) (body : Module)
    → AreOrdered (all_steps modules library) order → is_in order top ≡ true → counts ≡ map (λ (one : Module). net_count one.nets) modules
    → slice_get modules top ≡ Some body → NoneOfInstances modules library (flat modules library body)
    → IsUpTo (get_or (sizes_in library (all_steps modules library) counts order) top no_size)
    (plus (own_nets (top_scope body)) (amount modules library (instances_of modules body)))
top_counted modules library counts order top body ordered reached same at sound =
    let all = all_steps modules library in
    let there = in_place order top reached in
    let within = slice_get_within order there.0 top there.1 in
    let few = order_few all order ordered in
    let count : length all ≡ length modules = length-map modules (steps_in modules library) in
    all_counted modules library counts order ordered same order 0 (replicate (length all) no_size) refl (length-replicate (length all) no_size)
    (λ place m found low. absurd (omega (arith, low)))
    there.0 top there.1 within (length modules) (omega (arith, within, few, count)) (top_scope body) at
    (each_faultless modules library (instances_of modules body) sound)

beyond : (modules : List Module) (library : Library) (body : Module) (ports : ℕ) (size : Size) → ports ≡ port_count body.ports
    → IsUpTo size (plus (own_nets (top_scope body)) (amount modules library (instances_of modules body))) → is_beyond ports size ≡ true
    → faults.is_too_large (flat modules library body) ≡ true
beyond modules library body ports size ports_are known is =
    let f = flat modules library body in
    let all = ports_length body in
    let pins = pins_length modules library body in
    let nets = length-append (nets_in (top_scope body)) (flat_map nets_in (filter_map (entered modules) (instances_of modules body))) in
    elim (or_cases (nat_lt 1000000 (capped ports size.pins) || nat_lt 4000000 size.nets) (nat_lt 4000000 size.instances) is) [
      | inl two ↦ elim (or_cases (nat_lt 1000000 (capped ports size.pins)) (nat_lt 4000000 size.nets) two) [
        | inl many ↦ or_left (nat_lt 1000000 (length f.pins)) _ (lt-ltb 1000000 (length f.pins)
            (let high = ltb-true 1000000 (capped ports size.pins) many in omega (arith, high, known.pins, pins, all, ports_are)))
        | inr many ↦ or_right (nat_lt 1000000 (length f.pins)) _ (or_right (nat_lt 4000000 (length f.instances)) _
            (or_left (nat_lt 4000000 (length f.nets)) _ (lt-ltb 4000000 (length f.nets)
            (let high = ltb-true 4000000 size.nets many in omega (arith, high, known.nets, nets)))))
      ]
      | inr many ↦ or_right (nat_lt 1000000 (length f.pins)) _ (or_left (nat_lt 4000000 (length f.instances)) _ (lt-ltb 4000000 (length f.instances)
          (let high = ltb-true 4000000 size.instances many in omega (arith, high, known.instances))))
    ]

-- a design whose count is beyond the limits is too large
pub counted_large : (modules : List Module) (library : Library) (steps : List (List Step)) (counts order : List ℕ) (top ports : ℕ) (body : Module)
    → steps ≡ all_steps modules library → AreOrdered steps order → is_in order top ≡ true → counts ≡ map (λ (one : Module). net_count one.nets) modules
    → slice_get modules top ≡ Some body → ports ≡ port_count body.ports → NoneOfInstances modules library (flat modules library body)
    → is_counted_beyond library steps counts order top ports ≡ true → faults.is_too_large (flat modules library body) ≡ true
counted_large modules library steps counts order top ports body steps_are ordered reached same at ports_are sound is =
    beyond modules library body ports _ ports_are
    (top_counted modules library counts order top body (subst (λ (all : List (List Step)). AreOrdered all order) steps_are ordered) reached same at sound)
    (ap (λ (all : List (List Step)). is_counted_beyond library all counts order top ports) (sym steps_are) ∙ is)
