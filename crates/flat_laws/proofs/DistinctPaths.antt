-- No two instances of a design have one path.
use Rattle.std.proofs.Common.{◌≡◌, ◌+◌, ℕ, zero, suc, Bool, true, false, List, [], ◌∷◌, ◌++◌, length, map, slice_get, Option, Some, None, refl, sym, ◌∙◌, ap, arith}
use Rattle.std.specs.Prelude.{if◌then◌else◌}
use Rattle.std.specs.List.{enumerate_from}
use Rattle.std.proofs.lemmas.List.{append_assoc}
use Rattle.source_types.specs.declared.netlists.Instance.{Instance}
use Rattle.source_types.specs.declared.netlists.Module.{Module}
use Rattle.flat_model.specs.Instances.{Placed, ModuleInstance, below, entered, instances_of, module_named, path_of, placed_in, scope_for, stands_in, top_scope}
use Rattle.flat_laws.proofs.DistinctKeys.{IsKey, get_flat, head_of, key_cons, key_flat, key_none, not_longer}

-- ---- the module that an instance opens

named_parts : (placed : Placed) (inner : ModuleInstance) (m : Module) (near : Bool)
    → (if near then None else Some (scope_for placed m)) ≡ Some inner → inner ≡ scope_for placed m
named_parts placed inner m true e = cc
named_parts placed inner m false e = cc

module_parts : (placed : Placed) (inner : ModuleInstance) (o : Option Module)
    → (elim o [ None ↦ None | Some m ↦ if stands_in m placed.scope then None else Some (scope_for placed m) ]) ≡ Some inner
    → (m : Module) × (o ≡ Some m) × (inner ≡ scope_for placed m)
module_parts placed inner None e = cc
module_parts placed inner (Some m) e = (m, refl, named_parts placed inner m (stands_in m placed.scope) e)

-- it is the module of its name, where the instance stands
pub entered_parts : (modules : List Module) (placed : Placed) (inner : ModuleInstance) → entered modules placed ≡ Some inner
    → (m : Module) × (module_named modules placed.instance.kind ≡ Some m) × (inner ≡ scope_for placed m)
entered_parts modules placed inner e = module_parts placed inner (module_named modules placed.instance.kind) e

entered_path : (modules : List Module) (placed : Placed) (inner : ModuleInstance) → entered modules placed ≡ Some inner → inner.path ≡ path_of placed
entered_path modules placed inner e = ap (λ (s : ModuleInstance). s.path) (entered_parts modules placed inner e).2

-- ---- the instances of one module

-- an instance, and what stands in it
abbrev pub listed : List Module → ℕ → Placed → List Placed
listed modules levels placed = placed ∷ elim (entered modules placed) [ None ↦ [] | Some inner ↦ below modules levels inner ]

abbrev placed_from : ModuleInstance → ℕ → List Instance → List Placed
placed_from scope n rest = map (λ (item : ℕ × Instance). record { scope = scope; place = item.0; instance = item.1 }) (enumerate_from n rest)

placed_place : (scope : ModuleInstance) (n : ℕ) (rest : List Instance) (i : ℕ) (p : Placed) → slice_get (placed_from scope n rest) i ≡ Some p
    → (p.place ≡ n + i) × (p.scope ≡ scope)
placed_place scope n [] i p at = cc
placed_place scope n (one ∷ rest) zero p at =
    let e : Some (record { scope = scope; place = n; instance = one }) ≡ Some p = at in
    let same : record { scope = scope; place = n; instance = one } ≡ p = cc in
    let plus : n ≡ n + 0 = omega arith in
    (sym (ap (λ (q : Placed). q.place) same) ∙ plus, sym (ap (λ (q : Placed). q.scope) same))
placed_place scope n (one ∷ rest) (suc i) p at =
    let r = placed_place scope (n + 1) rest i p at in
    (omega (arith, r.0), r.1)

place_key : (scope : ModuleInstance) → IsKey (λ (p : Placed). p.place) (placed_in scope)
place_key scope i j p q at_i at_j same =
    let a = placed_place scope 0 scope.body.instances i p at_i in
    let b = placed_place scope 0 scope.body.instances j q at_j in
    omega (arith, a.0, b.0, same)

-- ---- what stands in a module

-- an instance stands in the module with a path
abbrev StandsUnder : List ℕ → Placed → Type 0
StandsUnder path y = (front : List ℕ) × (n : ℕ) × (path_of y ≡ front ++ n ∷ path)

-- a path ends with another
abbrev EndsWith : Placed → Placed → Type 0
EndsWith y p = (front : List ℕ) × (path_of y ≡ front ++ path_of p)

listed_ends : (modules : List Module) (levels : ℕ) (p : Placed)
    → ((inner : ModuleInstance) (i : ℕ) (y : Placed) → slice_get (below modules levels inner) i ≡ Some y → StandsUnder inner.path y)
    → (o : Option ModuleInstance) → entered modules p ≡ o → (i : ℕ) (y : Placed)
    → slice_get (p ∷ elim o [ None ↦ [] | Some inner ↦ below modules levels inner ]) i ≡ Some y → EndsWith y p
listed_ends modules levels p under o is zero y at = let same : p ≡ y = cc in ([], sym (ap path_of same))
listed_ends modules levels p under None is (suc i) y at = cc
listed_ends modules levels p under (Some inner) is (suc i) y at =
    let r = under inner i y at in (
      r.0 ++ r.1 ∷ [],
      r.2 ∙ (ap (λ (path : List ℕ). r.0 ++ r.1 ∷ path) (entered_path modules p inner is) ∙ sym (append_assoc r.0 (r.1 ∷ []) (path_of p))),
    )

below_under : (modules : List Module) (levels : ℕ) (scope : ModuleInstance) (i : ℕ) (y : Placed) → slice_get (below modules levels scope) i ≡ Some y → StandsUnder scope.path y
below_under modules zero scope i y at = cc
below_under modules (suc levels) scope i y at =
    let r = get_flat (listed modules levels) (placed_in scope) i y at in
    let own = placed_place scope 0 scope.body.instances r.0 r.1 r.3 in
    let ends = listed_ends modules levels r.1 (λ inner k z found. below_under modules levels inner k z found) (entered modules r.1) refl r.2 y r.4 in
    (ends.0, r.1.place, ends.1 ∙ ap (λ (s : ModuleInstance). ends.0 ++ r.1.place ∷ s.path) own.1)

-- ---- each path once

listed_key : (modules : List Module) (levels : ℕ) (p : Placed) → ((inner : ModuleInstance) → IsKey path_of (below modules levels inner))
    → (o : Option ModuleInstance) → entered modules p ≡ o → IsKey path_of (p ∷ elim o [ None ↦ [] | Some inner ↦ below modules levels inner ])
listed_key modules levels p inside None is = key_cons path_of p [] (key_none path_of) (λ j y at same. let bad : None ≡ Some y = at in cc)
listed_key modules levels p inside (Some inner) is =
    key_cons path_of p (below modules levels inner) (inside inner)
    (λ j y at same.
    let r = below_under modules levels inner j y at in
    not_longer r.0 (path_of p) r.1 (same ∙ (r.2 ∙ ap (λ (path : List ℕ). r.0 ++ r.1 ∷ path) (entered_path modules p inner is))))

-- of two instances of one module, what stands in each has another path
places_cross : (modules : List Module) (levels : ℕ) (scope : ModuleInstance) (k l : ℕ) (p q : Placed) → slice_get (placed_in scope) k ≡ Some p → slice_get (placed_in scope) l ≡ Some q
    → (i j : ℕ) (y z : Placed) → slice_get (listed modules levels p) i ≡ Some y → slice_get (listed modules levels q) j ≡ Some z → path_of y ≡ path_of z → p.place ≡ q.place
places_cross modules levels scope k l p q at_k at_l i j y z at_i at_j same =
    let a = placed_place scope 0 scope.body.instances k p at_k in
    let b = placed_place scope 0 scope.body.instances l q at_l in
    let ends = listed_ends modules levels p (below_under modules levels) (entered modules p) refl i y at_i in
    let other = listed_ends modules levels q (below_under modules levels) (entered modules q) refl j z at_j in
    head_of ends.0 other.0 scope.path p.place q.place
    (sym (ends.1 ∙ ap (λ (s : ModuleInstance). ends.0 ++ p.place ∷ s.path) a.1)
    ∙ (same ∙ (other.1 ∙ ap (λ (s : ModuleInstance). other.0 ++ q.place ∷ s.path) b.1)))

below_key : (modules : List Module) (levels : ℕ) (scope : ModuleInstance) → IsKey path_of (below modules levels scope)
below_key modules zero scope = key_none path_of
below_key modules (suc levels) scope =
    key_flat (listed modules levels) (λ (p : Placed). p.place) path_of (placed_in scope) (place_key scope)
    (λ k p at. listed_key modules levels p (λ inner. below_key modules levels inner) (entered modules p) refl)
    (λ k l p q at_k at_l i j y z. places_cross modules levels scope k l p q at_k at_l i j y z)

pub path_key : (modules : List Module) (top : Module) → IsKey path_of (instances_of modules top)
path_key modules top = below_key modules (length modules) (top_scope top)
