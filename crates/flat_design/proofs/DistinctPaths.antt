-- No two instances of a design have one path, and no two module instances.
use Rattle.std.proofs.Common.{◌≡◌, ◌+◌, ℕ, zero, suc, Bool, true, false, cond, List, [], ◌∷◌, ◌++◌, length, slice_get, Option, Some, None, refl, sym, ◌∙◌, ap, subst, arith}
use Rattle.std.proofs.lemmas.List.{append_assoc}
use Rattle.std.specs.List.{filter_map}
use Rattle.source_types.specs.declared.netlists.Instance.{Instance}
use Rattle.source_types.specs.declared.netlists.Module.{Module}
use Rattle.flat_model.specs.Instances.{Placed, ModuleInstance, below, entered, instances_of, module_named, path_of, placed_in, scope_for, scopes_of, stands_in, top_scope}
use Rattle.flat_design.proofs.DistinctFacts.{Distinct, distinct_cons, distinct_flat, distinct_kept, distinct_none, get_flat, get_kept, head_of, not_longer}
use Rattle.flat_design.proofs.InstanceFaults.{listed, placed_at}
use Rattle.flat_design.proofs.LeftOver.{listed_alone, listed_entered, placed_from}
use Rattle.flat_design.proofs.StepMeanings.{entered_is, entered_none}

-- ---- the instances of one module

placed_place : (scope : ModuleInstance) (n : ℕ) (rest : List Instance) (i : ℕ) (p : Placed) → slice_get (placed_from scope n rest) i ≡ Some p
    → (p.place ≡ n + i) × (p.scope ≡ scope)
placed_place scope n [] i p at = let bad : None ≡ Some p = at in cc
placed_place scope n (one ∷ rest) zero p at =
    let e : Some (placed_at scope n one) ≡ Some p = at in
    let same : p ≡ placed_at scope n one = cc in
    let plus : n ≡ n + 0 = omega arith in
    (ap (λ (q : Placed). q.place) same ∙ plus, ap (λ (q : Placed). q.scope) same)
placed_place scope n (one ∷ rest) (suc i) p at =
    let r = placed_place scope (n + 1) rest i p at in
    (omega (arith, r.0), r.1)

places_distinct : (scope : ModuleInstance) → Distinct (λ (p : Placed). p.place) (placed_in scope)
places_distinct scope i j p q at_i at_j same =
    let a = placed_place scope 0 scope.body.instances i p at_i in
    let b = placed_place scope 0 scope.body.instances j q at_j in
    omega (arith, a.0, b.0, same)

-- ---- what stands in a module

-- a module that an instance opens has its path
opened_path : (modules : List Module) (p : Placed) (inner : ModuleInstance) (b : Module) (near : Bool) → stands_in b p.scope ≡ near
    → cond near None (Some (scope_for p b)) ≡ Some inner → inner.path ≡ path_of p
opened_path modules p inner b true is e = let bad : None ≡ Some inner = e in cc
opened_path modules p inner b false is e =
    let some : Some (scope_for p b) ≡ Some inner = e in
    let same : inner ≡ scope_for p b = cc in
    ap (λ (s : ModuleInstance). s.path) same

named_path : (modules : List Module) (p : Placed) (inner : ModuleInstance) (o : Option Module) → module_named modules p.instance.kind ≡ o
    → entered modules p ≡ Some inner → inner.path ≡ path_of p
named_path modules p inner None is e = let bad : None ≡ Some inner = sym (entered_none modules p is) ∙ e in cc
named_path modules p inner (Some b) is e =
    opened_path modules p inner b (stands_in b p.scope) refl (sym (entered_is modules p b is) ∙ e)

pub entered_path : (modules : List Module) (p : Placed) (inner : ModuleInstance) → entered modules p ≡ Some inner → inner.path ≡ path_of p
entered_path modules p inner e = named_path modules p inner (module_named modules p.instance.kind) refl e

-- an instance stands in the module with a path
abbrev StandsUnder : List ℕ → Placed → Type 0
StandsUnder path y = (front : List ℕ) × (n : ℕ) × (path_of y ≡ front ++ n ∷ path)

-- what is listed for an instance has a path that ends with the instance's
listed_ends : (modules : List Module) (levels : ℕ) (p : Placed)
    → ((inner : ModuleInstance) (i : ℕ) (y : Placed) → slice_get (below modules levels inner) i ≡ Some y → StandsUnder inner.path y)
    → (o : Option ModuleInstance) → entered modules p ≡ o → (i : ℕ) (y : Placed) → slice_get (listed modules levels p) i ≡ Some y
    → (front : List ℕ) × (path_of y ≡ front ++ path_of p)
listed_ends modules levels p under None is zero y at =
    let e : Some p ≡ Some y = at in
    let same : y ≡ p = cc in
    ([], ap path_of same)
listed_ends modules levels p under None is (suc i) y at =
    let bad : None ≡ Some y = sym (ap (λ (things : List Placed). slice_get things (suc i)) (listed_alone modules levels p is)) ∙ at in
    cc
listed_ends modules levels p under (Some inner) is zero y at =
    let e : Some p ≡ Some y = at in
    let same : y ≡ p = cc in
    ([], ap path_of same)
listed_ends modules levels p under (Some inner) is (suc i) y at =
    let r = under inner i y (sym (ap (λ (things : List Placed). slice_get things (suc i)) (listed_entered modules levels p inner is)) ∙ at) in (
      r.0 ++ r.1 ∷ [],
      r.2 ∙ (ap (λ (path : List ℕ). r.0 ++ r.1 ∷ path) (entered_path modules p inner is) ∙ sym (append_assoc r.0 (r.1 ∷ []) (path_of p))),
    )

below_under : (modules : List Module) (levels : ℕ) (scope : ModuleInstance) (i : ℕ) (y : Placed) → slice_get (below modules levels scope) i ≡ Some y → StandsUnder scope.path y
below_under modules zero scope i y at = let bad : None ≡ Some y = at in cc
below_under modules (suc levels) scope i y at =
    let r = get_flat (listed modules levels) (placed_in scope) i y at in
    let p : Placed = r.1 in
    let own = placed_place scope 0 scope.body.instances r.0 p r.3 in
    let ends = listed_ends modules levels p (λ inner k z found. below_under modules levels inner k z found) (entered modules p) refl r.2 y r.4 in
    (ends.0, p.place, ends.1 ∙ ap (λ (s : ModuleInstance). ends.0 ++ p.place ∷ s.path) own.1)

-- ---- distinct paths

listed_distinct : (modules : List Module) (levels : ℕ) (p : Placed) → ((inner : ModuleInstance) → Distinct path_of (below modules levels inner))
    → (o : Option ModuleInstance) → entered modules p ≡ o → Distinct path_of (listed modules levels p)
listed_distinct modules levels p inside None is =
    subst (Distinct path_of) (sym (listed_alone modules levels p is))
    (distinct_cons path_of p [] (distinct_none path_of) (λ j y at same. let bad : None ≡ Some y = at in cc))
listed_distinct modules levels p inside (Some inner) is =
    subst (Distinct path_of) (sym (listed_entered modules levels p inner is))
    (distinct_cons path_of p (below modules levels inner) (inside inner)
    (λ j y at same.
    let r = below_under modules levels inner j y at in
    not_longer r.0 (path_of p) r.1 (same ∙ (r.2 ∙ ap (λ (path : List ℕ). r.0 ++ r.1 ∷ path) (entered_path modules p inner is)))))

pub below_distinct : (modules : List Module) (levels : ℕ) (scope : ModuleInstance) → Distinct path_of (below modules levels scope)
below_distinct modules zero scope = distinct_none path_of
below_distinct modules (suc levels) scope =
    distinct_flat (listed modules levels) (λ (p : Placed). p.place) path_of (placed_in scope) (places_distinct scope)
    (λ k p at. listed_distinct modules levels p (λ inner. below_distinct modules levels inner) (entered modules p) refl)
    (λ k l p q at_k at_l i j y z at_i at_j same.
    let a = placed_place scope 0 scope.body.instances k p at_k in
    let b = placed_place scope 0 scope.body.instances l q at_l in
    let ends = listed_ends modules levels p (λ inner m w found. below_under modules levels inner m w found) (entered modules p) refl i y at_i in
    let other = listed_ends modules levels q (λ inner m w found. below_under modules levels inner m w found) (entered modules q) refl j z at_j in
    head_of ends.0 other.0 scope.path p.place q.place
    (sym (ends.1 ∙ ap (λ (s : ModuleInstance). ends.0 ++ p.place ∷ s.path) a.1)
    ∙ (same ∙ (other.1 ∙ ap (λ (s : ModuleInstance). other.0 ++ q.place ∷ s.path) b.1))))

no_path : (n : ℕ) (path : List ℕ) → [] ≡ n ∷ path → ⊥
no_path n path bad = cc

pub scopes_distinct : (modules : List Module) (top : Module) → Distinct (λ (s : ModuleInstance). s.path) (scopes_of modules top)
scopes_distinct modules top =
    distinct_cons (λ (s : ModuleInstance). s.path) (top_scope top) (filter_map (entered modules) (instances_of modules top))
    (distinct_kept (entered modules) path_of (λ (s : ModuleInstance). s.path) (instances_of modules top) (λ p s is. entered_path modules p s is)
    (below_distinct modules (length modules) (top_scope top)))
    (λ j s at same.
    let r = get_kept (entered modules) (instances_of modules top) j s at in
    no_path r.1.place r.1.scope.path (same ∙ entered_path modules r.1 s r.3))
