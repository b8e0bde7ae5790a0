-- The module where a net stands, by the numbers of the first nets.
use Rattle.std.proofs.Common.{◌≡◌, ◌+◌, ◌-◌, ◌<◌, ◌≤◌, inl, inr, ℕ, Bool, true, false, List, length, take, nat_le, slice_get, Some, sym, ◌∙◌, ap, subst, arith}
use Rattle.std.proofs.lemmas.Bool.{cases_lt, leb-false, leb-true}
use Rattle.std.proofs.lemmas.List.{take_all}
use Rattle.std.proofs.lemmas.List.Sums.{prefix_len-le-length, prefix_len_passes, prefix_len_stops}
use Rattle.std.proofs.lemmas.Option.{get_or_from_slice_get, slice_get_within}
use Rattle.std.specs.List.{flat_map, prefix_len}
use Rattle.flat_model.specs.FlatNets.{FlatNet, nets_in}
use Rattle.flat_model.specs.Instances.{ModuleInstance}
use Rattle.text_model.proofs.ListFacts.{element_at}
use Rattle.flat_design.specs.declared.elaborate.hierarchy.Hierarchy.{Hierarchy}
use Rattle.flat_design.specs.declared.elaborate.elaboration.ModuleInstanceRow.{ModuleInstanceRow}
use Rattle.flat_design.specs.Hierarchy.{IsHierarchy, scopes_in}
use Rattle.flat_design.specs.Elaboration.{nets_of}
use Rattle.flat_design.proofs.DistinctBits.{net_scope}
use Rattle.flat_design.proofs.HierarchyFacts.{one_at}
use Rattle.flat_design.proofs.NumberFacts.{flat_at}
use Rattle.flat_design.proofs.PlaceFacts.{parts_more}

-- ---- those that come before the first one without something

-- each thing before has it
prefix_before : {X : Type 0} (p : X → Bool) (xs : List X) (n : ℕ) (x : X) → n < prefix_len p xs → slice_get xs n ≡ Some x → p x ≡ true
prefix_before p xs n x low at = ap p (sym (get_or_from_slice_get xs n x x at)) ∙ prefix_len_passes p xs n x low

-- the first one after has it not
prefix_end : {X : Type 0} (p : X → Bool) (xs : List X) (x : X) → slice_get xs (prefix_len p xs) ≡ Some x → p x ≡ false
prefix_end p xs x at =
    ap p (sym (get_or_from_slice_get xs (prefix_len p xs) x x at)) ∙ prefix_len_stops p xs x (slice_get_within xs (prefix_len p xs) x at)

-- ---- the part of a thing of joined parts

part_at : {X Y : Type 0} (f : X → List Y) (xs : List X) (s n : ℕ) (x : X) (y : Y) → slice_get xs s ≡ Some x → length (flat_map f (take s xs)) ≤ n
    → n < length (flat_map f (take (s + 1) xs)) → slice_get (flat_map f xs) n ≡ Some y → (j : ℕ) × (slice_get (f x) j ≡ Some y)
part_at f xs s n x y x_is low high y_is =
    let more = parts_more f xs s x x_is in
    let j : ℕ = n - length (flat_map f (take s xs)) in
    let same : n ≡ length (flat_map f (take s xs)) + j = omega (arith, low) in
    let within : j < length (f x) = omega (arith, low, high, more) in
    let own = element_at (f x) j within in
    let there = flat_at f xs s j x own.0 x_is own.1 in
    (j, own.1 ∙ ap (λ z. Some z) (one_at (flat_map f xs) n own.0 y (ap (slice_get (flat_map f xs)) same ∙ there) y_is))

-- ---- the module of a net

-- modules whose nets begin no later than a net
abbrev pub begun_by : ℕ → List ModuleInstanceRow → ℕ
begun_by net rows = prefix_len (λ (row : ModuleInstanceRow). nat_le row.first_net net) rows

-- the first one begins no later
pub one_begun : (design : Hierarchy) (net : ℕ) → IsHierarchy design → 1 ≤ begun_by net design.elaboration.scopes
one_begun design net is =
    let rows = design.elaboration.scopes in
    let there : 0 < length rows = omega (arith, is.elaboration.scope_count) in
    elim (cases_lt 0 (begun_by net rows)) [
      | inl some ↦ omega (arith, some)
      | inr none ↦
          let row = element_at rows 0 there in
          let known = is.elaboration.scopes 0 row.0 row.1 in
          let none_is : begun_by net rows ≡ 0 = omega (arith, none) in
          let no = prefix_end (λ (one : ModuleInstanceRow). nat_le one.first_net net) rows row.0 (ap (slice_get rows) none_is ∙ row.1) in
          let high = leb-false row.0.first_net net no in
          let first : row.0.first_net ≡ 0 = known.first in
          absurd (omega (arith, high, first))
    ]

-- and the last one of them ends after it
end_after : (design : Hierarchy) (net : ℕ) → IsHierarchy design → net < design.elaboration.nets
    → net < nets_of (take (begun_by net design.elaboration.scopes) (scopes_in design))
end_after design net is low =
    let rows = design.elaboration.scopes in
    let scopes = scopes_in design in
    let k = begun_by net rows in
    elim (cases_lt k (length rows)) [
      | inl more ↦
          let row = element_at rows k more in
          let known = is.elaboration.scopes k row.0 row.1 in
          let high = leb-false row.0.first_net net (prefix_end (λ (one : ModuleInstanceRow). nat_le one.first_net net) rows row.0 row.1) in
          omega (arith, high, known.first)
      | inr all ↦
          let whole = ap nets_of (take_all k scopes (omega (arith, all, is.elaboration.scope_count))) in
          omega (arith, whole, low, is.elaboration.nets)
    ]

-- a net among those of one module stands there
found_in : (scopes : List ModuleInstance) (s net : ℕ) (scope : ModuleInstance) (found : FlatNet) → slice_get scopes s ≡ Some scope → nets_of (take s scopes) ≤ net
    → net < nets_of (take (s + 1) scopes) → slice_get (flat_map nets_in scopes) net ≡ Some found → slice_get scopes s ≡ Some found.scope
found_in scopes s net scope found scope_at low high at =
    let own = part_at nets_in scopes s net scope found scope_at low high at in
    subst (λ (one : ModuleInstance). slice_get scopes s ≡ Some one) (sym (net_scope scope own.0 found own.1)) scope_at

pub scope_found : (design : Hierarchy) (net : ℕ) (found : FlatNet) → IsHierarchy design → net < design.elaboration.nets → slice_get (flat_map nets_in (scopes_in design)) net ≡ Some found
    → slice_get (scopes_in design) (begun_by net design.elaboration.scopes - 1) ≡ Some found.scope
scope_found design net found is low at =
    let rows = design.elaboration.scopes in
    let scopes = scopes_in design in
    let s : ℕ = begun_by net rows - 1 in
    let one = one_begun design net is in
    let few = prefix_len-le-length (λ (row : ModuleInstanceRow). nat_le row.first_net net) rows in
    let next : s + 1 ≡ begun_by net rows = omega (arith, one) in
    let row = element_at rows s (omega (arith, one, few)) in
    let known = is.elaboration.scopes s row.0 row.1 in
    let begins = leb-true row.0.first_net net (prefix_before (λ (r : ModuleInstanceRow). nat_le r.first_net net) rows s row.0 (omega (arith, one)) row.1) in
    let high : net < nets_of (take (s + 1) scopes) = subst (λ (k : ℕ). net < nets_of (take k scopes)) (sym next) (end_after design net is low) in
    found_in scopes s net known.scope found known.at (omega (arith, begins, known.first)) high at
