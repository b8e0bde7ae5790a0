-- The first fault of things, place by place.
use Rattle.std.proofs.Common.{◌≡◌, ◌+◌, ◌≤◌, inl, inr, ℕ, List, length, slice_get, Some, None, sym, ◌∙◌, ap, subst, arith}
use Rattle.std.proofs.lemmas.Bool.{cases_lt}
use Rattle.std.proofs.lemmas.Option.{slice_get_within}
use Rattle.sdc_base.specs.declared.memory.At.{At}
use Rattle.source_types.specs.declared.fault_kinds.DesignKind.{DesignKind}
use Rattle.flat_model.specs.FlatFaults.{HasNoFault, IsFirstFault, IsNoLater}
use Rattle.flat_design.specs.NamedFaults.{HaveNoneBefore, IsFirstKind}
use Rattle.flat_design.proofs.HierarchyFacts.{one_at}

-- one more thing without a fault
pub none_more : (Thing : Type 0) (Has : ℕ → Thing → DesignKind → Type 0) (things : List Thing) (n : ℕ) (thing : Thing) → slice_get things n ≡ Some thing
    → IsFirstKind (Has n thing) None → HaveNoneBefore Thing Has things n → HaveNoneBefore Thing Has things (n + 1)
none_more Thing Has things n thing at none before place other kind low there has =
    elim (cases_lt place n) [
      | inl earlier ↦ before place other kind earlier there has
      | inr last ↦
          let here : place ≡ n = omega (arith, low, last) in
          let same : other ≡ thing = one_at things n other thing (ap (slice_get things) (sym here) ∙ there) at in
          none kind (subst (λ (k : ℕ). Has k thing kind) here (subst (λ (one : Thing). Has place one kind) same has))
    ]

pub none_all : (Thing : Type 0) (Has : ℕ → Thing → DesignKind → Type 0) (things : List Thing) (n : ℕ) → length things ≤ n
    → HaveNoneBefore Thing Has things n → HasNoFault Thing Has things
none_all Thing Has things n all before place thing kind at has =
    let low = slice_get_within things place thing at in
    before place thing kind (omega (arith, low, all)) at has

-- the first fault of the first thing that has one is the first
earliest : (Thing : Type 0) (Has : ℕ → Thing → DesignKind → Type 0) (things : List Thing) (n : ℕ) (thing : Thing) (first : DesignKind) → slice_get things n ≡ Some thing
    → IsFirstKind (Has n thing) (Some first) → HaveNoneBefore Thing Has things n
    → (other : ℕ) (other_thing : Thing) (kind : DesignKind) → slice_get things other ≡ Some other_thing → Has other other_thing kind → IsNoLater n first other kind
earliest Thing Has things n thing first at is before other other_thing kind there has =
    elim (cases_lt other n) [
      | inl earlier ↦ absurd (before other other_thing kind earlier there has)
      | inr after ↦ elim (cases_lt n other) [
        | inl later ↦ inl later
        | inr last ↦
            let here : other ≡ n = omega (arith, after, last) in
            let same : other_thing ≡ thing = one_at things n other_thing thing (ap (slice_get things) (sym here) ∙ there) at in
            inr (sym here, is.1 kind (subst (λ (k : ℕ). Has k thing kind) here (subst (λ (one : Thing). Has other one kind) same has)))
      ]
    ]

pub first_here : (Thing : Type 0) (Has : ℕ → Thing → DesignKind → Type 0) (line : Thing → ℕ) (things : List Thing) (n : ℕ) (thing : Thing) (first : At DesignKind)
    → slice_get things n ≡ Some thing → first.line ≡ line thing → IsFirstKind (Has n thing) (Some first.kind) → HaveNoneBefore Thing Has things n
    → IsFirstFault Thing Has line things first
first_here Thing Has line things n thing first at line_is is before = record {
  place = n;
  thing = thing;
  is = at;
  has = is.0;
  line_is = line_is;
  earliest = λ other other_thing kind there has. earliest Thing Has things n thing first.kind at is before other other_thing kind there has;
}
