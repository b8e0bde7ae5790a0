-- What is taken by some completion, and what is forced by all.
use Rattle.std.proofs.Common.{◌≡◌, ◌↔◌, ◌%◌, ◌^◌, ℕ, Bool, true, false, Some, None, IsTrue, refl, sym, ◌∙◌}
use Rattle.std.proofs.Math.Nat.{mod-lt}
use Rattle.std.proofs.lemmas.Nat.{pow_pos}
use Rattle.function_model.specs.FunctionValue.{Completes, Forces, Takes, Truths, truth}
use Rattle.bool_lanes.specs.Forced.{only_value}
use Rattle.bool_lanes.proofs.Completions.{bit_of_cut}

pub never : {A : Type 0} → (b : Bool) → b ≡ true → b ≡ false → A
never b e f = absurd (cc)

-- known inputs have a completion
pub some_completion : (table : Truths) (mask value : ℕ) → Completes table mask value (value % 2 ^ table.inputs)
some_completion table mask value = (mod-lt value (pow_pos table.inputs), λ pin below known. bit_of_cut table.inputs value pin below)

-- a value that no completion has: all have the other
pub other_forced : (table : Truths) (mask value : ℕ) (v : Bool) → (Takes table mask value true → ⊥) → Forces table mask value false
other_forced table mask value v none c completes = false_of (truth table c) (λ e. none (c, (completes, e))) where
  false_of : (b : Bool) → (b ≡ true → ⊥) → b ≡ false
  false_of true h = absurd (h refl)
  false_of false h = refl

pub true_forced : (table : Truths) (mask value : ℕ) → (Takes table mask value false → ⊥) → Forces table mask value true
true_forced table mask value none c completes = true_of (truth table c) (λ e. none (c, (completes, e))) where
  true_of : (b : Bool) → (b ≡ false → ⊥) → b ≡ true
  true_of false h = absurd (h refl)
  true_of true h = refl

-- both are not forced at once, nor one that another is taken against
pub not_forced : (table : Truths) (mask value : ℕ) (v w : Bool) → (v ≡ w → ⊥) → Takes table mask value w → Forces table mask value v → ⊥
not_forced table mask value v w apart taken forced = apart (sym (forced taken.0 taken.1.0) ∙ taken.1.1)

pub apart_tf : true ≡ false → ⊥
apart_tf e = cc

pub apart_ft : false ≡ true → ⊥
apart_ft e = cc

pub no_value : (v : Bool) → None ≡ Some v → ⊥
no_value v e = cc

pub other_value : (v w : Bool) → Some v ≡ Some w → (v ≡ w → ⊥) → ⊥
other_value v w e apart = apart (cc)

pub forced_is : (table : Truths) (mask value : ℕ) (zero one v : Bool) → (IsTrue zero ↔ Takes table mask value false) → (IsTrue one ↔ Takes table mask value true) → (only_value zero one ≡ Some v) ↔ Forces table mask value v
forced_is table mask value false true true z o = (λ e. true_forced table mask value (λ t. apart_ft (z.1 t)), λ f. refl)
forced_is table mask value false true false z o =
    (λ e. absurd (other_value true false e apart_tf), λ f. absurd (not_forced table mask value false true apart_ft (o.0 refl) f))
forced_is table mask value true false false z o = (λ e. other_forced table mask value false (λ t. apart_ft (o.1 t)), λ f. refl)
forced_is table mask value true false true z o =
    (λ e. absurd (other_value false true e apart_ft), λ f. absurd (not_forced table mask value true false apart_tf (z.0 refl) f))
forced_is table mask value true true true z o =
    (λ e. absurd (no_value true e), λ f. absurd (not_forced table mask value true false apart_tf (z.0 refl) f))
forced_is table mask value true true false z o =
    (λ e. absurd (no_value false e), λ f. absurd (not_forced table mask value false true apart_ft (o.0 refl) f))
forced_is table mask value false false v z o =
    (λ e. absurd (no_value v e), λ f. absurd (neither (truth table (value % 2 ^ table.inputs)) refl)) where
      neither : (b : Bool) → truth table (value % 2 ^ table.inputs) ≡ b → ⊥
      neither true e = apart_ft (o.1 (value % 2 ^ table.inputs, (some_completion table mask value, e)))
      neither false e = apart_ft (z.1 (value % 2 ^ table.inputs, (some_completion table mask value, e)))
