-- A range has as many indices as it is wide.
use Rattle.std.proofs.Common.{◌≡◌, ◌∙◌, ◌+◌, ◌-◌, ℕ, zero, suc, length, Option, Some, None, refl, ap, nat_le}
use Rattle.std.specs.Prelude.{if◌then◌else◌}
use Rattle.std.proofs.lemmas.List.{length-map}
use Rattle.sdc_base.proofs.CaseFacts.{by_bool}
use Rattle.source_types.specs.declared.netlists.Range.{Range}
use Rattle.netlist_model.specs.Ranges.{falling, from_to, indices, rising, span, width}

pub rising_length : (n count : ℕ) → length (rising n count) ≡ count
rising_length n zero = refl
rising_length n (suc count) = ap suc (rising_length (n + 1) count)

pub falling_length : (n count : ℕ) → length (falling n count) ≡ count
falling_length n zero = refl
falling_length n (suc count) = ap suc (falling_length (n - 1) count)

pub span_length : (left right : ℕ) → length (from_to left right) ≡ span left right
span_length left right =
    by_bool (λ t. length (if t then rising left ((right - left) + 1) else falling left ((left - right) + 1)) ≡ (if t then (right - left) + 1 else (left - right) + 1)) (nat_le left right)
    (λ e. rising_length left ((right - left) + 1)) (λ e. falling_length left ((left - right) + 1))

pub indices_length : (range : Option Range) → length (indices range) ≡ width range
indices_length None = refl
indices_length (Some range) = length-map (from_to range.left range.right) (λ i. Some i) ∙ span_length range.left range.right
