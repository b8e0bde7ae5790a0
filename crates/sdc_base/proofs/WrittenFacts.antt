-- How the text of a number is put together.
use Rattle.std.proofs.Common.{◌≡◌, ℕ, ◌/◌, ◌%◌, ◌^◌, Bool, List, [], ◌++◌, ℤ, refl, ap, ◌∙◌, append_assoc}
use Rattle.std.specs.Fmt.{decimal}
use Rattle.std.specs.Int.{is_negative}
use Rattle.std.specs.Int.RustNames.{unsigned_abs}
use Rattle.sdc_base.specs.Number.{Number}
use Rattle.sdc_base.specs.Time.{minus_text}
use Rattle.sdc_base.specs.WrittenNumber.{fraction_text, number_text_of}

-- from the parts that were written one after another
pub number_text_is : (n : Number) (s : ℤ) (w : Bool) (m : ℕ) (start signed whole text : List ℕ) → s ≡ n.scaled → w ≡ n.whole → m ≡ unsigned_abs s → start ≡ [] → signed ≡ start ++ minus_text (is_negative s) → whole ≡ signed ++ decimal (m / 10 ^ 9) → text ≡ whole ++ fraction_text w (m % 10 ^ 9) → text ≡ number_text_of n
unfolding number_text_of
number_text_is n s w m start signed whole text a b d e f g h =
    h ∙ ap (λ t. t ++ fraction_text w (m % 10 ^ 9)) (g ∙ ap (λ t. t ++ decimal (m / 10 ^ 9)) (f ∙ ap (λ t. t ++ minus_text (is_negative s)) e))
    ∙ append_assoc (minus_text (is_negative s)) (decimal (m / 10 ^ 9)) (fraction_text w (m % 10 ^ 9)) ∙ rw (d, a, b) refl
