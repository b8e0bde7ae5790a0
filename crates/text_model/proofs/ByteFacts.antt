-- Digits are ASCII; after nothing there is no gap.
use Rattle.std.proofs.Common.{◌≡◌, ◌<◌, ℕ, true, false, [], refl, arith}
use Rattle.std.proofs.lemmas.Bool.Decides.{nat_tests}
use Rattle.text_model.specs.Bytes.{is_digit}
use Rattle.text_model.specs.Continued.{after_gap}

pub digit_small : (b : ℕ) → is_digit b ≡ true → b < 128
digit_small b is = grind (arith, nat_tests)

pub gap_nil : after_gap false [] ≡ []
unfolding after_gap
gap_nil = refl
