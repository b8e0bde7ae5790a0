-- What a parsed number says of a text as a budget.
use Rattle.std.proofs.Common.{◌≡◌, ◌<◌, ◌≤◌, ◌&&◌, ℕ, Bool, true, false, List, length, Result, Ok, Err, nat_lt, nat_le, refl, sym, ◌∙◌, ap, arith}
use Rattle.std.proofs.lemmas.Bool.{lt-ltb, ltb-true, leb-true}
use Rattle.std.specs.Str.Parse.{ParsesUnsigned, digits_value, without_leading_plus}
use Rattle.sdc_base.proofs.CaseFacts.{by_bool}
use Rattle.sdc_base.proofs.DigitFacts.{own}
use Rattle.sdc_model.specs.CommandLine.{is_budget}

-- a number from 1 to the greatest budget
abbrev pub is_within : {E : Type 0} → Result ℕ E → Bool
is_within (Ok n) = nat_le 1 n && nat_le n 10000000
is_within (Err e) = false

-- the facts that a budget is made of
all_true : (a b c d : Bool) → (a && b && c && d) ≡ true → (a ≡ true) × (b ≡ true) × (c ≡ true) × (d ≡ true)
all_true true true true true h = (refl, refl, refl, refl)
all_true true true true false h = absurd (cc)
all_true true true false d h = absurd (cc)
all_true true false c d h = absurd (cc)
all_true false b c d h = absurd (cc)

both_true : (a b c d : Bool) → a ≡ true → b ≡ true → (a && b && c && d) ≡ (c && d)
both_true true true c d p q = refl
both_true true false c d p q = absurd (cc)
both_true false b c d p q = absurd (cc)

pub budget_is : {E : Type 0} (text : List ℕ) (r : Result ℕ E) → ParsesUnsigned 64 10 text r → is_budget text ≡ is_within r
budget_is text (Ok n) parses =
    let digits = without_leading_plus text in
    let some : nat_lt 0 (length digits) ≡ true = lt-ltb 0 (length digits) parses.0.0.0 in
    both_true _ _ _ _ some (own.from digits parses.0.0.1) ∙ ap (λ (m : ℕ). nat_le 1 m && nat_le m 10000000) (sym parses.1)
budget_is text (Err e) parses =
    let digits = without_leading_plus text in
    by_bool (λ b. is_budget text ≡ b → is_budget text ≡ false) (is_budget text)
    (λ is_true _. absurd (
    let all = all_true _ _ _ _ is_true in
    let some : 0 < length digits = ltb-true 0 (length digits) all.0 in
    let small : digits_value 10 digits ≤ 10000000 = leb-true (digits_value 10 digits) 10000000 all.3 in
    parses ((some, own.to digits all.1), omega arith)))
    (λ is_false _. is_false) refl
