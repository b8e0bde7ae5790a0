-- Of two exceptions not both stand before the other, so no two of them win, and none that matches stands before the
-- winner.
use Rattle.std.proofs.Common.{◌≡◌, ◌≢◌, ◌∙◌, ℕ, ◌<◌, List, Some, sym, ap, subst, inl, inr, arith}
use Rattle.std.specs.Prelude.{◌⊎◌, ℤ, slice_get}
use Rattle.std.proofs.lemmas.Bool.{cases_lt}
use Rattle.std.proofs.lemmas.Int.{ints}
use Rattle.std.proofs.lemmas.Option.{same_Some}
use Rattle.timing_types.specs.declared.constraints.ExCommand.{ExCommand}
use Rattle.timing_types.specs.declared.constraints.Exception.{Exception}
use Rattle.timing_types.specs.declared.paths.Path.{Path}
use Rattle.timing_types.specs.declared.paths.Periods.{Periods}
use Rattle.pin_types.specs.declared.pins.Side.{Side}
use Rattle.pin_types.specs.declared.pins.Side.TheVariants.{Setup, Hold}
use Rattle.timing_model.specs.Matching.{Matches, MatchesAt}
use Rattle.timing_model.specs.Winner.{command_rank, flags, IsStricter, IsWinner, resulting_of, StandsBefore}

same_or_not : (a b : ℕ) → (a ≡ b) ⊎ (a ≢ b)
same_or_not a b = elim (cases_lt a b) [
  | inl less ↦ inr (λ e. absurd (omega arith))
  | inr more ↦ elim (cases_lt b a) [ inl less ↦ inr (λ e. absurd (omega arith)) | inr equal ↦ inl (omega arith) ]
]

strict_apart : (side : Side) (a b : ℤ) → IsStricter side a b → IsStricter side b a → ⊥
strict_apart Setup a b one other = omega (arith, ints)
strict_apart Hold a b one other = omega (arith, ints)

strict_other : (side : Side) (a b : ℤ) → IsStricter side a b → b ≡ a → ⊥
strict_other Setup a b one same = omega (arith, ints)
strict_other Hold a b one same = omega (arith, ints)

-- the strictness and the place
last_apart : (side : Side) (a b : ℤ) (p q : ℕ) → (IsStricter side a b ⊎ ((a ≡ b) × (p < q))) → (IsStricter side b a ⊎ ((b ≡ a) × (q < p))) → ⊥
last_apart side a b p q (inl one) (inl other) = strict_apart side a b one other
last_apart side a b p q (inl one) (inr other) = strict_other side a b one other.0
last_apart side a b p q (inr one) (inl other) = strict_other side b a other one.0
last_apart side a b p q (inr one) (inr other) = let less : p < q = one.1 in let more : q < p = other.1 in omega arith

-- the flags, before what comes after them
flags_apart : (A B : Type 0) (m n : ℕ) → (A → B → ⊥) → ((n < m) ⊎ ((m ≡ n) × A)) → ((m < n) ⊎ ((n ≡ m) × B)) → ⊥
flags_apart A B m n apart (inl one) (inl other) = omega arith
flags_apart A B m n apart (inl one) (inr other) = let same : n ≡ m = other.0 in omega arith
flags_apart A B m n apart (inr one) (inl other) = let same : m ≡ n = one.0 in omega arith
flags_apart A B m n apart (inr one) (inr other) = apart one.1 other.1

-- the commands, before what comes after them
commands_apart : (A B : Type 0) (c d : ExCommand) → (A → B → ⊥) → ((command_rank d < command_rank c) ⊎ ((c ≡ d) × A))
    → ((command_rank c < command_rank d) ⊎ ((d ≡ c) × B)) → ⊥
commands_apart A B c d apart (inl one) (inl other) = omega arith
commands_apart A B c d apart (inl one) (inr other) = let same : command_rank d ≡ command_rank c = ap command_rank other.0 in omega arith
commands_apart A B c d apart (inr one) (inl other) = let same : command_rank c ≡ command_rank d = ap command_rank one.0 in omega arith
commands_apart A B c d apart (inr one) (inr other) = apart one.1 other.1

before_apart : (side : Side) (periods : Periods) (e : Exception) (p : ℕ) (f : Exception) (q : ℕ)
    → StandsBefore side periods e p f q → StandsBefore side periods f q e p → ⊥
before_apart side periods e p f q one other =
    let a = resulting_of periods e in
    let b = resulting_of periods f in
    commands_apart ((flags f < flags e) ⊎ ((flags e ≡ flags f) × (IsStricter side a b ⊎ ((a ≡ b) × (p < q)))))
    ((flags e < flags f) ⊎ ((flags f ≡ flags e) × (IsStricter side b a ⊎ ((b ≡ a) × (q < p))))) e.command f.command
    (flags_apart (IsStricter side a b ⊎ ((a ≡ b) × (p < q))) (IsStricter side b a ⊎ ((b ≡ a) × (q < p))) (flags e) (flags f)
    (last_apart side a b p q)) one other

pub one_winner : (exceptions : List Exception) (Match : ℕ → Type 0) (side : Side) (periods : Periods) (place other : ℕ)
    → IsWinner exceptions Match side periods place → IsWinner exceptions Match side periods other → place ≡ other
one_winner exceptions Match side periods place other one two = elim (same_or_not place other) [
  | inl same ↦ same
  | inr apart ↦ absurd (before_apart side periods one.exception place two.exception other
      (one.best other two.exception two.is two.matches (λ e. apart (sym e))) (two.best place one.exception one.is one.matches apart))
]

-- no exception stands before itself
not_before_itself : (exceptions : List Exception) (side : Side) (periods : Periods) (place at : ℕ) (exception other : Exception) → at ≡ place
    → slice_get exceptions place ≡ Some exception → slice_get exceptions at ≡ Some other → StandsBefore side periods other at exception place → ⊥
not_before_itself exceptions side periods place at exception other same is is_other before =
    let here : slice_get exceptions place ≡ Some other = subst (λ n. slice_get exceptions n ≡ Some other) same is_other in
    let one : other ≡ exception = same_Some other exception (sym here ∙ is) in
    let there : StandsBefore side periods other place exception place = subst (λ n. StandsBefore side periods other n exception place) same before in
    let itself : StandsBefore side periods exception place exception place = subst (λ e. StandsBefore side periods e place exception place) one there in
    before_apart side periods exception place exception place itself itself

pub best_match : (exceptions : List Exception) (path : Path) (side : Side) (periods : Periods) (place : ℕ) (exception : Exception)
    → slice_get exceptions place ≡ Some exception → IsWinner exceptions (MatchesAt exceptions path side) side periods place
    → Matches exception side path
    × ((at : ℕ) (other : Exception) → slice_get exceptions at ≡ Some other → Matches other side path
    → StandsBefore side periods other at exception place → ⊥)
best_match exceptions path side periods place exception is winner =
    let here : exception ≡ winner.exception = same_Some exception winner.exception (sym is ∙ winner.is) in
    let found : winner.matches.0 ≡ exception = same_Some winner.matches.0 exception (sym winner.matches.1 ∙ is) in (
      subst (λ e. Matches e side path) found winner.matches.2,
      λ at other is_other matches before. elim (same_or_not at place) [
        | inl same ↦ not_before_itself exceptions side periods place at exception other same is is_other before
        | inr apart ↦ before_apart side periods winner.exception place other at (winner.best at other is_other (other, is_other, matches) apart)
            (subst (λ e. StandsBefore side periods other at e place) here before)
      ],
    )
