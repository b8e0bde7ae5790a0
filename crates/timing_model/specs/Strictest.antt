-- The best of several times, and the strictest of several limits. This project's own words.
use Rattle.std.specs.Prelude.{ℤ, Option, Some, None}
use Rattle.pin_types.specs.declared.pins.Side.{Side}
use Rattle.timing_model.specs.Winner.{IsAsStrict}

-- a time with a property, as good as each other one; none, where no time has the property
abbrev pub IsBest : (ℤ → ℤ → Type 0) → (ℤ → Type 0) → Option ℤ → Type 0
IsBest AsGood Is (Some time) = Is time × ((other : ℤ) → Is other → AsGood time other)
IsBest AsGood Is None = (time : ℤ) → Is time → ⊥

abbrev pub IsStrictest : Side → (ℤ → Type 0) → Option ℤ → Type 0
IsStrictest side = IsBest (IsAsStrict side)
