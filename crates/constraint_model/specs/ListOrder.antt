-- Lists in order, and lists that have nothing twice.
use Rattle.std.specs.Prelude.{◌≡◌, ◌<◌, ℕ, Bool, List, Some, slice_get, ◌==◌}
use Rattle.std.specs.List.{list_any}

-- each item stands before the next one and every later one
abbrev pub Rises : {X : Type 0} → (X → X → Type 0) → List X → Type 0
Rises {X} Before xs = (i j : ℕ) (x y : X) → i < j → slice_get xs i ≡ Some x → slice_get xs j ≡ Some y → Before x y

-- no two clocks of a mode are one merged clock
abbrev pub HasEachOnce : List ℕ → Type 0
HasEachOnce numbers = (p q n : ℕ) → slice_get numbers p ≡ Some n → slice_get numbers q ≡ Some n → p ≡ q

-- a place is one of these
abbrev pub is_among : ℕ → List ℕ → Bool
is_among place places = list_any (λ p. p == place) places
