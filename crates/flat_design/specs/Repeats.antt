-- Which names of a list stand before in it. This project's own words.
use Rattle.std.specs.Prelude.{◌≡◌, ℕ, Bool, List, length, take, slice_get, Some}
use Rattle.flat_model.specs.FlatFaults.{is_among}

-- of each name, whether an earlier one is the same
pub record AreRepeats (names : List (List ℕ)) (repeats : List Bool) : Type 0 where
  pub count : length repeats ≡ length names
  pub each : (place : ℕ) (name : List ℕ) → slice_get names place ≡ Some name → slice_get repeats place ≡ Some (is_among (take place names) name)
