-- What is left of a list after as many items as it has at least.
use Rattle.std.proofs.Common.{◌≡◌, ℕ, List, drop, length}
use Rattle.std.specs.Prelude.{min}
use Rattle.std.proofs.lemmas.List.{drop_min}

pub drop_least : (len : ℕ) (xs : List ℕ) → drop (min len (length xs)) xs ≡ drop len xs
drop_least len xs = drop_min len xs
