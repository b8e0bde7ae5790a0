-- A map from the names of clocks to their places in the list of clocks. This project's own words.
-- It finds a name exactly where some clock has it, and then at the place of the first one.
use Rattle.std.specs.Prelude.{◌≡◌, ℕ, List, String}
use Rattle.std.specs.BTreeMap.{BTreeMap, get_by_text}
use Rattle.timing_types.specs.declared.clocks.Clock.{Clock}
use Rattle.mode_model.specs.ClockGroups.{place_from}

-- the map has the places of these clocks
abbrev pub HasPlaces : {A : Type 0} → BTreeMap (String A) ℕ → List Clock → Type 0
HasPlaces places clocks = (name : List ℕ) → get_by_text places name ≡ place_from 0 clocks name
