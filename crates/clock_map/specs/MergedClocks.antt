-- What the steps of merging clocks leave: names in a set, and one merged clock more.
-- The same names stand in a set and in a list where each name is in both or in neither.
use Rattle.std.specs.Prelude.{◌≡◌, ◌<◌, ◌⊎◌, ◌↔◌, ℕ, List, [], ◌∷◌, ◌++◌, length, map, take, Some, slice_get}
use Rattle.std.specs.List.{All, Contains}
use Rattle.timing_types.specs.declared.clocks.Clock.{Clock}
use Rattle.timing_types.specs.declared.clocks.Wave.{Wave}
use Rattle.timing_types.specs.declared.identities.Standing.{Standing}
use Rattle.merge_model.specs.ClockIdentity.{IsMergedName, IsMerged, clock_with}
use Rattle.clock_map.specs.declared.merged.Merged.{Merged}
use Rattle.clock_map.specs.Numbering.{RisesTo}

abbrev pub HaveSameNames : List (List ℕ) → List (List ℕ) → Type 0
HaveSameNames names others = (name : List ℕ) → Contains names name ↔ Contains others name

-- the name is that of a mode's clock or of an earlier merged clock
abbrev pub IsTaken : List (List ℕ) → List (List ℕ) → List ℕ → Type 0
IsTaken own earlier name = Contains own name ⊎ Contains earlier name

-- one name more
abbrev pub HasOneMore : List (List ℕ) → List ℕ → List (List ℕ) → Type 0
HasOneMore before added after = (name : List ℕ) → Contains after name ↔ (Contains before name ⊎ (added ≡ name))

-- one merged clock more, whose first clock this is
pub record AddsMerged (own : List (List ℕ)) (first : Standing) (before after : Merged) : Type 0 where
  pub name : List ℕ
  pub name_is : IsMergedName own before.names.keys first.name name
  pub names : HasOneMore before.names.keys name after.names.keys
  pub clocks : after.clocks ≡ before.clocks ++ clock_with name first.definition ∷ []
  pub waves : after.waves ≡ before.waves ++ first.definition.wave ∷ []

-- numbers of which each stands before it, or is the next new one
abbrev pub Rises : List ℕ → Type 0
Rises numbers = (last : ℕ) × RisesTo 0 numbers last

-- these are the merged clocks, with their waves, of clocks with these numbers
pub record AreMerged (standings : List Standing) (numbers : List ℕ) (clocks : List Clock) (waves : List Wave) : Type 0 where
  pub long : length waves ≡ length clocks
  pub numbered : All (λ number. number < length clocks) numbers
  pub merged : (k : ℕ) (clock : Clock) (wave : Wave) → slice_get clocks k ≡ Some clock → slice_get waves k ≡ Some wave
      → IsMerged standings numbers (map (λ earlier. earlier.name) (take k clocks)) k clock wave
