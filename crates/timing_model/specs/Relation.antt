-- The setup and the hold relation of a launch edge and a capture edge, by this project's own rule.
-- A clock of period p with an edge at a has edges at a, a + p, a + 2 p and so on; times are whole femtoseconds.
-- It reads: of all differences between a capture edge and a launch edge, setup is the least one above 0, hold the
-- greatest one that is not.
use Rattle.std.specs.Prelude.{◌≡◌, ℕ, ◌*◌, ◌^◌, ℤ, pos, ◌+ℤ◌, ◌-ℤ◌, ◌*ℤ◌, ◌≤ℤ◌, ◌<ℤ◌}
use Rattle.timing_types.specs.declared.edge_times.Relation.{Relation}

-- an edge of a clock as the tool takes them: a time from 0 to 2 * 10^12, a period from 1 to 10^12
abbrev pub IsEdgeOf : ℤ → ℤ → Type 0
IsEdgeOf time period =
    (pos 0 ≤ℤ time) × (time ≤ℤ pos (2 * 10 ^ 12)) × (pos 1 ≤ℤ period) × (period ≤ℤ pos (10 ^ 12))

-- some capture edge, at b + j q, comes d after some launch edge, at a + i p
abbrev pub IsSeparation : ℤ → ℤ → ℤ → ℤ → ℤ → Type 0
IsSeparation a p b q d = (i : ℕ) × (j : ℕ) × ((b +ℤ (pos j *ℤ q)) -ℤ (a +ℤ (pos i *ℤ p)) ≡ d)

-- the least gap above 0
abbrev pub IsSetup : ℤ → ℤ → ℤ → ℤ → ℤ → Type 0
IsSetup a p b q setup =
    IsSeparation a p b q setup × (pos 0 <ℤ setup) × ((d : ℤ) → IsSeparation a p b q d → pos 0 <ℤ d → setup ≤ℤ d)

-- the greatest gap that is not above 0
abbrev pub IsHold : ℤ → ℤ → ℤ → ℤ → ℤ → Type 0
IsHold a p b q hold =
    IsSeparation a p b q hold × (hold ≤ℤ pos 0) × ((d : ℤ) → IsSeparation a p b q d → d ≤ℤ pos 0 → d ≤ℤ hold)

-- the relation of a launch edge at a, of period p, and a capture edge at b, of period q
pub record IsRelation (a p b q : ℤ) (relation : Relation) : Type 0 where
  pub setup : IsSetup a p b q relation.setup
  pub hold : IsHold a p b q relation.hold
