-- What checking one mode finds. This project's own rule; the commands are SDC 2.1's.
-- It reads: notes on commands; lines of exceptions that match no candidate path, or win on none; clock nodes where no
-- clock arrives; ports without delays. Lines stand first, then pins, each kind once a line or a pin.
use Rattle.std.specs.Prelude.{◌≡◌, ◌<◌, ◌⊎◌, ◌↔◌, ℕ, true, List, [], ◌∷◌, Option, Some, None, slice_get}
use Rattle.std.specs.List.{Contains}
use Rattle.std.specs.Ordering.{nat_cmp, is_lt}
use Rattle.std.specs.Cmp.Lexicographic.{slice_cmp}
use Rattle.timing_types.specs.declared.constraints.Exception.{Exception}
use Rattle.timing_types.specs.declared.constraints.IoDelay.{IoDelay}
use Rattle.timing_types.specs.declared.graphs.Check.{Check}
use Rattle.timing_types.specs.declared.modes.Mode.{Mode}
use Rattle.timing_types.specs.declared.objects.NoteKind.{NoteKind}
use Rattle.timing_types.specs.declared.paths.Path.{Path}
use Rattle.pin_types.specs.declared.pins.ClockEdge.{ClockEdge}
use Rattle.pin_types.specs.declared.pins.Node.{Node}
use Rattle.pin_types.specs.declared.pins.Pin.{Pin}
use Rattle.timing_types.specs.declared.reports.Finding.{Finding}
use Rattle.timing_types.specs.declared.reports.FindingKind.{FindingKind}
use Rattle.timing_model.specs.Analysis.{Analysis}
use Rattle.timing_model.specs.Arrival.{IsAmongArrivals, IsSource}
use Rattle.timing_model.specs.Classes.{IsLaunchNode}
use Rattle.timing_model.specs.Matching.{Matches}
use Rattle.design_model.specs.DesignPins.{IsInputPort, IsOutputPort}
use Rattle.timing_model.specs.Timed.{IsCandidate}
use Rattle.constraint_model.specs.ListOrder.{Rises}
use Rattle.timing_model.specs.WinnerOnPath.{HasWinner}
use Rattle.timing_types.specs.declared.objects.NoteKind.TheVariants as note
use Rattle.timing_types.specs.declared.reports.FindingKind.TheVariants as kind

-- ---- lines of exceptions

-- an exception of a line, at its place
pub record IsOnLine (mode : Mode) (line place : ℕ) (exception : Exception) : Type 0 where
  pub is : slice_get mode.exceptions place ≡ Some exception
  pub line_is : exception.line ≡ line

abbrev pub HasExceptions : Mode → ℕ → Type 0
HasExceptions mode line = (place : ℕ) × (exception : Exception) × IsOnLine mode line place exception

-- an exception matches a candidate path of its side; it wins on one
abbrev pub MatchesCandidate : Analysis → Exception → Type 0
MatchesCandidate analysis exception =
    (path : Path) × IsCandidate analysis path exception.side × Matches exception exception.side path

abbrev pub WinsOnCandidate : Analysis → ℕ → Exception → Type 0
WinsOnCandidate analysis place exception =
    (path : Path) × IsCandidate analysis path exception.side × HasWinner analysis path exception.side (Some place)

-- some exception of a line matches a candidate path; some wins on one
abbrev pub LineMatches : Analysis → ℕ → Type 0
LineMatches analysis line = (place : ℕ) × (exception : Exception)
    × IsOnLine analysis.mode line place exception × MatchesCandidate analysis exception

abbrev pub LineWins : Analysis → ℕ → Type 0
LineWins analysis line = (place : ℕ) × (exception : Exception)
    × IsOnLine analysis.mode line place exception × WinsOnCandidate analysis place exception

-- ---- pins

-- a node that a launch arc of the graph leaves, alive or not, or the clock node of a check
abbrev pub IsClocked : Analysis → Node → Type 0
IsClocked analysis node = IsLaunchNode analysis.graph node
    ⊎ ((check : Check) × Contains analysis.graph.checks check × (check.clock ≡ node))

abbrev pub IsUnclocked : Analysis → Pin → Type 0
IsUnclocked analysis pin = (node : Node) × (node.pin ≡ pin) × IsClocked analysis node
    × ((edge : ClockEdge) → IsAmongArrivals analysis.arrivals edge node → ⊥)

abbrev pub HasDelays : Mode → Pin → Type 0
HasDelays mode pin = (delay : IoDelay) × Contains mode.delays delay × (delay.port ≡ pin)

-- ---- findings

abbrev pub HasNote : Mode → ℕ → NoteKind → Type 0
HasNote mode line kind = Contains mode.notes (record { line = line; kind = kind })

-- a kind is found at a line; at a pin
abbrev pub IsFoundAtLine : Analysis → FindingKind → ℕ → Type 0
IsFoundAtLine analysis kind.NoEffect line = HasNote analysis.mode line note.NoEffect
IsFoundAtLine analysis kind.NotAnEnd line = HasNote analysis.mode line note.NotAnEnd
IsFoundAtLine analysis kind.NoClock line = HasNote analysis.mode line note.NoClock
IsFoundAtLine analysis kind.Unmatched line = HasExceptions analysis.mode line × (LineMatches analysis line → ⊥)
IsFoundAtLine analysis kind.Shadowed line = LineMatches analysis line × (LineWins analysis line → ⊥)
IsFoundAtLine analysis other line = ⊥

abbrev pub IsFoundAtPin : Analysis → FindingKind → Pin → Type 0
IsFoundAtPin analysis kind.Unclocked pin = IsUnclocked analysis pin
IsFoundAtPin analysis kind.InputWithoutDelay pin =
    IsInputPort analysis.design pin.0 × (IsSource analysis.mode.clocks pin → ⊥) × (HasDelays analysis.mode pin → ⊥)
IsFoundAtPin analysis kind.OutputWithoutDelay pin = IsOutputPort analysis.design pin.0 × (HasDelays analysis.mode pin → ⊥)
IsFoundAtPin analysis other pin = ⊥

abbrev pub IsFoundAt : Analysis → FindingKind → Option ℕ → Option Pin → Type 0
IsFoundAt analysis kind (Some line) None = IsFoundAtLine analysis kind line
IsFoundAt analysis kind None (Some pin) = IsFoundAtPin analysis kind pin
IsFoundAt analysis kind line pin = ⊥

abbrev pub IsFinding : Analysis → Finding → Type 0
IsFinding analysis finding = IsFoundAt analysis finding.kind finding.line finding.pin

-- ---- the list

abbrev pub kind_number : FindingKind → ℕ
kind_number kind.NoEffect = 0
kind_number kind.NotAnEnd = 1
kind_number kind.NoClock = 2
kind_number kind.Unmatched = 3
kind_number kind.Shadowed = 4
kind_number kind.Unclocked = 5
kind_number kind.InputWithoutDelay = 6
kind_number kind.OutputWithoutDelay = 7

-- a line, or a pin after all lines
abbrev pub place_numbers : Option ℕ → Option Pin → List ℕ
place_numbers (Some line) pin = 0 ∷ line ∷ []
place_numbers None (Some pin) = 1 ∷ pin.0 ∷ []
place_numbers None None = []

abbrev pub FindingBefore : Finding → Finding → Type 0
FindingBefore finding other = (is_lt (slice_cmp nat_cmp (place_numbers finding.line finding.pin) (place_numbers other.line other.pin)) ≡ true)
    ⊎ ((place_numbers finding.line finding.pin ≡ place_numbers other.line other.pin)
    × (kind_number finding.kind < kind_number other.kind))

-- the findings of a mode, in order, each once
pub record AreFindings (analysis : Analysis) (findings : List Finding) : Type 0 where
  pub members : (finding : Finding) → Contains findings finding ↔ IsFinding analysis finding
  pub order : Rises FindingBefore findings
