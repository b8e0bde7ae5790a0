-- What mode files say, read one after the other: all their modes, or the first fault with its line. This project's own.
-- Of one file first its length counts, then what it says, then the number of clocks of the files so far: one that
-- passes the most has the line of its first clock beyond them. A file that is too long has line 0.
use Rattle.std.specs.Prelude.{◌≡◌, ◌+◌, ◌<◌, ◌≤◌, ◌⊎◌, ℕ, suc, List, [], ◌∷◌, length, Option, Some, None, Result, Ok, Err}
use Rattle.sdc_base.specs.declared.memory.At.{At}
use Rattle.sdc_base.specs.declared.outside.NamedBytes.{NamedBytes}
use Rattle.sdc_base.specs.declared.whole.TheConstants.{MOST_BYTES}
use Rattle.sdc_base.specs.Files.{bytes_of}
use Rattle.timing_types.specs.declared.clocks.Clock.{Clock}
use Rattle.source_types.specs.declared.kinds.Kind.{Kind}
use Rattle.source_types.specs.declared.kinds.Kind.TheVariants.{Sdc, TooLong}
use Rattle.source_types.specs.declared.kinds.SdcKind.TheVariants.{TooMany}
use Rattle.source_types.specs.declared.kinds.Fault.{Fault}
use Rattle.timing_types.specs.declared.modes.Mode.{Mode}
use Rattle.mode_model.specs.ModeMeaning.{Said, SaysMode}
use Rattle.constraint_model.specs.RunLimits.{line_beyond}

-- a mode, or that it has a clock beyond the most, on this line
abbrev pub or_too_many : Mode → Option ℕ → Said
or_too_many mode None = Ok mode
or_too_many mode (Some line) = Err (record { line = line; kind = Sdc TooMany })

-- a mode, where the clocks so far and its own are not too many
abbrev pub within_limit : ℕ → ℕ → Said → Said
within_limit most count (Err fault) = Err fault
within_limit most count (Ok mode) = or_too_many mode (line_beyond (λ (clock : Clock). clock.line) (λ clock. 1) most count mode.clocks)

-- what one file says, where so many clocks were read before it
abbrev pub SaysFile : ℕ → ℕ → List ℕ → Said → Type 0
SaysFile most count bytes outcome =
    ((MOST_BYTES < length bytes) × (outcome ≡ Err (record { line = 0; kind = TooLong })))
    ⊎ ((length bytes ≤ MOST_BYTES) × ((said : Said) × SaysMode bytes said × (outcome ≡ within_limit most count said)))

-- a mode in front of those of the other files, or their fault
abbrev pub with_first : Mode → Result (List Mode) Fault → Result (List Mode) Fault
with_first mode (Ok modes) = Ok (mode ∷ modes)
with_first mode (Err fault) = Err fault

-- a fault of the file of a place
abbrev pub fault_of : ℕ → At Kind → Fault
fault_of place fault = record { file = place; line = fault.line; kind = fault.kind }

-- a fault of the file at this place is the outcome; after a mode the other files decide
abbrev pub Continues : ℕ → Said → (Mode → Result (List Mode) Fault → Type 0) → Result (List Mode) Fault → Type 0
Continues place (Err fault) Others outcome = outcome ≡ Err (fault_of place fault)
Continues place (Ok mode) Others outcome = (others : Result (List Mode) Fault) × Others mode others × (outcome ≡ with_first mode others)

-- what the files of these names say, the first of them at a place of the words, after so many clocks
abbrev pub SayModes : ℕ → List NamedBytes → ℕ → ℕ → List (List ℕ) → Result (List Mode) Fault → Type 0
SayModes most files place count [] outcome = outcome ≡ Ok []
SayModes most files place count (name ∷ names) outcome =
    (file : Said) × SaysFile most count (bytes_of files name) file
    × Continues place file (λ mode. SayModes most files (suc place) (count + length mode.clocks) names) outcome
