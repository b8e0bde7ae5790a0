-- What an object of the trait Outputs means, where it tells it, and what each call does to that. This project's own.
-- There are three channels; the file after Merged has the name that the last `create` gave it.
use Rattle.std.specs.Prelude.{◌≡◌, ◌<◌, ◌++◌, ℕ, List, [], length, take, Option, Some, None, Result, Ok, Err}
use Rattle.sdc_base.specs.declared.outside.Channel.{Channel}
use Rattle.sdc_base.specs.declared.outside.Channel.TheVariants.{Report, Faults, Merged}
use Rattle.sdc_base.specs.declared.outside.Refusal.{Refusal}

-- what was written to each channel, and the name of the merged file
pub record Written : Type 0 where
  pub report : List ℕ
  pub faults : List ℕ
  pub merged : List ℕ
  pub name : List ℕ

-- the bytes at the end of a channel, and nothing else changed
abbrev pub appended : Channel → List ℕ → Written → Written
appended Report bytes written = record written { report = written.report ++ bytes }
appended Faults bytes written = record written { faults = written.faults ++ bytes }
appended Merged bytes written = record written { merged = written.merged ++ bytes }

-- `create`: Merged is empty and has the name, or all stays as it was. What is told at all never changes.
abbrev pub Creates : List ℕ → Result Unit Refusal → Option Written → Option Written → Type 0
Creates name answer None None = Unit {0}
Creates name answer None (Some after) = ⊥
Creates name answer (Some before) None = ⊥
Creates name (Ok _) (Some before) (Some after) = after ≡ record before { merged = []; name = name }
Creates name (Err _) (Some before) (Some after) = after ≡ before

-- `write`: the first bytes of the piece, as many as were answered, stand at the end of the channel, or all stays as it was
abbrev pub Writes : Channel → List ℕ → Result ℕ Refusal → Option Written → Option Written → Type 0
Writes channel piece answer None None = Unit {0}
Writes channel piece answer None (Some after) = ⊥
Writes channel piece answer (Some before) None = ⊥
Writes channel piece (Ok count) (Some before) (Some after) = after ≡ appended channel (take count piece) before
Writes channel piece (Err _) (Some before) (Some after) = after ≡ before

-- a front of the bytes stands at the end of the channel, and not all of them
abbrev pub AppendsFront : Channel → List ℕ → Written → Written → Type 0
AppendsFront channel bytes before after =
    (front rest : List ℕ) × (bytes ≡ front ++ rest) × (0 < length rest) × (after ≡ appended channel front before)

-- `write_all`: all bytes stand at the end of the channel, or after a refusal a front of them, and not all
abbrev pub WritesAll : Channel → List ℕ → Result Unit Refusal → Option Written → Option Written → Type 0
WritesAll channel bytes answer None None = Unit {0}
WritesAll channel bytes answer None (Some after) = ⊥
WritesAll channel bytes answer (Some before) None = ⊥
WritesAll channel bytes (Ok _) (Some before) (Some after) = after ≡ appended channel bytes before
WritesAll channel bytes (Err _) (Some before) (Some after) = AppendsFront channel bytes before after
