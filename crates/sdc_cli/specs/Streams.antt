-- What the calls of the adapters do to the files and the streams of the operating system that they hold, for any files
-- and streams whose bytes are known. This project's own.
use Rattle.std.specs.Prelude.{◌≡◌, ℕ, List, Option, Some, None, Result, Ok, Err}
use Rattle.std.specs.Io.KnownBytes.{ReadConsumes, WriteAppends}
use Rattle.std.specs.Option.{option_and_then}
use Rattle.sdc_base.specs.declared.outside.Channel.{Channel}
use Rattle.sdc_base.specs.declared.outside.Channel.TheVariants.{Report, Faults, Merged}

-- an error, and no value
abbrev pub IsRefused : {T E : Type 0} → Result T E → Type 0
IsRefused (Ok _) = ⊥
IsRefused (Err _) = Unit {0}

-- what opening a file answers and leaves: the file that was opened is the one that is held, or the one held before stays
abbrev pub Holds : {File E F : Type 0} → Result File E → Result Unit F → Option File → Option File → Type 0
Holds (Ok file) (Ok _) before after = after ≡ Some file
Holds (Ok file) (Err _) before after = ⊥
Holds (Err _) (Ok _) before after = ⊥
Holds (Err _) (Err _) before after = after ≡ before

-- what the file that is held gives: as many bytes as were answered, and none only at its end; with no file it is an error
abbrev pub ReadsHeld : {File E : Type 0} → (File → Option (List ℕ)) → Result ℕ E → List ℕ → Option File → Option File → Type 0
ReadsHeld remaining answer buffer None None = IsRefused answer
ReadsHeld remaining answer buffer None (Some after) = ⊥
ReadsHeld remaining answer buffer (Some before) None = ⊥
ReadsHeld remaining answer buffer (Some before) (Some after) = ReadConsumes (remaining before) (remaining after) answer buffer

-- the stream of the channel takes as many bytes of the piece as were answered; any other stream is as it was
abbrev pub WritesOwn : {Stream E : Type 0} → (Stream → Option (List ℕ)) → Channel → Channel → Result ℕ E → List ℕ → Stream → Stream → Type 0
WritesOwn contents Report Report answer piece before after = WriteAppends (contents before) (contents after) answer piece
WritesOwn contents Faults Faults answer piece before after = WriteAppends (contents before) (contents after) answer piece
WritesOwn contents own channel answer piece before after = after ≡ before

-- and so does the file of Merged; with no file it is an error
abbrev pub WritesFile : {File E : Type 0} → (File → Option (List ℕ)) → Channel → Result ℕ E → List ℕ → Option File → Option File → Type 0
WritesFile contents Merged answer piece None None = IsRefused answer
WritesFile contents Merged answer piece None (Some after) = ⊥
WritesFile contents Merged answer piece (Some before) None = ⊥
WritesFile contents Merged answer piece (Some before) (Some after) = WriteAppends (contents before) (contents after) answer piece
WritesFile contents channel answer piece before after = after ≡ before
