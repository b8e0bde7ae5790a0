-- What each call of MemInputs and of SureInputs does, exactly. This project's own.
-- The number of a call is the count of calls after it, so that the first call has number 1.
use Rattle.std.specs.Prelude.{◌≡◌, ◌+◌, ◌++◌, ◌↔◌, ℕ, List, length, take, drop, Option, Some, None, Result, Ok, Err, Bool, true, ◌||◌, not, nat_eq, min, if◌then◌else◌, IsTrue}
use Rattle.std.specs.List.{list_any}
use Rattle.std.specs.Cmp.Lexicographic.{pointwise}
use Rattle.sdc_base.specs.declared.outside.NamedBytes.{NamedBytes}
use Rattle.sdc_base.specs.declared.outside.Refusal.{Refusal}
use Rattle.sdc_base.specs.declared.outside.Refusal.TheVariants as refusal
use Rattle.sdc_base.specs.declared.memory_forms.MemInputs.{MemInputs}
use Rattle.sdc_base.specs.declared.memory_forms.SureInputs.{SureInputs}
use Rattle.sdc_base.specs.Counting.{is_listed, next_count}
use Rattle.sdc_base.specs.Files.{Reading, bytes_of}

-- whether there is a file of a name
abbrev pub has_file : List NamedBytes → List ℕ → Bool
has_file files name = list_any (λ (file : NamedBytes). pointwise nat_eq file.name name) files

-- what MemInputs tells
abbrev pub mem_files : MemInputs → Option Reading
mem_files it = Some (record { files = it.files; begun = if it.begun then Some it.name else None; offset = it.place })

-- one more call of MemInputs: the files and what is to fail stay
pub record ReadsCounted (before after : MemInputs) : Type 0 where
  pub files : after.files ≡ before.files
  pub fail : after.fail ≡ before.fail
  pub most : after.most ≡ before.most
  pub calls : after.calls ≡ next_count before.calls

-- the begun file of MemInputs and its offset stay, and the count of faults is this
pub record ReadsStay (count : ℕ) (before after : MemInputs) : Type 0 where
  pub name : after.name ≡ before.name
  pub place : after.place ≡ before.place
  pub begun : after.begun ≡ before.begun
  pub faults : after.faults ≡ count

-- the file of the name is begun from its start
pub record MemBegun (given : List ℕ) (before after : MemInputs) : Type 0 where
  pub name : after.name ≡ given
  pub place : after.place ≡ 0
  pub begun : after.begun ≡ true
  pub faults : after.faults ≡ before.faults

-- how a `begin` of MemInputs ends, by its answer
abbrev pub MemBeginEnds : List ℕ → Result Unit Refusal → MemInputs → MemInputs → Type 0
MemBeginEnds name (Ok _) before after = MemBegun name before after
MemBeginEnds name (Err refusal.Failed) before after = ReadsStay (next_count before.faults) before after
MemBeginEnds name (Err refusal.NoMemory) before after = ReadsStay before.faults before after

-- `begin` of MemInputs fails where its number is listed, and where no file has the name
abbrev pub begin_fails : List ℕ → MemInputs → Bool
begin_fails name it = is_listed it.fail (next_count it.calls) || not (has_file it.files name)

-- `begin` of MemInputs
pub record MemBegins (name : List ℕ) (answer : Result Unit Refusal) (before after : MemInputs) : Type 0 where
  pub counted : ReadsCounted before after
  pub failed : (answer ≡ Err refusal.Failed) ↔ IsTrue (begin_fails name before)
  pub ends : MemBeginEnds name answer before after

-- the bytes of the begun file of MemInputs that are still to be read
abbrev pub mem_left : MemInputs → List ℕ
mem_left it = drop it.place (bytes_of it.files it.name)

-- the next bytes stand at the front of the buffer, whose other bytes stay: at most `most`, the room and what is left
pub record MemNext (old new : List ℕ) (count : ℕ) (before after : MemInputs) : Type 0 where
  pub many : count ≡ min before.most (min (length old) (length (mem_left before)))
  pub copied : new ≡ take count (mem_left before) ++ drop count old
  pub name : after.name ≡ before.name
  pub place : after.place ≡ before.place + count
  pub begun : after.begun ≡ before.begun
  pub faults : after.faults ≡ before.faults

-- a failed `read` leaves the buffer too
pub record MemReadFails (old new : List ℕ) (before after : MemInputs) : Type 0 where
  pub buffer : new ≡ old
  pub stays : ReadsStay (next_count before.faults) before after

-- how a `read` of MemInputs ends, by its answer; it takes no memory
abbrev pub MemReadEnds : List ℕ → List ℕ → Result ℕ Refusal → MemInputs → MemInputs → Type 0
MemReadEnds old new (Ok count) before after = MemNext old new count before after
MemReadEnds old new (Err refusal.Failed) before after = MemReadFails old new before after
MemReadEnds old new (Err refusal.NoMemory) before after = ⊥

-- `read` of MemInputs fails where its number is listed, and where no file was begun
abbrev pub read_fails : MemInputs → Bool
read_fails it = is_listed it.fail (next_count it.calls) || not it.begun

-- `read` of MemInputs
pub record MemReads (old new : List ℕ) (answer : Result ℕ Refusal) (before after : MemInputs) : Type 0 where
  pub counted : ReadsCounted before after
  pub failed : (answer ≡ Err refusal.Failed) ↔ IsTrue (read_fails before)
  pub ends : MemReadEnds old new answer before after

-- what SureInputs tells: the file that its name names is begun
abbrev pub sure_files : SureInputs → Option Reading
sure_files it = Some (record { files = it.files; begun = Some it.name; offset = it.place })

-- the bytes of the begun file of SureInputs that are still to be read
abbrev pub sure_left : SureInputs → List ℕ
sure_left it = drop it.place (bytes_of it.files it.name)

-- `begin` of SureInputs: a missing name begins an empty file, and want of memory changes nothing
abbrev pub SureBegins : List ℕ → Result Unit Refusal → SureInputs → SureInputs → Type 0
SureBegins name (Ok _) before after = after ≡ record before { name = name; place = 0 }
SureBegins name (Err refusal.Failed) before after = ⊥
SureBegins name (Err refusal.NoMemory) before after = after ≡ before

-- the next bytes stand at the front of the buffer, whose other bytes stay: at most the room and what is left
pub record SureNext (old new : List ℕ) (count : ℕ) (before after : SureInputs) : Type 0 where
  pub many : count ≡ min (length old) (length (sure_left before))
  pub copied : new ≡ take count (sure_left before) ++ drop count old
  pub moved : after ≡ record before { place = before.place + count }

-- `read` of SureInputs: it never refuses
abbrev pub SureReads : List ℕ → List ℕ → Result ℕ Refusal → SureInputs → SureInputs → Type 0
SureReads old new (Ok count) before after = SureNext old new count before after
SureReads old new (Err _) before after = ⊥
