-- What each call of MemOutputs and of SureOutputs does, exactly. This project's own.
-- The number of a call is the count of calls after it, so that the first call has number 1.
use Rattle.std.specs.Prelude.{◌≡◌, ◌↔◌, ℕ, List, [], length, take, Option, Some, Result, Ok, Err, Bool, min, IsTrue}
use Rattle.sdc_base.specs.declared.outside.Channel.{Channel}
use Rattle.sdc_base.specs.declared.outside.Refusal.{Refusal}
use Rattle.sdc_base.specs.declared.outside.Refusal.TheVariants as refusal
use Rattle.sdc_base.specs.declared.memory_forms.MemOutputs.{MemOutputs}
use Rattle.sdc_base.specs.declared.memory_forms.SureOutputs.{SureOutputs}
use Rattle.sdc_base.specs.Counting.{is_listed, next_count}
use Rattle.sdc_base.specs.Channels.{Written, appended}

-- what stands in the channels of MemOutputs
abbrev pub mem_written : MemOutputs → Written
mem_written it = record { report = it.report; faults = it.faults_text; merged = it.merged; name = it.name }

-- what MemOutputs tells
abbrev pub mem_channels : MemOutputs → Option Written
mem_channels it = Some (mem_written it)

-- one more call of MemOutputs: what is to fail stays
pub record WritesCounted (before after : MemOutputs) : Type 0 where
  pub fail : after.fail ≡ before.fail
  pub most : after.most ≡ before.most
  pub calls : after.calls ≡ next_count before.calls

-- a call of MemOutputs fails where its number is listed
abbrev pub call_fails : MemOutputs → Bool
call_fails it = is_listed it.fail (next_count it.calls)

-- what MemOutputs tells then, and the count of its faults
pub record WritesLeave (written : Written) (count : ℕ) (after : MemOutputs) : Type 0 where
  pub contents : mem_written after ≡ written
  pub faults : after.faults ≡ count

-- how a `create` of MemOutputs ends, by its answer
abbrev pub MemCreateEnds : List ℕ → Result Unit Refusal → MemOutputs → MemOutputs → Type 0
MemCreateEnds name (Ok _) before after = WritesLeave (record (mem_written before) { merged = []; name = name }) before.faults after
MemCreateEnds name (Err refusal.Failed) before after = WritesLeave (mem_written before) (next_count before.faults) after
MemCreateEnds name (Err refusal.NoMemory) before after = WritesLeave (mem_written before) before.faults after

-- `create` of MemOutputs
pub record MemCreates (name : List ℕ) (answer : Result Unit Refusal) (before after : MemOutputs) : Type 0 where
  pub counted : WritesCounted before after
  pub failed : (answer ≡ Err refusal.Failed) ↔ IsTrue (call_fails before)
  pub ends : MemCreateEnds name answer before after

-- the first bytes of the piece, at most `most`, stand at the end of the channel
pub record MemTaken (channel : Channel) (piece : List ℕ) (count : ℕ) (before after : MemOutputs) : Type 0 where
  pub many : count ≡ min before.most (length piece)
  pub left : WritesLeave (appended channel (take count piece) (mem_written before)) before.faults after

-- how a `write` of MemOutputs ends, by its answer
abbrev pub MemWriteEnds : Channel → List ℕ → Result ℕ Refusal → MemOutputs → MemOutputs → Type 0
MemWriteEnds channel piece (Ok count) before after = MemTaken channel piece count before after
MemWriteEnds channel piece (Err refusal.Failed) before after = WritesLeave (mem_written before) (next_count before.faults) after
MemWriteEnds channel piece (Err refusal.NoMemory) before after = WritesLeave (mem_written before) before.faults after

-- `write` of MemOutputs
pub record MemWrites (channel : Channel) (piece : List ℕ) (answer : Result ℕ Refusal) (before after : MemOutputs) : Type 0 where
  pub counted : WritesCounted before after
  pub failed : (answer ≡ Err refusal.Failed) ↔ IsTrue (call_fails before)
  pub ends : MemWriteEnds channel piece answer before after

-- what stands in the channels of SureOutputs
abbrev pub sure_written : SureOutputs → Written
sure_written it = record { report = it.report; faults = it.faults_text; merged = it.merged; name = it.name }

-- what SureOutputs tells
abbrev pub sure_channels : SureOutputs → Option Written
sure_channels it = Some (sure_written it)

-- `create` of SureOutputs: want of memory changes nothing
abbrev pub SureCreates : List ℕ → Result Unit Refusal → SureOutputs → SureOutputs → Type 0
SureCreates name (Ok _) before after = after ≡ record before { merged = []; name = name }
SureCreates name (Err refusal.Failed) before after = ⊥
SureCreates name (Err refusal.NoMemory) before after = after ≡ before

-- the whole piece stands at the end of the channel
pub record SureTaken (channel : Channel) (piece : List ℕ) (count : ℕ) (before after : SureOutputs) : Type 0 where
  pub many : count ≡ length piece
  pub contents : sure_written after ≡ appended channel piece (sure_written before)

-- `write` of SureOutputs: want of memory changes nothing
abbrev pub SureWrites : Channel → List ℕ → Result ℕ Refusal → SureOutputs → SureOutputs → Type 0
SureWrites channel piece (Ok count) before after = SureTaken channel piece count before after
SureWrites channel piece (Err refusal.Failed) before after = ⊥
SureWrites channel piece (Err refusal.NoMemory) before after = after ≡ before
