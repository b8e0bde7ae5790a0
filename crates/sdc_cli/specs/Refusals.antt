-- What an answer of the operating system is in the terms of the traits of the outside. This project's own rule.
-- Want of memory stays want of memory, any other error is a failure; each error is one more in the count of faults.
use Rattle.std.specs.Prelude.{ℕ, Result, Ok, Err}
use Rattle.std.specs.IoError.{error_kind}
use Rattle.std.specs.declared.io.Error.{Error}
use Rattle.std.specs.declared.io.ErrorKind.{ErrorKind}
use Rattle.std.specs.declared.io.ErrorKind.TheVariants.{OutOfMemory}
use Rattle.sdc_base.specs.Counting.{next_count}
use Rattle.sdc_base.specs.declared.outside.Refusal.{Refusal}
use Rattle.sdc_base.specs.declared.outside.Refusal.TheVariants.{Failed, NoMemory}

-- the refusal for an error of this kind
abbrev pub refusal_of : ErrorKind → Refusal
refusal_of OutOfMemory = NoMemory
refusal_of _ = Failed

-- the same value, or the refusal for the error
abbrev pub answer_of : {T : Type 0} → Result T Error → Result T Refusal
answer_of (Ok value) = Ok value
answer_of (Err error) = Err (refusal_of (error_kind error))

-- the count of faults after a call with this answer
abbrev pub count_after : {T : Type 0} → Result T Error → ℕ → ℕ
count_after (Ok _) count = count
count_after (Err _) count = next_count count
