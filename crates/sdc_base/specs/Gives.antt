-- How the answer of a call relates to what is meant. This project's own.
-- Want of memory is the one answer that is tied to nothing.
use Rattle.std.specs.Prelude.{◌≡◌, Result, Ok, Err}
use Rattle.sdc_base.specs.declared.memory.Stop.{Stop}
use Rattle.sdc_base.specs.declared.memory.Stop.TheVariants as stop

-- The answer is the value or the refusal that is meant, or memory ran out.
abbrev pub Gives : {T E : Type 0} → Result T (Stop E) → Result T E → Type 0
Gives (Ok x) meant = meant ≡ Ok x
Gives (Err (stop.Refused e)) meant = meant ≡ Err e
Gives (Err stop.NoMemory) meant = Unit {0}

-- The answer is an outcome that the relation has, or memory ran out.
abbrev pub Meets : {T E : Type 0} → Result T (Stop E) → (Result T E → Type 0) → Type 0
Meets (Ok x) Outcome = Outcome (Ok x)
Meets (Err (stop.Refused e)) Outcome = Outcome (Err e)
Meets (Err stop.NoMemory) Outcome = Unit {0}
