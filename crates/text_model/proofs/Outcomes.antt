-- An outcome is a value or a fault, and has one value.
use Rattle.std.proofs.Common.{◌≡◌, Result, Ok, Err}

pub ok_err : {T E : Type 0} (value : T) (fault : E) → ◌≡◌ {A = Result T E} (Ok value) (Err fault) → ⊥
ok_err value fault is = cc

pub same_ok : {T E : Type 0} (value other : T) → ◌≡◌ {A = Result T E} (Ok value) (Ok other) → value ≡ other
same_ok value other is = cc
