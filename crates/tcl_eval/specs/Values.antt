-- The numbers of both sides of an operator, as this crate reads them at once. This project's own.
use Rattle.std.specs.Prelude.{Result, Ok, Err}
use Rattle.sdc_base.specs.Number.{Number}
use Rattle.source_types.specs.declared.kinds.TclKind.{TclKind}

-- the left one first
abbrev pub with_left : Number → Result Number TclKind → Result (Number × Number) TclKind
with_left a (Ok b) = Ok (a, b)
with_left a (Err fault) = Err fault

abbrev pub both_numbers : Result Number TclKind → Result Number TclKind → Result (Number × Number) TclKind
both_numbers (Ok a) right = with_left a right
both_numbers (Err fault) right = Err fault
