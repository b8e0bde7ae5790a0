-- Which value is forced, where it is known which values are taken. This project's own.
use Rattle.std.specs.Prelude.{Bool, true, false, Option, Some, None}

-- the one value that is taken, where it is one
abbrev pub only_value : Bool → Bool → Option Bool
only_value false false = None
only_value false true = Some true
only_value true false = Some false
only_value true true = None
