-- The design without a pin, over which clocks alone are read. This project's own.
-- It reads: nothing is in it, its top has the empty name, and its times are in nanoseconds.
use Rattle.std.specs.Prelude.{[], pos}
use Rattle.timing_types.specs.declared.designs.Design.{Design}

abbrev pub empty_design : Design
empty_design = record { top = []; unit = pos 1000000; pins = []; cells = []; nets = []; kinds = [] }
