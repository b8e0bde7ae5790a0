use Rattle.std.proofs.Common.{◌≡◌, drop}
use Rattle.std.specs.Prelude.{option_and_then}
use Rattle.function_model.specs.FunctionText.{ended, expression, steps}
use Rattle.bool_lanes.specs.Readings.{seen}
use Rattle.bool_lanes.proofs.reading.expression.Given as goal

abbrev pub invariant-loop-byte : goal.invariant-loop-byte
invariant-loop-byte l =
    option_and_then (ended l.names) (steps l.names (drop l.byte-index l.text) (seen l.reading)) ≡ expression l.names l.text
