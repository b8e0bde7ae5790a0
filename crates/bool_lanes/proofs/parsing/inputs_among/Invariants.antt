use Rattle.std.proofs.Common.{◌≡◌, drop}
use Rattle.function_model.specs.FunctionMeaning.{inputs_among, with_inputs}
use Rattle.bool_lanes.proofs.parsing.inputs_among.Given as goal

abbrev pub invariant-loop-pin : goal.invariant-loop-pin
invariant-loop-pin l = with_inputs l.inputs l.seen (drop l.pin-index l.pins) ≡ inputs_among l.names l.pins
