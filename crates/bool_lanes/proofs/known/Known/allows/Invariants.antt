use Rattle.function_model.specs.FunctionValue.{AgreesBelow}
use Rattle.bool_lanes.proofs.known.Known.allows.Given as goal

abbrev pub invariant-loop-pin : goal.invariant-loop-pin
invariant-loop-pin l = AgreesBelow l.self.mask l.self.value l.completion l.pin
