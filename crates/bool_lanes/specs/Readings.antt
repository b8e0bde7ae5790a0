-- What a `Reading` of this crate stands for, and what stands before the next operand after each operator between
-- two. Liberty's binding, as `FunctionText` has it.
use Rattle.std.specs.Prelude.{reverse}
use Rattle.source_types.specs.declared.function_texts.Pending.{Pending}
use Rattle.pin_types.specs.declared.functions.Expr.{Expr}
use Rattle.function_model.specs.FunctionText as spec
use Rattle.function_model.specs.FunctionText.{after_and, after_or, after_xor}
use Rattle.bool_lanes.specs.declared.reading.Operator.{Operator}
use Rattle.bool_lanes.specs.declared.reading.Operator.TheVariants as operator
use Rattle.bool_lanes.specs.declared.reading.Reading.{Reading}

-- what is read so far, where the code keeps the outer parentheses first
abbrev pub seen : Reading → spec.Reading
seen r = record { operand = r.operand; pending = r.pending; outer = reverse r.outer.items }

abbrev pub after_of : Operator → Pending → Expr → Pending
after_of operator.Xor = after_xor
after_of operator.And = after_and
after_of operator.Or = after_or
