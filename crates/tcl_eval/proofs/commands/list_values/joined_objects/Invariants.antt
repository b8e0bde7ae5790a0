use Rattle.std.proofs.Common.{◌≡◌, drop}
use Rattle.tcl_model.specs.BuiltIns.{joined_objects}
use Rattle.tcl_eval.proofs.ListRuns.{joined_after}
use Rattle.tcl_eval.proofs.commands.list_values.joined_objects.Given as goal

-- the objects so far, and those of the values that are left, are those of all
abbrev pub invariant-loop-value : goal.invariant-loop-value
invariant-loop-value l = joined_after l.all (drop l.value-index l.values) ≡ joined_objects l.values
