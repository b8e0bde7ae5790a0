use Rattle.std.proofs.Common.{◌≡◌, ◌++◌, drop, map}
use Rattle.tcl_model.specs.BuiltIns.{one_object}
use Rattle.tcl_eval.proofs.commands.list_values.object_items.Given as goal

-- the values so far, and the objects that are left, are all
abbrev pub invariant-loop-object : goal.invariant-loop-object
invariant-loop-object l = l.values ++ map one_object (drop l.object-index l.objects) ≡ map one_object l.objects
