use Rattle.std.proofs.Common.{◌≡◌, ◌++◌, drop}
use Rattle.tcl_eval.proofs.commands.list_values.add_objects.Given as goal

-- those so far, and the objects that are left, are all
abbrev pub invariant-loop-object : goal.invariant-loop-object
invariant-loop-object l = l.all ++ drop l.object-index l.objects ≡ l.initial.all ++ l.objects
