use Rattle.std.proofs.Common.{◌≡◌, ◌++◌, drop, map}
use Rattle.mode_model.specs.ClockCommands.{object_name}
use Rattle.sdc_cli.proofs.object_names.names_of.Given as goal

-- the names so far and those of the objects that are left are those of all objects
abbrev pub invariant-loop-object : goal.invariant-loop-object
invariant-loop-object l = l.names ++ map (object_name l.clocks) (drop l.object-index l.objects) ≡ map (object_name l.clocks) l.objects
