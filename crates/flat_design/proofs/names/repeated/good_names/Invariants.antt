-- The names so far.
use Rattle.std.proofs.Common.{◌≡◌, map, take}
use Rattle.text_model.specs.Names.{is_good_name}
use Rattle.flat_design.proofs.names.repeated.good_names.Given as goal

abbrev pub invariant-loop-name : goal.invariant-loop-name
invariant-loop-name l = l.good ≡ map is_good_name (take l.name-index l.names)
