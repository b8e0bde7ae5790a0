-- The names so far have their places.
use Rattle.std.proofs.Common.{map, take}
use Rattle.flat_design.specs.Names.{IsTable}
use Rattle.flat_design.proofs.names.named.table.Given as goal

abbrev pub invariant-loop-place : goal.invariant-loop-place
invariant-loop-place g l = IsTable l.table (map g.T.Named.name (take l.place l.things))
