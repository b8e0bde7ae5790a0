-- The names so far have their sources.
use Rattle.std.proofs.Common.{◌≡◌}
use Rattle.flat_design.specs.DesignParts.{net_infos}
use Rattle.flat_design.proofs.assemble.design_nets.nets_of.Given as goal

abbrev pub invariant-loop-name : goal.invariant-loop-name
invariant-loop-name l = l.nets ≡ net_infos l.yielded l.ends
