-- The identities so far are those of the clocks so far.
use Rattle.std.proofs.Common.{◌≡◌, take, map}
use Rattle.merge_model.specs.ClockIdentity.{identity_among}
use Rattle.clock_map.proofs.ranks.mode_identities.Given as goal

abbrev pub invariant-loop-standing : goal.invariant-loop-standing
invariant-loop-standing l = l.identities ≡ map (identity_among l.standings) (take l.standing-index l.standings)
