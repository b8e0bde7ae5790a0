use Rattle.std.proofs.Common.{◌≡◌, ◌≤◌, ◌∷◌, ◌++◌, [], ap, length, length-append, arith}
use Rattle.sdc_cli.proofs.GroupPlaces.{CommandsBelow-grow}
use Rattle.sdc_cli.proofs.mode_so_far.ModeSoFar.with_clock.Goals as goal

pub invariant_of-result : goal.invariant_of-result
invariant_of-result c =
    let all : c.in_ok-clocks.clocks ≡ c.self.inside.clocks ++ c.args.clock ∷ [] = c.in_ok-clocks.ensures in
    let more : length c.self.inside.clocks ≤ length c.in_ok-clocks.clocks = omega (arith, simp length-append at (ap length all)) in
    CommandsBelow-grow (length c.self.inside.clocks) (length c.in_ok-clocks.clocks) c.self.inside.groups more c.self.invariant
