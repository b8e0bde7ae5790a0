-- The components are kept, and what waits are nets.
use Rattle.std.proofs.Common.{◌≡◌, ◌<◌, ℕ, length}
use Rattle.std.specs.List.{All}
use Rattle.flat_design.specs.Cycles.{Keeps, to_follow}
use Rattle.flat_design.proofs.drivers.cycles.Components.close.Given as goal

abbrev pub invariant-loop-net : goal.invariant-loop-net
invariant-loop-net l = record {
  keeps : Keeps l.initial.self l.self;
  same : to_follow l.self ≡ to_follow l.initial.self;
  waiting : All (λ (net : ℕ). net < length l.self.numbers.items) l.self.waiting.items;
}

abbrev pub decreases-loop-net : goal.decreases-loop-net
decreases-loop-net l = length l.self.waiting.items
