-- The name has the number, and the names with lesser numbers are taken.
use Rattle.std.proofs.Common.{◌≡◌, ◌+◌, ◌-◌, ◌≤◌, length}
use Rattle.merge_model.specs.ClockIdentity.{numbered_name}
use Rattle.clock_map.proofs.NameLists.{TakenBelow}
use Rattle.clock_map.proofs.names.free_name.Given as goal

abbrev pub invariant-loop-alloc : goal.invariant-loop-alloc
invariant-loop-alloc l = record {
  positive : 1 ≤ l.k;
  name : l.name ≡ numbered_name l.first l.k;
  taken : TakenBelow l.own.keys l.earlier.keys l.first l.k;
  most : l.most ≡ length l.own.keys + length l.earlier.keys;
  bound : l.k ≤ l.most + 1;
}

abbrev pub decreases-loop-alloc : goal.decreases-loop-alloc
decreases-loop-alloc l = l.most + 1 - l.k
