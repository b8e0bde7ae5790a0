use Rattle.std.proofs.Common.{◌≡◌, ◌++◌, drop}
use Rattle.lib_cells.specs.Members.{members_seen}
use Rattle.lib_cells.specs.Pins.{states_among}
use Rattle.lib_cells.proofs.cell.pins.states_among.Given as goal

abbrev pub invariant-loop-group : goal.invariant-loop-group
invariant-loop-group l = l.states ++ states_among (members_seen (drop l.group-index l.parts)) ≡ states_among (members_seen l.parts)
