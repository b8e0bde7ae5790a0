use Rattle.std.proofs.Common.{◌≡◌, ◌++◌, drop}
use Rattle.lib_cells.specs.Members.{members_seen}
use Rattle.lib_cells.specs.Pins.{pins_in}
use Rattle.lib_cells.proofs.cell.pins.pins_in.Given as goal

abbrev pub invariant-loop-group : goal.invariant-loop-group
invariant-loop-group l = l.pins.items ++ pins_in (members_seen (drop l.group-index l.groups)) ≡ pins_in (members_seen l.groups)
