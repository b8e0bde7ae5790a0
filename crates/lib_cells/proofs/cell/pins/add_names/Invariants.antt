use Rattle.std.proofs.Common.{◌≡◌, ◌++◌, drop, map}
use Rattle.library_model.specs.LibertyCells as liberty
use Rattle.lib_cells.specs.Members.{member_seen}
use Rattle.lib_cells.proofs.cell.pins.add_names.Given as goal

abbrev pub invariant-loop-name : goal.invariant-loop-name
invariant-loop-name l =
    l.pins.items ++ map (liberty.named_pin (member_seen l.group)) (drop l.name-index l.names) ≡ l.fn.pins.items ++ map (liberty.named_pin (member_seen l.group)) l.names
