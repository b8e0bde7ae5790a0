-- Words for the pins and state variables of a cell (Liberty), beside the definitions. This project's own.
use Rattle.std.specs.Prelude.{ℕ, Bool, codes, List, [], filter, map, take, if◌then◌else◌}
use Rattle.std.specs.List.{flat_map}
use Rattle.pin_types.specs.declared.library_cells.Direction.{Direction}
use Rattle.library_model.specs.LibertyCells.{NamedPin, direction_named, has_state, is_bus, named_pin}
use Rattle.library_model.specs.LibertyStatements.{Member, arguments, last_value, members}
use Rattle.lib_cells.specs.Seen.{statement_seen}
use Rattle.lib_cells.specs.declared.syntax.members.Member.{Member as Held}

-- the state variables of a group, if it has any
abbrev pub states_in : Member → List (List ℕ)
states_in group = if has_state group.statement then take 2 (arguments group.statement) else []

-- the state variables of groups
abbrev pub states_among : List Member → List (List ℕ)
states_among parts =
    flat_map (λ (group : Member). take 2 (arguments group.statement)) (filter (λ (group : Member). has_state group.statement) parts)

-- the pins of `pin` groups
abbrev pub pins_in : List Member → List NamedPin
pins_in found = flat_map (λ (group : Member). map (named_pin group) (arguments group.statement)) found

-- a part of a cell is a group of pins that are left out
abbrev pub is_bus_part : Held → Bool
is_bus_part part = is_bus (statement_seen part.statement.now)

-- the direction that a `pin` group says
abbrev pub direction_said : Member → Direction
direction_said group = direction_named (last_value (codes "direction") (members 3 group.inside))
