-- Parts of a cell that are left out.
use Rattle.std.proofs.Common.{◌≡◌, ◌∙◌, ◌||◌, Bool, List, [], ◌∷◌, refl, ap}
use Rattle.std.specs.List.{list_any}
use Rattle.library_model.specs.LibertyCells.{is_bus}
use Rattle.library_model.specs.LibertyStatements.{Member}
use Rattle.lib_cells.specs.Members.{members_seen}
use Rattle.lib_cells.specs.Pins.{is_bus_part}
use Rattle.lib_cells.specs.declared.syntax.members.Member.{Member as Held}

bus_is : (parts : List Held) → list_any is_bus_part parts ≡ list_any (λ (part : Member). is_bus part.statement) (members_seen parts)
bus_is [] = refl
bus_is (part ∷ parts) = ap (λ t. is_bus_part part || t) (bus_is parts)

pub bus_seen : (parts : List Held) (b : Bool) → b ≡ list_any is_bus_part parts → b ≡ list_any (λ (part : Member). is_bus part.statement) (members_seen parts)
bus_seen parts b e = e ∙ bus_is parts
