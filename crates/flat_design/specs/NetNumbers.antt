-- The numbers of nets. This project's own words.
-- It reads: the number of a net bit is its place among all net bits of a design.
use Rattle.std.specs.Prelude.{◌≡◌, ℕ, List, [], ◌∷◌, map, slice_get, Some}
use Rattle.std.specs.List.{flat_map}
use Rattle.source_types.specs.declared.netlists.Wire.{Wire}
use Rattle.flat_model.specs.FlatNets.{NetBit, bit_of, nets_in}
use Rattle.flat_model.specs.Instances.{ModuleInstance}
use Rattle.netlist_model.specs.Ranges.{width}
use Rattle.flat_design.specs.declared.drivers.net_numbers.NetTable.{NetTable}
use Rattle.flat_design.specs.Elaboration.{capped}
use Rattle.flat_design.specs.Names.{IsTable}

-- the numbers of the first bits of nets, from a number on
abbrev pub net_starts : ℕ → List Wire → List ℕ
net_starts start [] = []
net_starts start (net ∷ nets) = start ∷ net_starts (capped start (width net.range)) nets

abbrev pub net_names : List Wire → List (List ℕ)
net_names nets = map (λ (net : Wire). net.name) nets

pub record IsNetTable (nets : List Wire) (found : NetTable) : Type 0 where
  pub places : IsTable found.places (net_names nets)
  pub starts : found.starts ≡ net_starts 0 nets

abbrev pub IsNumber : List ModuleInstance → ℕ → NetBit → Type 0
IsNumber scopes number bit = slice_get (map bit_of (flat_map nets_in scopes)) number ≡ Some bit
