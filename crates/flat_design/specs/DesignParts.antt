-- The nets, cells and pins of a design, made of their names and what is beside these. This project's own words.
use Rattle.std.specs.Prelude.{ℕ, List, map}
use Rattle.std.specs.List.{zip}
use Rattle.timing_types.specs.declared.designs.NetInfo.{NetInfo}
use Rattle.timing_types.specs.declared.designs.PinInfo.{PinInfo}
use Rattle.timing_types.specs.declared.designs.Source.{Source}
use Rattle.flat_design.specs.declared.assemble.pin_rows.PinRow.{PinRow}

abbrev pub net_info : List ℕ × Source → NetInfo
net_info pair = record { name = pair.0; source = pair.1 }

abbrev pub net_infos : List (List ℕ) → List Source → List NetInfo
net_infos names ends = map net_info (zip names ends)

abbrev pub pin_info : List ℕ × PinRow → PinInfo
pin_info pair = record { name = pair.0; role = pair.1.role; cell = pair.1.cell; lib_pin = pair.1.lib_pin; driver = pair.1.driver }

abbrev pub pin_infos : List (List ℕ) → List PinRow → List PinInfo
pin_infos names rows = map pin_info (zip names rows)
