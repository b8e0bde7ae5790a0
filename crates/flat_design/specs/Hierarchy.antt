-- A design's hierarchy: modules, a library, a top module, and the rows of what stands in it. This project's own words.
-- It reads: the rows are those of the design.
use Rattle.std.specs.Prelude.{◌≡◌, ◌++◌, ℕ, List, [], map, codes, slice_get, Option, Some}
use Rattle.std.specs.List.{flat_map}
use Rattle.pin_types.specs.declared.library_cells.LibPin.{LibPin}
use Rattle.source_types.specs.declared.netlists.Port.{Port}
use Rattle.source_types.specs.declared.netlists.Range.{Range}
use Rattle.source_types.specs.declared.netlists.Wire.{Wire}
use Rattle.flat_model.specs.FlatDesign.{FlatPin, flat}
use Rattle.flat_model.specs.FlatNets.{bit_name}
use Rattle.flat_model.specs.Instances.{PlacedCell, ModuleInstance, cells_of, full_name, scopes_of}
use Rattle.netlist_model.specs.Ranges.{indices}
use Rattle.text_model.specs.Names.{AreDistinct}
use Rattle.netlist_model.specs.WellFormedNetlist.{IsWellFormedModule}
use Rattle.flat_design.specs.declared.elaborate.hierarchy.Hierarchy.{Hierarchy}
use Rattle.flat_design.specs.Elaboration.{IsElaboration}

-- in each module instance, nets are distinct by their names
abbrev pub HaveDistinctNets : List ModuleInstance → Type 0
HaveDistinctNets scopes =
    (place : ℕ) (scope : ModuleInstance) → slice_get scopes place ≡ Some scope → AreDistinct (map (λ (net : Wire). net.name) scope.body.nets)

-- each module instance is well-formed
abbrev pub AreFormed : List ModuleInstance → Type 0
AreFormed scopes = (place : ℕ) (scope : ModuleInstance) → slice_get scopes place ≡ Some scope → IsWellFormedModule scope.body

pub record IsHierarchy (design : Hierarchy) : Type 0 where
  pub elaboration : IsElaboration design.modules.now design.library.now design.top.now design.elaboration
  pub distinct : HaveDistinctNets (scopes_of design.modules.now design.top.now)
  pub formed : AreFormed (scopes_of design.modules.now design.top.now)

abbrev pub scopes_in : Hierarchy → List ModuleInstance
scopes_in design = scopes_of design.modules.now design.top.now

abbrev pub cells_in : Hierarchy → List PlacedCell
cells_in design = cells_of design.modules.now design.library.now design.top.now

abbrev pub prefix_in : ModuleInstance → List ℕ
prefix_in scope = scope.prefix

-- the names of the bits of a net or a port in a module with a prefix
abbrev pub bit_names : List ℕ → List ℕ → Option Range → List (List ℕ)
bit_names prefix name range = map (λ (index : Option ℕ). prefix ++ bit_name name index) (indices range)

abbrev pub wire_names : List ℕ → Wire → List (List ℕ)
wire_names prefix wire = bit_names prefix wire.name wire.range

abbrev pub cell_name : PlacedCell → List ℕ
cell_name cell = full_name cell.placed

-- ---- pins

-- the names of the port bits of a top module
abbrev pub port_names : List Port → List (List ℕ)
port_names ports = flat_map (λ (port : Port). bit_names [] port.name port.range) ports

-- the names of the pins of a cell of a name
abbrev pub pin_names_in : List ℕ → List LibPin → List (List ℕ)
pin_names_in cell pins = map (λ (pin : LibPin). cell ++ (codes "/" ++ pin.name)) pins

-- all pins of a design
abbrev pub pins_of_design : Hierarchy → List FlatPin
pins_of_design design = (flat design.modules.now design.library.now design.top.now).pins
