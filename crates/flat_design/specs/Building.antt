-- The design that a hierarchy is built to, or its first fault. This project's own words.
-- It reads: the faults of nets come before those of cells, and the design is the flat one where there is none.
use Rattle.std.specs.Prelude.{Result, Ok, Err}
use Rattle.sdc_base.specs.declared.memory.At.{At}
use Rattle.timing_types.specs.declared.designs.Design.{Design}
use Rattle.source_types.specs.declared.fault_kinds.DesignKind.{DesignKind}
use Rattle.flat_model.specs.FlatDesign.{IsFlatDesign}
use Rattle.flat_model.specs.Flattening.{FirstByName, FirstOfCells, NoneOfCells, NoneOfNets}
use Rattle.flat_design.specs.declared.elaborate.hierarchy.Hierarchy.{Hierarchy}
use Rattle.flat_design.specs.NamedFaults.{flat_of}

-- no cell has a fault, and this is the flat design; or the first fault of a cell
abbrev pub IsAssembled : Hierarchy → Result Design (At DesignKind) → Type 0
IsAssembled design (Ok built) = NoneOfCells (flat_of design) × IsFlatDesign design.library.now (flat_of design) built
IsAssembled design (Err first) = FirstOfCells (flat_of design) first

-- no net and no cell has a fault, and this is the flat design; or the first fault of a net or a cell
abbrev pub IsBuilt : Hierarchy → Result Design (At DesignKind) → Type 0
IsBuilt design (Ok built) =
    NoneOfNets (flat_of design) × NoneOfCells (flat_of design) × IsFlatDesign design.library.now (flat_of design) built
IsBuilt design (Err first) = FirstByName (flat_of design) first
