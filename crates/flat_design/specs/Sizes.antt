-- How much stands in the modules of a design and below them, each module counted once. This project's own words.
-- It reads: a size has the instances, the net bits and the pins of cells in a module and below it, as far as a design
-- may have; an order of modules gives each its size by those of the modules that it instantiates.
use Rattle.std.specs.Prelude.{◌||◌, ◌<◌, ℕ, Bool, List, [], ◌∷◌, length, get_or, nat_lt, replicate, set, slice_get, Option, Some, None}
use Rattle.source_types.specs.declared.libraries.Library.{Library}
use Rattle.pin_types.specs.declared.library_cells.LibCell.{LibCell}
use Rattle.flat_design.specs.declared.elaborate.sizes.Size.{Size}
use Rattle.flat_design.specs.declared.elaborate.walk.Step.{Step}
use Rattle.flat_design.specs.declared.elaborate.walk.Step.TheVariants as step
use Rattle.flat_design.specs.Elaboration.{capped}
use Rattle.flat_design.specs.Walk.{steps_of}

-- an instance of a library cell is of one that there is
abbrev pub IsKind : ℕ → Step → Type 0
IsKind count (step.Fault kind) = Unit {0}
IsKind count (step.Cell kind) = kind < count
IsKind count (step.Enter entered fits) = Unit {0}

-- ---- what an instance adds

abbrev pub no_size : Size
no_size = record { instances = 0; nets = 0; pins = 0 }

abbrev pub joined : Size → Size → Size
joined a b = record { instances = capped a.instances b.instances; nets = capped a.nets b.nets; pins = capped a.pins b.pins }

-- an instance with so many pins
abbrev pub cell_size : ℕ → Size
cell_size pins = record { instances = 1; nets = 0; pins = pins }

-- an instance of a module of a size
abbrev pub inner_size : Size → Size
inner_size size = record { instances = capped 1 size.instances; nets = size.nets; pins = size.pins }

abbrev pub pins_of_kind : Option LibCell → ℕ
pins_of_kind None = 0
pins_of_kind (Some cell) = length cell.pins

abbrev pub step_size : Library → List Size → Step → Size
step_size library sizes (step.Fault kind) = cell_size 0
step_size library sizes (step.Cell kind) = cell_size (pins_of_kind (slice_get library.cells kind))
step_size library sizes (step.Enter entered fits) = inner_size (get_or sizes entered no_size)

-- ---- modules

-- a size and what instances add to it
abbrev pub with_steps : Library → List Size → Size → List Step → Size
with_steps library sizes size [] = size
with_steps library sizes size (one ∷ rest) = with_steps library sizes (joined size (step_size library sizes one)) rest

-- a module with so many net bits and these instances
abbrev pub module_size : Library → List Size → ℕ → List Step → Size
module_size library sizes nets steps = with_steps library sizes (record { instances = 0; nets = nets; pins = 0 }) steps

-- one module more has its size
abbrev pub with_size : Library → List (List Step) → List ℕ → List Size → ℕ → List Size
with_size library all counts sizes m = set sizes m (module_size library sizes (get_or counts m 0) (steps_of all m))

-- modules have their sizes one after the other
abbrev pub sizes_along : Library → List (List Step) → List ℕ → List Size → List ℕ → List Size
sizes_along library all counts sizes [] = sizes
sizes_along library all counts sizes (m ∷ rest) = sizes_along library all counts (with_size library all counts sizes m) rest

-- the sizes of modules in their order
abbrev pub sizes_in : Library → List (List Step) → List ℕ → List ℕ → List Size
sizes_in library all counts order = sizes_along library all counts (replicate (length all) no_size) order

-- ---- limits

-- more than 1,000,000 pins with those of ports, 4,000,000 nets, or 4,000,000 instances
abbrev pub is_beyond : ℕ → Size → Bool
is_beyond ports size = (nat_lt 1000000 (capped ports size.pins) || nat_lt 4000000 size.nets) || nat_lt 4000000 size.instances

-- a top module with so many port bits has a size beyond the limits
abbrev pub is_counted_beyond : Library → List (List Step) → List ℕ → List ℕ → ℕ → ℕ → Bool
is_counted_beyond library all counts order top ports = is_beyond ports (get_or (sizes_in library all counts order) top no_size)
