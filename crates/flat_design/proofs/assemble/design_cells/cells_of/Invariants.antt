-- The cells of the names so far.
use Rattle.std.proofs.Common.{length, take}
use Rattle.std.specs.List.{AllZip}
use Rattle.flat_model.specs.FlatDesign.{IsCell}
use Rattle.flat_design.specs.NamedFaults.{flat_of}
use Rattle.flat_design.proofs.assemble.design_cells.cells_of.Given as goal

abbrev pub invariant-loop-name : goal.invariant-loop-name
invariant-loop-name l = AllZip (IsCell l.design.library.now) (take (length l.yielded) (flat_of l.design).cells) l.cells
