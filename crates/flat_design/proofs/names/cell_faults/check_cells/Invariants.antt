-- No cell so far has a fault.
use Rattle.flat_model.specs.FlatDesign.{FlatCell}
use Rattle.flat_model.specs.FlatFaults.{CellHas}
use Rattle.flat_design.specs.NamedFaults.{HaveNoneBefore, flat_of}
use Rattle.flat_design.proofs.names.cell_faults.check_cells.Given as goal

abbrev pub invariant-loop-place : goal.invariant-loop-place
invariant-loop-place l = HaveNoneBefore FlatCell (CellHas (flat_of l.design)) (flat_of l.design).cells l.place
