-- Types of timing of the code, as the definitions of `timing` groups have them (Liberty). This project's own.
use Rattle.library_model.specs.LibertyTiming as liberty
use Rattle.lib_cells.specs.declared.cell.timing.Timing.{Timing}
use Rattle.lib_cells.specs.declared.cell.timing.Timing.TheVariants as timing

abbrev pub timing_seen : Timing → liberty.Timing
timing_seen (timing.CellArc to_rise to_fall) = liberty.cell_arc to_rise to_fall
timing_seen (timing.Launch edge) = liberty.launch edge
timing_seen (timing.Check side edge) = liberty.check side edge
timing_seen timing.PassedOver = liberty.passed_over
