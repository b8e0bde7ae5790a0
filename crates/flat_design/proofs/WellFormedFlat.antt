-- A flat design without a fault is well-formed.
use Rattle.std.proofs.Common.{List, sym, subst}
use Rattle.sdc_base.specs.Time.{IsUnit}
use Rattle.timing_types.specs.declared.designs.Design.{Design}
use Rattle.source_types.specs.declared.libraries.Library.{Library}
use Rattle.source_types.specs.declared.netlists.Module.{Module}
use Rattle.flat_model.specs.FlatDesign.{IsFlatDesign, flat}
use Rattle.flat_model.specs.Flattening.{HasNoFaults}
use Rattle.design_model.specs.UsableLibrary.{IsWellFormedLibrary}
use Rattle.design_model.specs.WellFormedDesign.{IsWellFormedDesign}
use Rattle.netlist_model.specs.WellFormedNetlist.{IsWellFormedModule}
use Rattle.flat_design.proofs.WellFormedCells.{cell_formed, pin_formed, pin_names_good}
use Rattle.flat_design.proofs.WellFormedNames.{cell_names_good, net_names_good}
use Rattle.flat_design.proofs.WellFormedSources.{drivers_drive, sources_drive}

pub flat_is_formed : (modules : List Module) (library : Library) (top : Module) (design : Design) → IsWellFormedModule top → IsWellFormedLibrary library
    → HasNoFaults modules library (flat modules library top) → IsFlatDesign library (flat modules library top) design → IsWellFormedDesign design
flat_is_formed modules library top design formed usable none is = record {
  unit = subst IsUnit (sym is.unit) usable.unit;
  cells = cell_formed modules library top design is none.instances none.cells usable;
  pins = pin_formed modules library top design is;
  drivers = drivers_drive modules library top design formed is;
  sources = sources_drive modules library top design formed is;
  pin_names = pin_names_good modules library top design is formed none.nets none.cells;
  cell_names = cell_names_good library (flat modules library top) design is none.cells;
  net_names = net_names_good library (flat modules library top) design is none.nets;
}
