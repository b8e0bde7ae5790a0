use Rattle.flat_model.specs.FlatNets.{drivers_of}
use Rattle.flat_design.proofs.AllDriverFacts.{drivers_added}
use Rattle.flat_design.proofs.DriversWithin.{rows_within}
use Rattle.flat_design.proofs.drivers.all_drivers.all_drivers.Goals as goal

pub returns-clause-all : goal.returns-clause-all
returns-clause-all c =
    drivers_added c.args.design.now c.new-rows.result c.add_instances.new.rows c.add_cells.new.rows c.new-rows.ensures c.in_ok-add_instances.ensures c.in_ok-add_cells.ensures

pub returns-clause-within : goal.returns-clause-within
returns-clause-within c =
    let design = c.args.design.now in
    rows_within design (drivers_of design.modules.now design.library.now design.top.now) c.add_cells.new.rows c.requires
    (drivers_added design c.new-rows.result c.add_instances.new.rows c.add_cells.new.rows c.new-rows.ensures c.in_ok-add_instances.ensures c.in_ok-add_cells.ensures)
