use Rattle.flat_design.proofs.AllDriverFacts.{scope_added}
use Rattle.flat_design.proofs.drivers.all_drivers.add_instance.Goals as goal

pub returns : goal.returns
returns c = λ found at.
    scope_added c.args.design.now found c.args.rows.now c.add_ports.new.rows c.add_ties.new.rows c.add_assigns.new.rows (c.in_ok-add_ports.ensures found at)
    (c.in_ok-add_ties.ensures found at) (c.in_ok-add_assigns.ensures found at)
