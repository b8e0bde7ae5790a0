use Rattle.std.proofs.Common.{List, map, sym, subst}
use Rattle.std.proofs.lemmas.Result.{on_ok_weaker}
use Rattle.flat_model.specs.FlatNets.{NetDriver}
use Rattle.netlist_model.specs.Ranges.{indices}
use Rattle.flat_design.specs.Drivers.{Adds, IsDriverEdge, input_drive}
use Rattle.flat_design.proofs.RowFacts.{rows_none}
use Rattle.flat_design.proofs.TopFacts.{input_drives, driven_other, output_drives}
use Rattle.flat_design.proofs.drivers.port_drivers.add_top_port.Goals as goal

pub returns-in-Input : goal.returns-in-Input
returns-in-Input c =
    on_ok_weaker c.add_input_bits.result
    (λ (added : Adds c.args.design.now (map (input_drive c.args.port.now) (indices c.args.port.now.range)) c.args.rows.now c.add_input_bits.new.rows).
    subst (λ (drivers : List NetDriver). Adds c.args.design.now drivers c.args.rows.now c.add_input_bits.new.rows) (sym (input_drives c.args.port.now c.in-Input.is)) added)
    c.add_input_bits.ensures

pub returns-in-Output : goal.returns-in-Output
returns-in-Output c =
    subst (λ (drivers : List NetDriver). Adds c.args.design.now drivers c.args.rows.now c.args.rows.now) (sym (output_drives c.args.port.now c.in-Output.is))
    (rows_none (IsDriverEdge c.args.design.now) c.args.rows.now)

pub returns-in-Other : goal.returns-in-Other
returns-in-Other c =
    subst (λ (drivers : List NetDriver). Adds c.args.design.now drivers c.args.rows.now c.args.rows.now) (sym (driven_other c.args.port.now c.in-Other.is))
    (rows_none (IsDriverEdge c.args.design.now) c.args.rows.now)
