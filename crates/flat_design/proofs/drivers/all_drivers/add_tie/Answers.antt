use Rattle.std.proofs.Common.{List, map, sym, subst}
use Rattle.std.proofs.lemmas.Result.{on_ok_weaker}
use Rattle.flat_model.specs.FlatNets.{NetDriver}
use Rattle.netlist_model.specs.Ranges.{indices}
use Rattle.flat_design.specs.Drivers.{Adds, IsDriverEdge, tied_bit}
use Rattle.flat_design.proofs.RowFacts.{rows_none}
use Rattle.flat_design.proofs.TieFacts.{tied_none, tied_some}
use Rattle.flat_design.proofs.drivers.all_drivers.add_tie.Goals as goal

pub returns-in-None : goal.returns-in-None
returns-in-None c = λ found at.
    subst (λ (drivers : List NetDriver). Adds c.args.design.now drivers c.args.rows.now c.args.rows.now) (sym (tied_none found.path c.args.wire.now c.in-None.is))
    (rows_none (IsDriverEdge c.args.design.now) c.args.rows.now)

pub returns-in-Some : goal.returns-in-Some
returns-in-Some c = λ found at.
    on_ok_weaker c.add_tied_bits.result
    (λ (added : Adds c.args.design.now (map (tied_bit found.path c.args.wire.now c.in-Some.value) (indices c.args.wire.now.range)) c.args.rows.now c.add_tied_bits.new.rows).
    subst (λ (drivers : List NetDriver). Adds c.args.design.now drivers c.args.rows.now c.add_tied_bits.new.rows)
    (sym (tied_some found.path c.args.wire.now c.in-Some.value c.in-Some.is)) added)
    (c.add_tied_bits.ensures found at)
