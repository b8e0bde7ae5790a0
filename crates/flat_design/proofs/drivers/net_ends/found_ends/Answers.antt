use Rattle.std.proofs.Common.{length, subst}
use Rattle.flat_design.specs.NetEnds.{TellsTwo}
use Rattle.flat_design.proofs.NetEndFacts.{one_each}
use Rattle.flat_design.proofs.drivers.net_ends.found_ends.Goals as goal

pub ends_of-requires-clause-one : goal.ends_of-requires-clause-one
ends_of-requires-clause-one c =
    one_each (length c.args.table.now.last) 4294967295 c.args.table.now.rows.now c.requires.within
    (subst (TellsTwo c.args.table.now.rows.now (length c.args.table.now.last)) c.if-any_has_two.false c.any_has_two.ensures)
