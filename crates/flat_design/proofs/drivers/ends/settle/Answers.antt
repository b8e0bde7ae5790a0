use Rattle.std.proofs.Common.{length, ◌∙◌, arith}
use Rattle.flat_design.proofs.EndMarks.{known_done, mark_here}
use Rattle.flat_design.proofs.drivers.ends.settle.Goals as goal

pub follow-requires-clause-new : goal.follow-requires-clause-new
follow-requires-clause-new c =
    mark_here c.args.marks.now.items c.args.net c.index.result.now (omega (arith, c.requires.net, c.requires.marks.count)) c.index.ensures ∙ c.in-New.is

pub returns-in_default : goal.returns-in_default
returns-in_default c =
    let table = c.args.table.now in
    known_done table.rows.now (length table.last) c.args.marks.now.items c.args.net c.index.result.now c.requires.marks c.requires.net c.index.ensures
    c.in_default.not-New
