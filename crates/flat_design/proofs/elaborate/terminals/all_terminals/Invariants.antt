-- The terminals of the things so far.
use Rattle.std.proofs.Common.{take}
use Rattle.std.specs.List.{AllZip}
use Rattle.flat_design.specs.Tables.{IsTerminals}
use Rattle.flat_design.proofs.elaborate.terminals.all_terminals.Given as goal

abbrev pub invariant-loop-thing : goal.invariant-loop-thing
invariant-loop-thing g l = AllZip (λ thing found. IsTerminals (g.T.HasTerminals.terminals thing) found) (take l.thing-index l.things) l.all.items
