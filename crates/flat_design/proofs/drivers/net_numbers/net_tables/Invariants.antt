-- The tables of the modules so far.
use Rattle.std.proofs.Common.{take}
use Rattle.std.specs.List.{AllZip}
use Rattle.flat_design.specs.NetNumbers.{IsNetTable}
use Rattle.flat_design.proofs.drivers.net_numbers.net_tables.Given as goal

abbrev pub invariant-loop-body : goal.invariant-loop-body
invariant-loop-body l = AllZip (λ m found. IsNetTable m.nets found) (take l.body-index l.modules) l.all.items
