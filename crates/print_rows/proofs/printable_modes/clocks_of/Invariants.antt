use Rattle.std.proofs.Common.{[]}
use Rattle.mode_model.specs.PrintedFile.{ArePrintableClocks}
use Rattle.print_rows.proofs.printable_modes.clocks_of.Given as goal

abbrev pub invariant-loop-name : goal.invariant-loop-name
invariant-loop-name l = ArePrintableClocks [] l.clocks
