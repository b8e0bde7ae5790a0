use Rattle.std.proofs.Common.{◌≡◌, ◌++◌, drop}
use Rattle.std.specs.List.{flat_map}
use Rattle.netlist_model.specs.Verilog as spec
use Rattle.verilog_net.specs.Faults.{wrongs_seen}
use Rattle.verilog_net.specs.Names.{named_modules}
use Rattle.verilog_net.proofs.checking.faults.add_all_wrongs.Given as goal

abbrev pub invariant-loop-named : goal.invariant-loop-named
invariant-loop-named l =
    wrongs_seen l.found.items ++ flat_map spec.module_wrongs (named_modules (drop l.named-index l.modules))
    ≡ wrongs_seen l.fn.found.items ++ flat_map spec.module_wrongs (named_modules l.modules)
