use Rattle.std.proofs.Common.{◌≡◌, ◌++◌, drop, map}
use Rattle.netlist_model.specs.VerilogNets as nets
use Rattle.verilog_net.specs.Names.{named_modules}
use Rattle.verilog_net.proofs.meaning.meant.meant_modules.Given as goal

abbrev pub invariant-loop-named : goal.invariant-loop-named
invariant-loop-named l =
    l.found ++ map nets.meant_module (named_modules (drop l.named-index l.modules))
    ≡ map nets.meant_module (named_modules l.modules)
