use Rattle.verilog_net.specs.Modules.{written_seen}
use Rattle.verilog_net.specs.Names.{declarations_of}
use Rattle.verilog_net.specs.Seen.{tokens_seen}
use Rattle.verilog_net.specs.Wires.{texts}
use Rattle.verilog_net.proofs.MeantFacts.{module_is}
use Rattle.verilog_net.proofs.meaning.meant.meant_module.Goals as goal

pub returns : goal.returns
returns c =
    module_is (written_seen c.args.named.now.written) (declarations_of c.args.named.now.names) c.in_ok-name.name (texts (tokens_seen c.in_ok-ported.ported.items)) c.in_ok-ports.ports c.in_ok-nets.nets c.in_ok-instances.instances c.in_ok-assigns.assigns
    c.requires.1 c.in_ok-name.ensures c.in_ok-ported.ensures (rw c.as_slice.ensures.value at c.in_ok-ports.ensures)
    (rw (c.as_slice-2.ensures.value, c.as_slice-3.ensures, c.as_slice-statements.ensures.value) at c.in_ok-nets.ensures)
    (rw c.as_slice-statements.ensures.value at c.in_ok-instances.ensures) (rw c.as_slice-statements.ensures.value at c.in_ok-assigns.ensures)
