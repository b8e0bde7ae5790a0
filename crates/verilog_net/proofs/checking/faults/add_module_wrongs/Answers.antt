use Rattle.verilog_net.specs.Faults.{wrongs_seen}
use Rattle.verilog_net.specs.Modules.{written_seen}
use Rattle.verilog_net.specs.Names.{declarations_of}
use Rattle.verilog_net.specs.Seen.{tokens_seen}
use Rattle.verilog_net.proofs.FaultFacts.{four_kinds}
use Rattle.verilog_net.proofs.checking.faults.add_module_wrongs.Goals as goal

pub returns : goal.returns
returns c =
    four_kinds (written_seen c.args.named.now.written) (declarations_of c.args.named.now.names) (wrongs_seen c.args.found.now.items) (wrongs_seen c.add_wrongs.new.found.items) (wrongs_seen c.add_wrongs-2.new.found.items) (wrongs_seen c.add_wrongs-3.new.found.items) (wrongs_seen c.add_wrongs-4.new.found.items)
    (tokens_seen c.in_ok-doubles.doubles.items) (tokens_seen c.in_ok-uneven.uneven.items) (tokens_seen c.in_ok-unknown.unknown.items)
    c.requires.1 (rw c.as_slice.ensures.value at c.in_ok-add_wrongs.ensures) c.in_ok-doubles.ensures (rw c.as_slice-2.ensures.value at c.in_ok-add_wrongs-2.ensures)
    (rw c.as_slice-3.ensures.value at c.in_ok-uneven.ensures) (rw c.as_slice-4.ensures.value at c.in_ok-add_wrongs-3.ensures)
    c.in_ok-unknown.ensures (rw c.as_slice-5.ensures.value at c.in_ok-add_wrongs-4.ensures)
