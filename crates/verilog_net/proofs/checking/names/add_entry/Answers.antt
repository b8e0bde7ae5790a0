use Rattle.std.specs.String.{string_bytes}
use Rattle.verilog_net.proofs.TableFacts.{entry_added}
use Rattle.verilog_net.proofs.checking.names.add_entry.Goals as goal

pub returns : goal.returns
returns c = λ name.
    entry_added c.args.entries.now c.insert.new.self (string_bytes c.in_ok-key.key) name c.better-kept.result c.args.declared.now c.known_of-known.result
    c.in_ok-key.ensures.ok c.known_of-known.ensures c.better-kept.ensures c.in_ok-insert.ensures.updates
