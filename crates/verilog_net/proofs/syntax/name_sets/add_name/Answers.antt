use Rattle.std.specs.String.{string_bytes}
use Rattle.verilog_net.proofs.NameFacts.{name_added}
use Rattle.verilog_net.proofs.syntax.name_sets.add_name.Goals as goal

pub returns : goal.returns
returns c = λ listed has. name_added c.args.names.now c.insert.new.self (string_bytes c.in_ok-key.key) c.args.name.now listed c.in_ok-key.ensures.ok c.in_ok-insert.ensures.updates has
