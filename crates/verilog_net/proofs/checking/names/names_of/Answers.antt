use Rattle.verilog_net.proofs.TableFacts.{entries_tied}
use Rattle.verilog_net.proofs.checking.names.names_of.Goals as goal

pub returns-clause-tied : goal.returns-clause-tied
returns-clause-tied c =
    entries_tied c.no_entries-entries.result c.add_entries.new.entries c.in_ok-declared.declared.items c.no_entries-entries.ensures
    (λ name. rw c.as_slice.ensures.value at (c.in_ok-add_entries.ensures name))
