use Rattle.std.proofs.Common.{◌∙◌}
use Rattle.flat_design.proofs.NamedFits.{fits_by_tables}
use Rattle.flat_design.proofs.elaborate.connections.named_fit.Goals as goal

pub returns : goal.returns
returns c = λ all is same.
    c.fit_by_name.ensures ∙ fits_by_tables all c.in_ok-names.names c.args.terminals.now c.args.widths.now c.args.links.now c.in_ok-names.ensures is same
