use Rattle.flat_design.proofs.TerminalFacts.{ports_found}
use Rattle.flat_design.proofs.elaborate.terminals.ModuleHasTerminals.terminals.Goals as goal

pub returns : goal.returns
returns c =
    ports_found c.args.self.now c.as_slice-ports.result.now (record { places = c.in_ok-places.places; widths = c.in_ok-widths.widths })
    c.as_slice-ports.ensures c.in_ok-places.ensures c.in_ok-widths.ensures
