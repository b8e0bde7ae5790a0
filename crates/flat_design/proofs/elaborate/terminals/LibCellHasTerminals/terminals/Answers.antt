use Rattle.flat_design.proofs.TerminalFacts.{pins_found}
use Rattle.flat_design.proofs.elaborate.terminals.LibCellHasTerminals.terminals.Goals as goal

pub returns : goal.returns
returns c =
    pins_found c.args.self.now c.as_slice-pins.result.now (record { places = c.in_ok-places.places; widths = c.in_ok-widths.widths })
    c.as_slice-pins.ensures c.in_ok-places.ensures c.in_ok-widths.ensures
