use Rattle.std.proofs.Common.{List, ◌≡◌, length, get_or, subst, ◌∙◌, ap, arith, refl}
use Rattle.std.proofs.lemmas.Option.{slice_get_read}
use Rattle.std.proofs.lemmas.Slice.Zip.{AllZip-long}
use Rattle.pin_types.specs.declared.library_cells.LibCell.{LibCell}
use Rattle.flat_model.specs.Connections.{pins_of}
use Rattle.flat_design.specs.Tables.{IsTerminals}
use Rattle.flat_design.proofs.StepFacts.{step_fitting, step_refused}
use Rattle.flat_design.proofs.TerminalFacts.{zip_read}
use Rattle.flat_design.proofs.elaborate.steps.cell_step.Goals as goal

pub returns-then-as_slice-kind : goal.returns-then-as_slice-kind
returns-then-as_slice-kind c =
    let cells = c.args.tables.now.library.now.cells in
    let same : c.as_slice.result.now ≡ cells = c.as_slice.ensures in
    step_refused cells c.args.kind c.index-as_slice-kind.result c.args.links.now c.requires.within
    (subst (λ (xs : List LibCell). c.index-as_slice-kind.result ≡ get_or xs c.args.kind c.index-as_slice-kind.result) same c.index-as_slice-kind.is)
    (ap (λ (x : LibCell). x.refused) c.index-as_slice-kind.is ∙ c.if-as_slice-kind.true)

pub index-pins-requires : goal.index-pins-requires
index-pins-requires c =
    let count = AllZip-long (λ cell found. IsTerminals (pins_of cell) found) c.args.tables.now.library.now.cells c.args.tables.now.pins.items c.requires.tables.pins in
    omega (arith, count, c.args.tables.now.pins.ok.0, c.requires.within)

pub returns : goal.returns
returns c =
    let cells = c.args.tables.now.library.now.cells in
    let cell = c.index-as_slice-kind.result in
    let same : c.as_slice.result.now ≡ cells = c.as_slice.ensures in
    let is : cell ≡ get_or cells c.args.kind cell =
    subst (λ (xs : List LibCell). cell ≡ get_or xs c.args.kind cell) same c.index-as_slice-kind.is in
    let own = zip_read (λ (one : LibCell) found. IsTerminals (pins_of one) found) cells c.args.tables.now.pins.items c.args.kind cell c.index-pins.result.now
    c.requires.tables.pins (slice_get_read cells (length cells) c.args.kind cell refl c.requires.within is) c.index-pins.ensures in
    c.pin_step.ensures ∙ step_fitting cells c.args.kind cell c.args.links.now c.in_ok-fits.fits c.requires.within is
    (ap (λ (x : LibCell). x.refused) c.index-as_slice-kind.is ∙ c.if-as_slice-kind.false)
    (c.in_ok-fits.ensures (pins_of cell) own.places (c.as_slice-2.ensures ∙ own.widths))
