use Rattle.std.proofs.Common.{◌∙◌, ap, Option, sym, arith}
use Rattle.std.proofs.lemmas.Slice.Zip.{AllZip-long}
use Rattle.source_types.specs.declared.netlists.Module.{Module}
use Rattle.flat_design.specs.declared.elaborate.walk.Step.TheVariants as step
use Rattle.flat_design.specs.Steps.{fits_module}
use Rattle.flat_model.specs.Connections.{ports_of}
use Rattle.text_model.proofs.ListFacts.{element_at}
use Rattle.flat_design.specs.Tables.{IsTerminals}
use Rattle.flat_design.proofs.TerminalFacts.{zip_read}
use Rattle.flat_design.proofs.elaborate.steps.enter_step.Goals as goal

pub index-ports-requires : goal.index-ports-requires
index-ports-requires c =
    let count = AllZip-long (λ m found. IsTerminals (ports_of m) found) c.args.tables.now.modules.now c.args.tables.now.ports.items c.requires.tables.ports in
    omega (arith, count, c.args.tables.now.ports.ok.0, c.requires.within)

pub returns : goal.returns
returns c =
    let modules = c.args.tables.now.modules.now in
    let at = element_at modules c.args.opened c.requires.within in
    let own = zip_read (λ (m : Module) found. IsTerminals (ports_of m) found) modules c.args.tables.now.ports.items c.args.opened at.0 c.index-ports.result.now
    c.requires.tables.ports at.1 c.index-ports.ensures in
    ap (step.Enter c.args.opened) (c.in_ok-fits.ensures (ports_of at.0) own.places (c.as_slice.ensures ∙ own.widths)
    ∙ ap (λ (o : Option Module). fits_module o c.args.links.now) (sym at.1))
