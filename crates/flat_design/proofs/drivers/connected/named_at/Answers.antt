use Rattle.std.proofs.Common.{◌≡◌, [], ℕ, Option, false, true, sym, ◌∙◌, ap}
use Rattle.std.proofs.lemmas.Bool.{cond-false, cond-true}
use Rattle.flat_design.specs.Connected.{bits_found, link_names}
use Rattle.flat_design.specs.Fitting.{stands_first}
use Rattle.flat_design.specs.Names.{place_of}
use Rattle.flat_design.proofs.drivers.connected.named_at.Goals as goal

pub returns-then-stands_first : goal.returns-then-stands_first
returns-then-stands_first c = λ names is own.
    let first : stands_first (place_of names c.args.name.now) c.args.at ≡ true =
    ap (λ (found : Option ℕ). stands_first found c.args.at) (sym (c.place.ensures ∙ is c.args.name.now)) ∙ (sym c.stands_first.ensures ∙ c.if-stands_first.true) in
    c.bits_found.ensures
    ∙ (ap (bits_found c.args.links.now) (c.place-then-stands_first.ensures ∙ own c.args.name.now)
    ∙ sym (cond-true _ (bits_found c.args.links.now (place_of (link_names c.args.links.now) c.args.name.now)) [] first))

pub returns-else-stands_first : goal.returns-else-stands_first
returns-else-stands_first c = λ names is own.
    let later : stands_first (place_of names c.args.name.now) c.args.at ≡ false =
    ap (λ (found : Option ℕ). stands_first found c.args.at) (sym (c.place.ensures ∙ is c.args.name.now)) ∙ (sym c.stands_first.ensures ∙ c.if-stands_first.false) in
    sym (cond-false _ (bits_found c.args.links.now (place_of (link_names c.args.links.now) c.args.name.now)) [] later)
