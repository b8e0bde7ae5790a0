use Rattle.std.proofs.Common.{false, refl, sym, ◌∙◌}
use Rattle.std.proofs.lemmas.List.{get_or_default}
use Rattle.flat_design.proofs.SearchFacts.{reach_new}
use Rattle.flat_design.proofs.drivers.returning.Search.reach.Goals as goal

pub returns-in_ok-push : goal.returns-in_ok-push
returns-in_ok-push c =
    let search = c.args.self.now in
    reach_new search _ c.args.net refl c.in_ok-push.ensures.items c.requires
    (get_or_default search.reached.items c.args.net false c.index.result.now c.requires ∙ (sym c.index.ensures ∙ c.if-not-index.true))
