use Rattle.std.proofs.Common.{inl, inr, sym, ◌∙◌}
use Rattle.std.proofs.lemmas.Bool.{false≢true}
use Rattle.std.proofs.lemmas.Result.{IfOk-weaker}
use Rattle.clock_map.proofs.NameLists.{held}
use Rattle.clock_map.proofs.names.merged_name.Goals as goal

pub returns-then-contains : goal.returns-then-contains
returns-then-contains c =
    let has = held c.args.earlier.now c.args.first.now c.contains.result c.contains.ensures in
    IfOk-weaker _ _ _ (λ name free. inr (has.0 c.if-contains.true, free)) c.free_name.ensures

pub returns-else-contains : goal.returns-else-contains
returns-else-contains c =
    let has = held c.args.earlier.now c.args.first.now c.contains.result c.contains.ensures in
    IfOk-weaker _ _ _ (λ name same. inl (λ h. false≢true (sym c.if-contains.false ∙ has.1 h), same)) c.copy.ensures
