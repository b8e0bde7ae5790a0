use Rattle.std.proofs.Common.{◌∙◌, true, sym, ap, subst}
use Rattle.std.specs.BTreeSet.{Updates, contains}
use Rattle.std.specs.Cmp.Lexicographic.{slice_cmp}
use Rattle.std.specs.Ordering.{nat_cmp}
use Rattle.lib_cells.specs.CheckKeys.{HasKeys}
use Rattle.lib_cells.proofs.CheckFacts.{pushes, pushes_keys, stays}
use Rattle.lib_cells.proofs.cell.checks.add_check.Goals as goal

pub returns-then-contains-clause-joined : goal.returns-then-contains-clause-joined
returns-then-contains-clause-joined c =
    let key_is = ap (λ key. contains (slice_cmp nat_cmp) c.args.known.now key) (sym c.check_key-key.ensures) in
    stays c.args.known.now c.args.checks.now c.args.check c.requires (key_is ∙ (sym c.contains.ensures ∙ c.if-contains.true))

pub returns-clause-joined : goal.returns-clause-joined
returns-clause-joined c =
    let key_is = ap (λ key. contains (slice_cmp nat_cmp) c.args.known.now key) (sym c.check_key-key.ensures) in
    c.in_ok-push.ensures.ok
    ∙ pushes c.args.known.now c.args.checks.now c.args.check c.requires (key_is ∙ (sym c.contains.ensures ∙ c.if-contains.false))

pub returns-clause-found : goal.returns-clause-found
returns-clause-found c =
    let updates = subst (λ key. Updates (slice_cmp nat_cmp) c.args.known.now c.insert.new.self key true) c.check_key-key.ensures c.in_ok-insert.ensures.updates in
    subst (λ checks. HasKeys c.insert.new.self checks) (sym c.in_ok-push.ensures.ok)
    (pushes_keys c.args.known.now c.insert.new.self c.args.checks.now c.args.check c.requires updates)
