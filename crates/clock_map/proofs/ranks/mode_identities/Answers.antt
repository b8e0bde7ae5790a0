use Rattle.std.proofs.Common.{◌≡◌, ◌∙◌, ◌<◌, List, length, get_or, sym, subst}
use Rattle.std.specs.List.Sorted.{IsPermutation}
use Rattle.timing_types.specs.declared.identities.Standing.{Standing}
use Rattle.clock_map.proofs.RankLists.{identities_step}
use Rattle.clock_map.proofs.ranks.mode_identities.Goals as goal

pub loop-standing-preserved : goal.loop-standing-preserved
loop-standing-preserved c =
    let all = c.args.standings.now in
    let items = c.as_slice-standing-items.ensures in
    let clock = c.standing-item.result in
    let within : c.loop-standing.standing-index < length all = rw items at c.loop-standing-test.true in
    let is : clock ≡ get_or all c.loop-standing.standing-index clock = rw items at c.standing-item.is in
    let copied : c.from-sorted.result.items ≡ all = c.from-sorted.ensures ∙ c.in_ok-copy.ensures in
    let moved : IsPermutation all c.sort.new.self.items =
    subst (λ (xs : List Standing). IsPermutation xs c.sort.new.self.items) copied c.sort.ensures.permutation in
    let read : IsPermutation all c.deref.result.now =
    subst (λ (xs : List Standing). IsPermutation all xs) (sym c.deref.ensures.value) moved in
    identities_step all c.deref.result.now c.loop-standing.standing-index clock c.rank_in-rank.result c.in_ok-definition.definition
    c.loop-standing.identities c.push.new.self within is read c.in_ok-definition.ensures c.rank_in-rank.ensures
    c.in_ok-push.ensures.ok c.loop-standing.invariant
