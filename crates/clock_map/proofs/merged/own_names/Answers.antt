use Rattle.std.proofs.Common.{◌≤◌, ℕ, List, length, subst}
use Rattle.std.proofs.lemmas.List.{take_all}
use Rattle.timing_types.specs.declared.identities.Standing.{Standing}
use Rattle.merge_model.specs.ClockIdentity.{names_of}
use Rattle.clock_map.specs.MergedClocks.{HaveSameNames, HasOneMore}
use Rattle.clock_map.proofs.NameSets.{one_more, names_step}
use Rattle.clock_map.proofs.merged.own_names.Goals as goal

pub loop-standing-preserved : goal.loop-standing-preserved
loop-standing-preserved c =
    let items = c.as_slice-standing-items.ensures in
    let before = c.loop-standing.names in
    let added = one_more before c.insert.new.self c.in_ok-name.name c.in_ok-insert.ensures.updates in
    let more : HasOneMore before.keys c.standing-item.result.name c.insert.new.self.keys =
    subst (λ (n : List ℕ). HasOneMore before.keys n c.insert.new.self.keys) c.in_ok-name.ensures added in
    names_step c.args.standings.now c.loop-standing.standing-index c.standing-item.result before.keys c.insert.new.self.keys
    (rw items at c.loop-standing-test.true) (rw items at c.standing-item.is) more c.loop-standing.invariant

pub returns : goal.returns
returns c =
    let done : length c.args.standings.now ≤ c.loop-standing.standing-index = rw c.as_slice-standing-items.ensures at c.loop-standing-test.false in
    subst (λ (xs : List Standing). HaveSameNames c.loop-standing.names.keys (names_of xs)) (take_all c.loop-standing.standing-index c.args.standings.now done) c.loop-standing.invariant
