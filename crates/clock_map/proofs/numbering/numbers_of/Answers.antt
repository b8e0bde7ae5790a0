use Rattle.std.proofs.Common.{◌<◌, ◌≤◌, length, arith}
use Rattle.clock_map.proofs.NumberLists.{knows_step, knows_few, knows_done}
use Rattle.clock_map.proofs.numbering.numbers_of.Goals as goal

pub number_of-requires : goal.number_of-requires
number_of-requires c =
    let within : c.loop-identity.identity-index < length c.args.identities.now = rw c.as_slice-identity-items.ensures at c.loop-identity-test.true in
    let few = knows_few c.loop-identity.known c.args.identities.now c.loop-identity.identity-index c.loop-identity.numbers (omega arith) c.loop-identity.invariant in
    omega (arith, c.requires)

pub loop-identity-preserved : goal.loop-identity-preserved
loop-identity-preserved c =
    let identities = c.as_slice-identity-items.ensures in
    knows_step c.loop-identity.known _ c.args.identities.now c.loop-identity.identity-index c.loop-identity.numbers _ c.identity-item.result c.in_ok-number.number
    (rw identities at c.loop-identity-test.true) (rw identities at c.identity-item.is)
    c.in_ok-push.ensures.ok c.in_ok-number.ensures c.loop-identity.invariant

pub returns : goal.returns
returns c =
    let done : length c.args.identities.now ≤ c.loop-identity.identity-index = rw c.as_slice-identity-items.ensures at c.loop-identity-test.false in
    knows_done c.loop-identity.known c.args.identities.now c.loop-identity.identity-index c.loop-identity.numbers done c.loop-identity.invariant
