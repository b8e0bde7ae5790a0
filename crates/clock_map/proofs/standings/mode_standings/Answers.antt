use Rattle.std.proofs.Common.{◌≡◌, ◌<◌, ap, length, get_or}
use Rattle.timing_types.specs.declared.clocks.Wave.{Wave}
use Rattle.clock_map.proofs.StandingLists.{standings_step, plain_standing}
use Rattle.clock_map.proofs.standings.mode_standings.Goals as goal

pub loop-place-preserved : goal.loop-place-preserved
loop-place-preserved c =
    let place = c.loop-place.place in
    let clock = c.clock-item.result in
    let waves = c.as_slice-waves.ensures in
    let clocks = c.as_slice-clock-items.ensures in
    let none : Wave = record { period = _; rise = _; fall = _ } in
    let wave = get_or c.as_slice-waves.result.now place none in
    let within : place < length c.args.view.now.mode.clocks = rw clocks at c.loop-place-test.true in
    let clock_is : clock ≡ get_or c.args.view.now.mode.clocks place clock = rw clocks at c.clock-item.is in
    let wave_is : wave ≡ get_or c.args.view.now.waves place none = ap (λ ws. get_or ws place none) waves in
    let standing : record { definition = c.in_ok-definition.definition; name = c.in_ok-name.name; place = place } ≡ plain_standing place clock wave =
    λ i. record { definition = c.in_ok-definition.ensures i; name = c.in_ok-name.ensures i; place = place } in
    standings_step c.args.view.now place clock wave none c.loop-place.standings _ _ c.requires.primary c.requires.waves
    within clock_is wave_is standing c.in_ok-push.ensures.ok c.loop-place.invariant
