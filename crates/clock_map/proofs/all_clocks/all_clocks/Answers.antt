use Rattle.std.proofs.Common.{◌∙◌, ◌++◌, ap}
use Rattle.merge_model.specs.ClockIdentity.{identities_among}
use Rattle.clock_map.proofs.ClockLists.{primary_mode, waves_of_mode, clocks_step}
use Rattle.clock_map.proofs.all_clocks.all_clocks.Goals as goal

pub mode_standings-requires-clause-primary : goal.mode_standings-requires-clause-primary
mode_standings-requires-clause-primary c =
    let views = c.as_slice-view-items.ensures in
    primary_mode c.args.modes.now c.loop-view.view-index c.view-item.result c.requires.primary
    (rw views at c.loop-view-test.true) (rw views at c.view-item.is)

pub mode_standings-requires-clause-waves : goal.mode_standings-requires-clause-waves
mode_standings-requires-clause-waves c =
    let views = c.as_slice-view-items.ensures in
    waves_of_mode c.args.modes.now c.loop-view.view-index c.view-item.result c.requires.waves
    (rw views at c.loop-view-test.true) (rw views at c.view-item.is)

pub loop-view-preserved : goal.loop-view-preserved
loop-view-preserved c =
    let views = c.as_slice-view-items.ensures in
    let standings = c.in_ok-append-2.ensures ∙ ap (λ more. c.loop-view.standings ++ more) c.in_ok-of_mode.ensures in
    let identities = c.in_ok-append.ensures ∙ ap (λ more. c.loop-view.identities ++ more) (c.in_ok-their_identities.ensures ∙ ap identities_among c.in_ok-of_mode.ensures) in
    clocks_step c.args.modes.now c.loop-view.view-index c.view-item.result c.loop-view.standings _ c.loop-view.identities _
    (rw views at c.loop-view-test.true) (rw views at c.view-item.is) standings identities c.loop-view.invariant
