use Rattle.std.proofs.Common.{◌≡◌, ◌∙◌, Some, sym}
use Rattle.mode_model.specs.ClockCommands.{groups_of}
use Rattle.sdc_cli.proofs.GroupPlaces.{groups_of-below}
use Rattle.sdc_cli.proofs.mode_host.ModeHost.set_clock_groups.Goals as goal

pub with_groups-requires : goal.with_groups-requires
with_groups-requires c =
    let given : Some c.in-Some.groups ≡ groups_of c.args.self.now.so_far.clocks c.args.words.now =
    sym c.in-Some.is ∙ rw c.named.ensures at c.in_ok-groups.ensures in
    rw c.replace-so_far.ensures.value (groups_of-below c.args.self.now.so_far.clocks c.args.words.now c.in-Some.groups given)
