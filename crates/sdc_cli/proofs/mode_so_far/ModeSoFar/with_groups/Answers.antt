use Rattle.std.proofs.Common.{sym, length, subst}
use Rattle.mode_model.specs.ClockFile.{SoFar}
use Rattle.sdc_cli.specs.Exclusive.{AllBelow}
use Rattle.sdc_cli.proofs.GroupPlaces.{CommandsBelow-push}
use Rattle.sdc_cli.proofs.mode_so_far.ModeSoFar.with_groups.Goals as goal

pub invariant_of-result : goal.invariant_of-result
invariant_of-result c =
    let here : AllBelow (length c.self.inside.clocks) c.args.more =
    subst (λ (s : SoFar). AllBelow (length s.clocks) c.args.more) (sym c.self.view_is) c.requires in
    rw c.in_ok-push.ensures.ok (CommandsBelow-push (length c.self.inside.clocks) c.self.inside.groups _ c.self.invariant here)
