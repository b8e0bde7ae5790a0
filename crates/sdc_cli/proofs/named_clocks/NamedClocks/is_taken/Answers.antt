use Rattle.std.proofs.Common.{◌∙◌, ap}
use Rattle.std.specs.Option.{is_some}
use Rattle.sdc_cli.proofs.PlaceSteps.{is_taken-place}
use Rattle.sdc_cli.proofs.named_clocks.NamedClocks.is_taken.Goals as goal

pub returns : goal.returns
returns c = c.is_some.ensures ∙ (ap is_some c.place.ensures ∙ is_taken-place c.args.name.now c.args.self.now 0)
