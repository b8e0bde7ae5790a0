use Rattle.std.proofs.Common.{◌≡◌, ◌∙◌, ap, false, length, sym}
use Rattle.std.specs.String.{string_bytes}
use Rattle.mode_model.specs.ClockFile.{is_taken}
use Rattle.sdc_cli.proofs.PlaceSteps.{HasPlaces-push}
use Rattle.sdc_cli.proofs.named_clocks.NamedClocks.with.Goals as goal

pub invariant_of-result : goal.invariant_of-result
invariant_of-result c =
    let free : is_taken c.args.clock.name c.self.inside.clocks ≡ false = ap (is_taken c.args.clock.name) c.self.view_is ∙ c.requires in
    HasPlaces-push c.self.inside.places c.insert.new.self (string_bytes c.in_ok-name.name) c.in_ok-place.place c.self.inside.clocks c.push.new.self c.args.clock
    c.self.invariant free (c.in_ok-name.ensures.ok ∙ c.as_str.ensures) (c.in_ok-place.ensures.count ∙ ap length (sym c.self.view_is)) c.in_ok-push.ensures.ok c.in_ok-insert.ensures.updates
