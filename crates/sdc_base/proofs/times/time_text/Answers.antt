use Rattle.std.proofs.Common.{sym, subst, rules}
use Rattle.std.proofs.lemmas.Int.{to_z-of_z}
use Rattle.std.specs.Int.{w64}
use Rattle.std.specs.Str.{IsUtf8}
use mir.Val.{SFits}
use Rattle.sdc_base.proofs.TimeBytes.{IsUtf8-time_text, magnitude_fits}
use Rattle.sdc_base.proofs.times.time_text.Goals as goal

pub unreachable-requires : goal.unreachable-requires
unreachable-requires c =
    let f : SFits w64 c.args.fs = search rules in
    let g : SFits w64 c.args.unit = search rules in
    c.in-Err.ensures.cases.0
    (subst IsUtf8 (sym (simp to_z-of_z at c.format.ensures)) (IsUtf8-time_text c.args.fs c.args.unit c.requires (magnitude_fits c.args.fs f)))
