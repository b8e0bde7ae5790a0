-- The names so far have their rows.
use Rattle.std.proofs.Common.{◌≡◌}
use Rattle.flat_design.specs.DesignParts.{pin_infos}
use Rattle.flat_design.proofs.assemble.design_pins.pins_of.Given as goal

abbrev pub invariant-loop-name : goal.invariant-loop-name
invariant-loop-name l = l.pins ≡ pin_infos l.yielded l.rows
