-- Views of printable modes have what their clock map needs.
use Rattle.std.proofs.Common.{◌≤◌, length, arith, ◌∙◌}
use Rattle.merge_model.specs.PlainViews.{ArePlain, views_of, clocks_in}
use Rattle.sdc_cli.proofs.MergedClocks.{views_are_primary, views_have_waves, views_count}
use Rattle.sdc_cli.proofs.merges.merge.Goals as goal

pub map_clocks-requires : goal.map_clocks-requires
map_clocks-requires c =
    let modes = c.args.modes.now in
    let plain : ArePlain (views_of modes) = record {
      primary = views_are_primary modes c.requires.printable;
      waves = views_have_waves modes c.requires.printable;
      few = rw (views_count modes) (omega (arith, c.requires.few));
    } in
    rw (c.in_ok-views.ensures, c.as_slice.ensures) plain

pub overflow_cast-count : goal.overflow_cast-count
overflow_cast-count c =
    let few : length c.in_ok-clocks.clocks.clocks ≤ clocks_in c.args.modes.now =
    rw (c.in_ok-views.ensures, c.as_slice.ensures, views_count c.args.modes.now) at c.in_ok-clocks.ensures.few in
    rw c.len-count.ensures (omega (arith, few, c.requires.few))

pub returns-clause-few : goal.returns-clause-few
returns-clause-few c =
    rw (c.clock_mode-mode.ensures.clocks, c.in_ok-copy.ensures)
    (rw (c.in_ok-views.ensures, c.as_slice.ensures, views_count c.args.modes.now) at c.in_ok-clocks.ensures.few)

pub returns-clause-merged : goal.returns-clause-merged
returns-clause-merged c = record {
  identity = rw (← c.as_slice.ensures, ← c.in_ok-views.ensures) c.in_ok-clocks.ensures.map;
  clocks = c.clock_mode-mode.ensures.clocks ∙ c.in_ok-copy.ensures;
  exclusive = rw (c.clock_mode-mode.ensures.clocks, c.clock_mode-mode.ensures.exclusive, c.in_ok-copy.ensures, ← c.as_slice.ensures, ← c.in_ok-views.ensures, ← c.len-count.ensures) c.in_ok-exclusive.ensures;
  alone = c.clock_mode-mode.ensures.alone;
  listed = c.new.ensures;
  left = c.new-2.ensures;
}
