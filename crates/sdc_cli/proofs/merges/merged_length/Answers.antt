-- The merged clocks alone can be printed, and their file with the lines of groups is the merged text.
use Rattle.std.proofs.Common.{◌≡◌, ◌≤◌, ◌∙◌, [], length, ap, arith}
use Rattle.merge_model.specs.ClockIdentity.{IsClockMap}
use Rattle.merge_model.specs.Exclusive.{AreExclusivePairs}
use Rattle.merge_model.specs.PlainViews.{ArePlain, views_of, clocks_in}
use Rattle.mode_model.specs.PrintedFile.{IsPrintable, printed_file}
use Rattle.flat_design.specs.EmptyDesign.{empty_design}
use Rattle.sdc_cli.proofs.MergedClocks.{views_are_primary, views_have_waves, views_count}
use Rattle.sdc_cli.proofs.MergedLengths.{alone_is_printable, counted}
use Rattle.sdc_cli.proofs.merges.merged_length.Goals as goal

pub map_clocks-requires : goal.map_clocks-requires
map_clocks-requires c =
    let modes = c.args.modes.now in
    let plain : ArePlain (views_of modes) = record {
      primary = views_are_primary modes c.requires.printable;
      waves = views_have_waves modes c.requires.printable;
      few = rw (views_count modes) (omega (arith, c.requires.few));
    } in
    rw (c.in_ok-views.ensures, c.as_slice.ensures) plain

pub overflow_cast-count : goal.overflow_cast-count
overflow_cast-count c =
    let few : length c.in_ok-map.map.clocks ≤ clocks_in c.args.modes.now =
    rw (c.in_ok-views.ensures, c.as_slice.ensures, views_count c.args.modes.now) at c.in_ok-map.ensures.few in
    rw c.len-count.ensures (omega (arith, few, c.requires.few))

pub printed_length-requires : goal.printed_length-requires
printed_length-requires c =
    let modes = c.args.modes.now in
    let map = c.in_ok-map.map in
    let alone = c.clock_mode-mode.result in
    let identity : IsClockMap (views_of modes) map = rw (← c.as_slice.ensures, ← c.in_ok-views.ensures) c.in_ok-map.ensures.map in
    let clocks : alone.clocks ≡ map.clocks = c.clock_mode-mode.ensures.clocks ∙ c.in_ok-copy.ensures in
    let none : alone.exclusive ≡ [] = c.clock_mode-mode.ensures.exclusive ∙ c.new-2.ensures in
    let printable : IsPrintable empty_design alone =
    alone_is_printable modes map alone c.requires.printable identity clocks none c.clock_mode-mode.ensures.alone in
    rw c.requires.empty printable

pub length_with_groups-requires : goal.length_with_groups-requires
length_with_groups-requires c =
    let few : length c.in_ok-map.map.clocks ≤ clocks_in c.args.modes.now =
    rw (c.in_ok-views.ensures, c.as_slice.ensures, views_count c.args.modes.now) at c.in_ok-map.ensures.few in
    let same : length c.clock_mode-mode.result.clocks ≡ length c.in_ok-map.map.clocks =
    ap length (c.clock_mode-mode.ensures.clocks ∙ c.in_ok-copy.ensures) in
    omega (arith, few, same, c.requires.few)

pub returns : goal.returns
returns c =
    let modes = c.args.modes.now in
    let map = c.in_ok-map.map in
    let alone = c.clock_mode-mode.result in
    let identity : IsClockMap (views_of modes) map = rw (← c.as_slice.ensures, ← c.in_ok-views.ensures) c.in_ok-map.ensures.map in
    let exclusive : AreExclusivePairs (views_of modes) map.maps (length map.clocks) c.in_ok-rows.rows =
    rw (← c.as_slice.ensures, ← c.in_ok-views.ensures, ← c.len-count.ensures) c.in_ok-rows.ensures in
    let clocks : alone.clocks ≡ map.clocks = c.clock_mode-mode.ensures.clocks ∙ c.in_ok-copy.ensures in
    let none : alone.exclusive ≡ [] = c.clock_mode-mode.ensures.exclusive ∙ c.new-2.ensures in
    let front : c.in_ok-front.front ≡ length (printed_file empty_design alone) = rw c.requires.empty at c.in_ok-front.ensures.counts in
    counted modes map c.in_ok-rows.rows alone c.in_ok-front.front c.in_ok-bytes.bytes identity exclusive clocks none front c.in_ok-bytes.ensures
