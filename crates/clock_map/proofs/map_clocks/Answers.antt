use Rattle.std.proofs.Common.{◌≡◌, ◌∙◌, length, arith, sym, ap}
use Rattle.clock_map.proofs.PlainMaps.{is_map, length-standings_of, length-identities_of}
use Rattle.merge_model.specs.PlainViews.{clock_count}
use Rattle.clock_map.proofs.SharedClocks.{apart, zip_length}
use Rattle.clock_map.proofs.map_clocks.Goals as goal

pub numbers_of-requires : goal.numbers_of-requires
numbers_of-requires c =
    let many : length c.in_ok-standings.identities ≡ clock_count c.args.modes.now =
    ap length c.in_ok-standings.ensures.identities ∙ length-identities_of c.args.modes.now c.requires.waves in
    omega (arith, c.requires.few)

pub merged_clocks-requires-clause-beside : goal.merged_clocks-requires-clause-beside
merged_clocks-requires-clause-beside c =
    c.in_ok-numbers.ensures.length_is
    ∙ ap length c.in_ok-standings.ensures.identities ∙ length-identities_of c.args.modes.now c.requires.waves
    ∙ sym (length-standings_of c.args.modes.now c.requires.waves) ∙ sym (ap length c.in_ok-standings.ensures.standings)

pub merged_clocks-requires-clause-rises : goal.merged_clocks-requires-clause-rises
merged_clocks-requires-clause-rises c = (c.in_ok-numbers.ensures.last, c.in_ok-numbers.ensures.rises)

pub rows_of-requires : goal.rows_of-requires
rows_of-requires c =
    c.in_ok-numbers.ensures.length_is
    ∙ ap length c.in_ok-standings.ensures.identities ∙ length-identities_of c.args.modes.now c.requires.waves

pub returns : goal.returns
returns c =
    let map = is_map c.args.modes.now c.in_ok-standings.standings c.in_ok-standings.identities c.in_ok-numbers.numbers
    (record { clocks = c.in_ok-merged.merged.clocks; waves = c.in_ok-merged.merged.waves; maps = c.in_ok-maps.maps }) c.requires.primary c.requires.waves
    c.in_ok-standings.ensures.standings c.in_ok-standings.ensures.identities c.in_ok-numbers.ensures c.in_ok-merged.ensures.merged
    c.in_ok-maps.ensures.all c.in_ok-maps.ensures.shape in
    let many : length c.in_ok-numbers.numbers ≡ clock_count c.args.modes.now =
    c.in_ok-numbers.ensures.length_is
    ∙ ap length c.in_ok-standings.ensures.identities ∙ length-identities_of c.args.modes.now c.requires.waves in
    record {
      map = map;
      beside = sym (zip_length (λ view row. length row ≡ length view.mode.clocks) c.args.modes.now c.in_ok-maps.maps c.in_ok-maps.ensures.shape);
      apart = apart c.args.modes.now _ c.requires.waves map;
      few = rw (← many) c.in_ok-merged.ensures.few;
    }
