use Rattle.std.proofs.Common.{◌∙◌, [], length, map, sym, ap}
use Rattle.std.specs.List.{filter_map, fold}
use Rattle.library_model.specs.LibertyArcs as liberty
use Rattle.lib_cells.specs.Members.{member_seen, members_seen}
use Rattle.lib_cells.specs.RelatedPins.{related_all, related_seen}
use Rattle.lib_cells.proofs.CellLemmas.{cell_launched, cell_whole, known_few, twice}
use Rattle.lib_cells.proofs.cell.cells.known_cell.Goals as goal

pub has_wide_function-requires : goal.has_wide_function-requires
has_wide_function-requires c = known_few c.args.known.now (member_seen c.args.cell.now) c.requires.describes

pub returns-then-branch-2 : goal.returns-then-branch-2
returns-then-branch-2 c =
    let known = c.args.known.now in
    let groups_are = ap members_seen c.as_slice.ensures.value ∙ c.in_ok-groups.ensures in
    let related_are = c.in_ok-related.ensures ∙ ap (λ ps. related_all known.places (length ps) 0 ps) c.as_slice-2.ensures.value in
    let arcs_are = c.in_ok-arcs.ensures
    ∙ (ap (λ ps. fold liberty.with_arc [] (filter_map (liberty.arc_if ps) (map related_seen c.as_slice-4.result.now))) c.as_slice-3.ensures.value
    ∙ ap (λ rs. fold liberty.with_arc [] (filter_map (liberty.arc_if known.pins.items) (map related_seen rs))) c.as_slice-4.ensures.value) in
    let two_are = c.in_ok-has_two_launches.ensures
    ∙ (ap (λ ps. twice ps c.as_slice-6.result.now) c.as_slice-5.ensures.value ∙ ap (twice known.pins.items) c.as_slice-6.ensures.value) in
    cell_launched known (member_seen c.args.cell.now) c.args.name _ _ _ _ _ c.refused_cell-then-branch-2.result
    c.requires.named c.requires.taken c.requires.describes groups_are c.in_ok-has_wide_function.ensures c.if-branch.false
    related_are arcs_are two_are c.if-branch-2.true c.refused_cell-then-branch-2.ensures

pub lib_pins-requires : goal.lib_pins-requires
lib_pins-requires c = known_few c.args.known.now (member_seen c.args.cell.now) c.requires.describes

pub returns : goal.returns
returns c =
    let known = c.args.known.now in
    let groups_are = ap members_seen c.as_slice.ensures.value ∙ c.in_ok-groups.ensures in
    let related_are = c.in_ok-related.ensures ∙ ap (λ ps. related_all known.places (length ps) 0 ps) c.as_slice-2.ensures.value in
    let arcs_are = c.from.ensures ∙ (c.in_ok-arcs.ensures
    ∙ (ap (λ ps. fold liberty.with_arc [] (filter_map (liberty.arc_if ps) (map related_seen c.as_slice-4.result.now))) c.as_slice-3.ensures.value
    ∙ ap (λ rs. fold liberty.with_arc [] (filter_map (liberty.arc_if known.pins.items) (map related_seen rs))) c.as_slice-4.ensures.value)) in
    let two_are = c.in_ok-has_two_launches.ensures
    ∙ (ap (λ ps. twice ps c.as_slice-6.result.now) c.as_slice-5.ensures.value ∙ ap (twice known.pins.items) (c.as_slice-6.ensures.value ∙ sym c.from.ensures)) in
    let checks_are = c.in_ok-checks.ensures
    ∙ ap (λ rs. fold liberty.with_check [] (filter_map liberty.check_if (map related_seen rs))) c.as_slice-7.ensures.value in
    cell_whole known (member_seen c.args.cell.now) c.args.name _ _ _ _ _ _ _
    c.requires.named c.requires.taken c.requires.describes groups_are c.in_ok-has_wide_function.ensures c.if-branch.false
    related_are arcs_are two_are c.if-branch-2.false c.in_ok-pins.ensures checks_are
