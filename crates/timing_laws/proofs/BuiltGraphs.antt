-- The graph of a well-formed design is well-formed: its arcs and checks are at pins of the design, and none but launch
-- arcs leaves a launching or a checked pin.
use Rattle.std.proofs.Common.{◌≡◌, ◌∙◌, ℕ, ◌<◌, length, get_or, [], Option, Some, None, refl, sym, ap, subst, inl, inr}
use Rattle.std.specs.Prelude.{◌⊎◌, Bool, true, false, slice_get}
use Rattle.std.specs.Option.{option_map}
use Rattle.std.proofs.lemmas.List.Elements.{All-contains, Contains-get_or}
use Rattle.std.proofs.lemmas.Option.{none-some, same_Some, slice_get-get_or, slice_get_within}
use Rattle.timing_types.specs.declared.designs.CellInfo.{CellInfo}
use Rattle.timing_types.specs.declared.designs.Design.{Design}
use Rattle.timing_types.specs.declared.designs.PinInfo.{PinInfo}
use Rattle.timing_types.specs.declared.designs.Role.{Role}
use Rattle.timing_types.specs.declared.designs.Role.TheVariants.{CellOut, InPort}
use Rattle.timing_types.specs.declared.designs.Source.{Source}
use Rattle.timing_types.specs.declared.designs.Source.TheVariants as source
use Rattle.timing_types.specs.declared.graphs.ArcKind.{ArcKind}
use Rattle.timing_types.specs.declared.graphs.ArcKind.TheVariants.{Net, Cell, Launch}
use Rattle.timing_types.specs.declared.graphs.Check.{Check}
use Rattle.timing_types.specs.declared.graphs.Graph.{Graph}
use Rattle.pin_types.specs.declared.library_cells.Direction.TheVariants as direction
use Rattle.pin_types.specs.declared.library_cells.LibArc.{LibArc}
use Rattle.pin_types.specs.declared.library_cells.LibCell.{LibCell}
use Rattle.pin_types.specs.declared.library_cells.LibCheck.{LibCheck}
use Rattle.pin_types.specs.declared.library_cells.LibPin.{LibPin}
use Rattle.pin_types.specs.declared.pins.Node.{Node}
use Rattle.pin_types.specs.declared.pins.Pin.{Pin}
use Rattle.design_model.specs.DesignPins.{cell_pin, driver_of, IsCell, role_of}
use Rattle.timing_model.specs.TimingGraph.{IsArcOf, IsGraphOf}
use Rattle.design_model.specs.LibraryArcs.{IsCheck, IsChecked, IsLaunching, IsLibraryArc}
use Rattle.design_model.specs.UsableLibrary.{IsUsable}
use Rattle.design_model.specs.WellFormedDesign.{IsWellFormedDesign}
use Rattle.timing_model.specs.WellFormedGraph.{IsPathEnd, IsWellFormedGraph}

mapped : {A B : Type 0} (f : A → B) (o : Option A) (y : B) → option_map f o ≡ Some y → (x : A) × (o ≡ Some x)
mapped f None y e = absurd (none-some y e)
mapped f (Some x) y e = (x, refl)

role_within : (design : Design) (pin : ℕ) (role : Role) → role_of design pin ≡ Some role → pin < length design.pins
role_within design pin role e =
    let found = mapped (λ (info : PinInfo). info.role) (slice_get design.pins pin) role e in
    slice_get_within design.pins pin found.0 found.1

driver_within : (design : Design) (pin : ℕ) (driver : Source) → driver_of design pin ≡ Some driver → pin < length design.pins
driver_within design pin driver e =
    let found = mapped (λ (info : PinInfo). info.driver) (slice_get design.pins pin) driver e in
    slice_get_within design.pins pin found.0 found.1

no_pin : LibPin
no_pin = record { name = []; direction = direction.Other; function = None }

module _ (design : Design) (well : IsWellFormedDesign design) where
  kind_usable : (place : ℕ) (cell : CellInfo) (kind : LibCell) → IsCell design place cell kind → IsUsable kind
  kind_usable place cell kind is =
      let at = well.cells place cell is.is in
      let same : at.kind ≡ kind = same_Some at.kind kind (sym at.is_kind ∙ is.of_kind) in
      subst IsUsable same at.usable

  pin_within : (place : ℕ) (cell : CellInfo) (kind : LibCell) (n : ℕ) → IsCell design place cell kind → n < length kind.pins
      → cell_pin cell n < length design.pins
  pin_within place cell kind n is below =
      let at = well.cells place cell is.is in
      let same : at.kind ≡ kind = same_Some at.kind kind (sym at.is_kind ∙ is.of_kind) in
      let within : n < length at.kind.pins = subst (λ (k : LibCell). n < length k.pins) (sym same) below in
      let found = at.pins n (get_or at.kind.pins n no_pin) (slice_get-get_or at.kind.pins n no_pin within) in
      slice_get_within design.pins (cell_pin cell n) found.0 found.1

  library_within : (launch : Bool) (from to : Node) → IsLibraryArc design launch from to
      → (from.pin.0 < length design.pins) × (to.pin.0 < length design.pins)
  library_within launch from to arc =
      let usable = kind_usable arc.place arc.cell arc.kind arc.is_cell in
      let below : (arc.arc.from < length arc.kind.pins) × (arc.arc.to < length arc.kind.pins)
      = All-contains (λ (a : LibArc). (a.from < length arc.kind.pins) × (a.to < length arc.kind.pins)) arc.kind.arcs arc.arc usable.arcs arc.is_arc in (
        subst (λ n. n < length design.pins) (sym arc.from_pin) (pin_within arc.place arc.cell arc.kind arc.arc.from arc.is_cell below.0),
        subst (λ n. n < length design.pins) (sym arc.to_pin) (pin_within arc.place arc.cell arc.kind arc.arc.to arc.is_cell below.1),
      )

  arc_within : (from to : Node) (kind : ArcKind) → IsArcOf design from to kind
      → (from.pin.0 < length design.pins) × (to.pin.0 < length design.pins)
  arc_within from to Net arc = (
    elim arc.driver [ inl out ↦ role_within design from.pin.0 CellOut out | inr port ↦ role_within design from.pin.0 InPort port ],
    driver_within design to.pin.0 (source.Pin from.pin) arc.drives,
  )
  arc_within from to Cell arc = library_within false from to arc.library
  arc_within from to Launch arc = library_within true from to arc

  check_within : (check : Check) → IsCheck design check → (check.end.0 < length design.pins) × (check.clock.pin.0 < length design.pins)
  check_within check is =
      let usable = kind_usable is.place is.cell is.kind is.is_cell in
      let below : (is.rule.pin < length is.kind.pins) × (is.rule.clock < length is.kind.pins)
      = All-contains (λ (c : LibCheck). (c.pin < length is.kind.pins) × (c.clock < length is.kind.pins)) is.kind.checks is.rule usable.checks is.is_rule in (
        subst (λ n. n < length design.pins) (sym is.end) (pin_within is.place is.cell is.kind is.rule.pin is.is_cell below.0),
        subst (λ n. n < length design.pins) (sym is.clock_pin) (pin_within is.place is.cell is.kind is.rule.clock is.is_cell below.1),
      )

left_by : (design : Design) (from to : Node) (kind : ArcKind) → IsArcOf design from to kind → IsLaunching design from.pin.0 ⊎ IsChecked design from.pin.0
    → kind ≡ Launch
left_by design from to Net arc (inl launching) = absurd (arc.not_launching launching)
left_by design from to Net arc (inr checked) = absurd (arc.not_checked checked)
left_by design from to Cell arc (inl launching) = absurd (arc.source_not_launching launching)
left_by design from to Cell arc (inr checked) = absurd (arc.source_not_checked checked)
left_by design from to Launch arc end = refl

module _ (design : Design) (graph : Graph) (is : IsGraphOf design graph) where
  end_so : (pin : Pin) → IsPathEnd graph pin → IsLaunching design pin.0 ⊎ IsChecked design pin.0
  end_so pin (inl launched) =
      inl (
        launched.0.from,
        launched.0.to,
        ap (λ (p : Pin). p.0) launched.2,
        subst (λ (kind : ArcKind). IsArcOf design launched.0.from launched.0.to kind) launched.3 ((is.arcs launched.0).0 launched.1),
      )
  end_so pin (inr checked) = inr (checked.0, ap (λ (p : Pin). p.0) checked.2, (is.checks checked.0).0 checked.1)

  pub built_graph : IsWellFormedDesign design → IsWellFormedGraph graph
  built_graph well = record {
    arcs = λ k d below.
        let has = Contains-get_or graph.arcs k d below in
        let arc = get_or graph.arcs k d in
        let within = arc_within design well arc.from arc.to arc.kind ((is.arcs arc).0 has) in (
          subst (λ n. arc.from.pin.0 < n) (sym is.pins) within.0,
          subst (λ n. arc.to.pin.0 < n) (sym is.pins) within.1,
        );
    checks = λ k d below.
        let has = Contains-get_or graph.checks k d below in
        let check = get_or graph.checks k d in
        let within = check_within design well check ((is.checks check).0 has) in (
          subst (λ n. check.end.0 < n) (sym is.pins) within.0,
          subst (λ n. check.clock.pin.0 < n) (sym is.pins) within.1,
        );
    order = is.order;
    left_by_launches = λ arc has end. left_by design arc.from arc.to arc.kind ((is.arcs arc).0 has) (end_so arc.from.pin end);
  }
