-- The timing graph of two registers in a row, by example: from port d (pin 1) through r1 (pins 3 to 5) and r2 (pins 6
-- to 8) to port q (pin 2), both clocked by port clk (pin 0). It has 14 arcs, 10 of nets and 4 that launch, and 4
-- checks.
use Rattle.std.proofs.Common.{◌≡◌, ◌∙◌, ℕ, zero, suc, ◌+◌, ◌<◌, get_or, List, [], ◌∷◌, Option, Some, None, codes, refl, sym, ap, subst, inl, inr, arith}
use Rattle.std.specs.Prelude.{◌⊎◌, ◌↔◌, Bool, true, false, pos, slice_get}
use Rattle.std.specs.List.{All, Contains}
use Rattle.std.proofs.lemmas.Bool.{false≢true}
use Rattle.std.proofs.lemmas.List.Elements.{All-contains}
use Rattle.std.proofs.lemmas.Option.{none-some, same_Some}
use Rattle.timing_types.specs.declared.designs.CellInfo.{CellInfo}
use Rattle.timing_types.specs.declared.designs.Design.{Design}
use Rattle.timing_types.specs.declared.designs.PinInfo.{PinInfo}
use Rattle.timing_types.specs.declared.designs.Role.{Role}
use Rattle.timing_types.specs.declared.designs.Role.TheVariants as role
use Rattle.timing_types.specs.declared.designs.Source.{Source}
use Rattle.timing_types.specs.declared.designs.Source.TheVariants as source
use Rattle.timing_types.specs.declared.graphs.Check.{Check}
use Rattle.pin_types.specs.declared.library_cells.Direction.{Direction}
use Rattle.pin_types.specs.declared.library_cells.Direction.TheVariants as direction
use Rattle.pin_types.specs.declared.library_cells.LibArc.{LibArc}
use Rattle.pin_types.specs.declared.library_cells.LibCell.{LibCell}
use Rattle.pin_types.specs.declared.library_cells.LibCheck.{LibCheck}
use Rattle.pin_types.specs.declared.library_cells.LibPin.{LibPin}
use Rattle.pin_types.specs.declared.pins.Edge.{Edge}
use Rattle.pin_types.specs.declared.pins.Edge.TheVariants.{Rise, Fall}
use Rattle.pin_types.specs.declared.pins.Node.{Node}
use Rattle.pin_types.specs.declared.pins.Pin.{Pin}
use Rattle.pin_types.specs.declared.pins.Side.{Side}
use Rattle.pin_types.specs.declared.pins.Side.TheVariants.{Setup, Hold}
use Rattle.design_model.specs.DesignPins.{driver_of, IsCell, IsInputPort, IsOther, role_of}
use Rattle.timing_model.specs.TimingGraph.{IsCellArc, IsLaunchArc, IsNetArc}
use Rattle.design_model.specs.LibraryArcs.{IsCheck, IsChecked, IsLaunching, IsLibraryArc, joins}

-- ---- the design

abbrev lib_pin : List ℕ → Direction → LibPin
lib_pin name way = record { name = name; direction = way; function = None }

abbrev launch_arc : LibArc
launch_arc = record { from = 1; to = 2; rise_rise = true; rise_fall = true; fall_rise = false; fall_fall = false; launch = true }

abbrev check_of : Side → LibCheck
check_of side = record { pin = 0; clock = 1; clock_edge = Rise; side = side }

abbrev flip_flop : LibCell
flip_flop = record {
  name = codes "DFF";
  pins = lib_pin (codes "D") direction.Input ∷ lib_pin (codes "CK") direction.Input ∷ lib_pin (codes "Q") direction.Output ∷ [];
  arcs = launch_arc ∷ [];
  checks = check_of Setup ∷ check_of Hold ∷ [];
  refused = false;
}

abbrev port : List ℕ → Role → Source → PinInfo
port name is driver = record { name = name; role = is; cell = None; lib_pin = 0; driver = driver }

abbrev inner : List ℕ → Role → ℕ → ℕ → Source → PinInfo
inner name is cell place driver = record { name = name; role = is; cell = Some cell; lib_pin = place; driver = driver }

abbrev by : ℕ → Source
by pin = source.Pin (record { 0 = pin })

abbrev register : List ℕ → ℕ → CellInfo
register name first = record { name = name; kind = 0; first = record { 0 = first }; count = 3 }

abbrev pub two_registers : Design
two_registers = record {
  top = codes "top";
  unit = pos 1000000;
  pins =
      port (codes "clk") role.InPort source.Nothing ∷ port (codes "d") role.InPort source.Nothing ∷ port (codes "q") role.OutPort (by 8)
      ∷ inner (codes "r1/D") role.CellIn 0 0 (by 1) ∷ inner (codes "r1/CK") role.CellIn 0 1 (by 0)
      ∷ inner (codes "r1/Q") role.CellOut 0 2 source.Nothing ∷ inner (codes "r2/D") role.CellIn 1 0 (by 5)
      ∷ inner (codes "r2/CK") role.CellIn 1 1 (by 0) ∷ inner (codes "r2/Q") role.CellOut 1 2 source.Nothing ∷ [];
  cells = register (codes "r1") 3 ∷ register (codes "r2") 6 ∷ [];
  nets = [];
  kinds = flip_flop ∷ [];
}

-- ---- its cells

-- a cell of it is a register whose first pin is one of these
first_pins : (place : ℕ) (cell : CellInfo) → slice_get two_registers.cells place ≡ Some cell
    → (cell.kind ≡ 0) × ((cell.first.0 ≡ 3) ⊎ (cell.first.0 ≡ 6))
first_pins zero cell e =
    let same = same_Some (register (codes "r1") 3) cell e in
    (sym (ap (λ (c : CellInfo). c.kind) same), inl (sym (ap (λ (c : CellInfo). c.first.0) same)))
first_pins (suc zero) cell e =
    let same = same_Some (register (codes "r2") 6) cell e in
    (sym (ap (λ (c : CellInfo). c.kind) same), inr (sym (ap (λ (c : CellInfo). c.first.0) same)))
first_pins (suc (suc place)) cell e = absurd (none-some cell e)

its_kind : (place : ℕ) (cell : CellInfo) (kind : LibCell) → IsCell two_registers place cell kind → flip_flop ≡ kind
its_kind place cell kind is =
    same_Some flip_flop kind (subst (λ n. slice_get two_registers.kinds n ≡ Some kind) (first_pins place cell is.is).0 is.of_kind)

pub only : {X : Type 0} (x y : X) (k : ℕ) → k < 1 → get_or (x ∷ []) k y ≡ y → x ≡ y
only x y zero below e = e
only x y (suc k) below e = absurd (omega arith)

-- ---- its library arcs and checks

rising : (from to : Edge) → joins launch_arc from to ≡ true → from ≡ Rise
rising Rise to e = refl
rising Fall Rise e = absurd (false≢true e)
rising Fall Fall e = absurd (false≢true e)

-- pins of a register by the first one: its clock pin and its output
abbrev pub LaunchPins : ℕ → ℕ → Type 0
LaunchPins from to = ((from ≡ 4) × (to ≡ 5)) ⊎ ((from ≡ 7) × (to ≡ 8))

library_arcs : (launch : Bool) (from to : Node) → IsLibraryArc two_registers launch from to
    → (true ≡ launch) × (from.edge ≡ Rise) × LaunchPins from.pin.0 to.pin.0
library_arcs launch from to arc =
    let kind = its_kind arc.place arc.cell arc.kind arc.is_cell in
    let has : Contains flip_flop.arcs arc.arc = subst (λ (k : LibCell). Contains k.arcs arc.arc) (sym kind) arc.is_arc in
    let same : launch_arc ≡ arc.arc = only launch_arc arc.arc has.0 has.1 has.2 in
    let from_at : 1 ≡ arc.arc.from = ap (λ (a : LibArc). a.from) same in
    let to_at : 2 ≡ arc.arc.to = ap (λ (a : LibArc). a.to) same in
    let from_is : from.pin.0 ≡ arc.cell.first.0 + arc.arc.from = arc.from_pin in
    let to_is : to.pin.0 ≡ arc.cell.first.0 + arc.arc.to = arc.to_pin in (
      ap (λ (a : LibArc). a.launch) same ∙ arc.is_launch,
      rising from.edge to.edge (subst (λ (a : LibArc). joins a from.edge to.edge ≡ true) (sym same) arc.edges),
      elim (first_pins arc.place arc.cell arc.is_cell.is).1 [
        | inl first ↦ inl (omega arith, omega arith)
        | inr first ↦ inr (omega arith, omega arith)
      ],
    )

-- no arc of it goes through a cell without launching
pub no_cell_arc : (from to : Node) → IsCellArc two_registers from to → ⊥
no_cell_arc from to arc = false≢true (sym (library_arcs false from to arc.library).0)

launching : (pin : ℕ) → IsLaunching two_registers pin → (pin ≡ 4) ⊎ (pin ≡ 7)
launching pin is =
    let at : is.0.pin.0 ≡ pin = is.2 in
    elim (library_arcs true is.0 is.1 is.3).2 [ inl one ↦ inl (sym at ∙ one.0) | inr two ↦ inr (sym at ∙ two.0) ]

rules : All (λ (rule : LibCheck). (rule.pin ≡ 0) × (rule.clock ≡ 1) × (rule.clock_edge ≡ Rise)) flip_flop.checks
rules zero d below = (refl, refl, refl)
rules (suc zero) d below = (refl, refl, refl)
rules (suc (suc k)) d below = absurd (omega arith)

-- a data pin and the clock pin that it is checked against
abbrev pub CheckedPins : ℕ → ℕ → Type 0
CheckedPins end clock = ((end ≡ 3) × (clock ≡ 4)) ⊎ ((end ≡ 6) × (clock ≡ 7))

checks_are : (check : Check) → IsCheck two_registers check
    → (check.clock.edge ≡ Rise) × CheckedPins check.end.0 check.clock.pin.0
checks_are check is =
    let kind = its_kind is.place is.cell is.kind is.is_cell in
    let has : Contains flip_flop.checks is.rule = subst (λ (k : LibCell). Contains k.checks is.rule) (sym kind) is.is_rule in
    let rule = All-contains (λ (r : LibCheck). (r.pin ≡ 0) × (r.clock ≡ 1) × (r.clock_edge ≡ Rise)) flip_flop.checks is.rule rules has in
    let pin_at : is.rule.pin ≡ 0 = rule.0 in
    let clock_at : is.rule.clock ≡ 1 = rule.1 in
    let end_is : check.end.0 ≡ is.cell.first.0 + is.rule.pin = is.end in
    let clock_is : check.clock.pin.0 ≡ is.cell.first.0 + is.rule.clock = is.clock_pin in (
      is.clock_edge ∙ rule.2,
      elim (first_pins is.place is.cell is.is_cell.is).1 [
        | inl first ↦ inl (omega arith, omega arith)
        | inr first ↦ inr (omega arith, omega arith)
      ],
    )

-- ---- its nets

-- the load and the driver of each net arc
abbrev pub NetPins : ℕ → ℕ → Type 0
NetPins to from =
    ((to ≡ 2) × (from ≡ 8)) ⊎ (((to ≡ 3) × (from ≡ 1)) ⊎ (((to ≡ 4) × (from ≡ 0)) ⊎ (((to ≡ 6) × (from ≡ 5)) ⊎ ((to ≡ 7) × (from ≡ 0)))))

-- a pin's number and one, or 0 where nothing drives
driving : Option Source → ℕ
driving (Some (source.Pin pin)) = suc pin.0
driving _ = 0

same_number : (m n : ℕ) → suc m ≡ suc n → n ≡ m
same_number m n e = omega arith

nothing_drives : (n : ℕ) → 0 ≡ suc n → ⊥
nothing_drives n e = omega arith

drivers : (to : ℕ) (from : Pin) → driving (driver_of two_registers to) ≡ suc from.0 → NetPins to from.0
unfolding driving
drivers zero from e = absurd (nothing_drives from.0 e)
drivers (suc zero) from e = absurd (nothing_drives from.0 e)
drivers (suc (suc zero)) from e = inl (refl, same_number 8 from.0 e)
drivers (suc (suc (suc zero))) from e = inr (inl (refl, same_number 1 from.0 e))
drivers (suc (suc (suc (suc zero)))) from e = inr (inr (inl (refl, same_number 0 from.0 e)))
drivers (suc (suc (suc (suc (suc zero))))) from e = absurd (nothing_drives from.0 e)
drivers (suc (suc (suc (suc (suc (suc zero)))))) from e = inr (inr (inr (inl (refl, same_number 5 from.0 e))))
drivers (suc (suc (suc (suc (suc (suc (suc zero))))))) from e = inr (inr (inr (inr (refl, same_number 0 from.0 e))))
drivers (suc (suc (suc (suc (suc (suc (suc (suc zero)))))))) from e = absurd (nothing_drives from.0 e)
drivers (suc (suc (suc (suc (suc (suc (suc (suc (suc to))))))))) from e = absurd (nothing_drives from.0 e)

-- its net arcs: five nets, each transition to the same one
nets_are : (from to : Node) → IsNetArc two_registers from to → (from.edge ≡ to.edge) × NetPins to.pin.0 from.pin.0
unfolding driving
nets_are from to arc = (arc.same_edge, drivers to.pin.0 from.pin (ap driving arc.drives))

launches_are : (from to : Node) → IsLaunchArc two_registers from to → (from.edge ≡ Rise) × LaunchPins from.pin.0 to.pin.0
launches_are from to arc = let is = library_arcs true from to arc in (is.1, is.2)

-- ---- and all of these are arcs and checks of it

-- what a pin is, and that it is of no other direction
is_other : Option Role → Bool
is_other (Some role.CellOther) = true
is_other _ = false

not_other : (pin : ℕ) → is_other (role_of two_registers pin) ≡ false → IsOther two_registers pin → ⊥
unfolding is_other
not_other pin known e = false≢true (sym known ∙ ap is_other e)

checked : (pin : ℕ) → IsChecked two_registers pin → (pin ≡ 3) ⊎ (pin ≡ 6)
checked pin is =
    let at : is.0.end.0 ≡ pin = is.1 in
    elim (checks_are is.0 is.2).1 [ inl one ↦ inl (sym at ∙ one.0) | inr two ↦ inr (sym at ∙ two.0) ]

-- a pin that drives launches nothing and is not checked
abbrev Free : ℕ → Type 0
Free pin = (IsLaunching two_registers pin → ⊥) × (IsChecked two_registers pin → ⊥)

free : (pin : ℕ) → (pin < 3) ⊎ ((pin ≡ 5) ⊎ (pin ≡ 8)) → Free pin
free pin is = (
  λ launches. elim (launching pin launches) [
    | inl one ↦ elim is [ inl a ↦ omega arith | inr b ↦ elim b [ inl c ↦ omega arith | inr d ↦ omega arith ] ]
    | inr two ↦ elim is [ inl a ↦ omega arith | inr b ↦ elim b [ inl c ↦ omega arith | inr d ↦ omega arith ] ]
  ],
  λ checks. elim (checked pin checks) [
    | inl one ↦ elim is [ inl a ↦ omega arith | inr b ↦ elim b [ inl c ↦ omega arith | inr d ↦ omega arith ] ]
    | inr two ↦ elim is [ inl a ↦ omega arith | inr b ↦ elim b [ inl c ↦ omega arith | inr d ↦ omega arith ] ]
  ],
)

-- a net arc between pins of these numbers
net_at : (from to : Node) (f t : ℕ) → from.edge ≡ to.edge → from.pin.0 ≡ f → to.pin.0 ≡ t
    → driver_of two_registers t ≡ Some (by f) → (role_of two_registers f ≡ Some role.CellOut) ⊎ IsInputPort two_registers f
    → is_other (role_of two_registers t) ≡ false → (f < 3) ⊎ ((f ≡ 5) ⊎ (f ≡ 8)) → IsNetArc two_registers from to
net_at from to f t edge from_is to_is drives driver other outer =
    let pin : ℕ → Pin = λ n. record { 0 = n } in record {
      drives = subst (λ n. driver_of two_registers n ≡ Some (source.Pin from.pin)) (sym to_is)
          (subst (λ n. driver_of two_registers t ≡ Some (source.Pin (pin n))) (sym from_is) drives);
      driver = subst (λ n. (role_of two_registers n ≡ Some role.CellOut) ⊎ IsInputPort two_registers n) (sym from_is) driver;
      same_edge = edge;
      load_has_arcs = subst (λ n. IsOther two_registers n → ⊥) (sym to_is) (not_other t other);
      not_launching = subst (λ n. IsLaunching two_registers n → ⊥) (sym from_is) (free f outer).0;
      not_checked = subst (λ n. IsChecked two_registers n → ⊥) (sym from_is) (free f outer).1;
    }

net_of : (from to : Node) → (from.edge ≡ to.edge) × NetPins to.pin.0 from.pin.0 → IsNetArc two_registers from to
unfolding is_other
net_of from to (edge, inl at) = net_at from to 8 2 edge at.1 at.0 refl (inl refl) refl (inr (inr refl))
net_of from to (edge, inr (inl at)) = net_at from to 1 3 edge at.1 at.0 refl (inr refl) refl (inl (omega arith))
net_of from to (edge, inr (inr (inl at))) = net_at from to 0 4 edge at.1 at.0 refl (inr refl) refl (inl (omega arith))
net_of from to (edge, inr (inr (inr (inl at)))) = net_at from to 5 6 edge at.1 at.0 refl (inl refl) refl (inr (inl refl))
net_of from to (edge, inr (inr (inr (inr at)))) = net_at from to 0 7 edge at.1 at.0 refl (inr refl) refl (inl (omega arith))

-- a register of it at a place, with its first pin
abbrev register_at : ℕ → CellInfo
register_at zero = register (codes "r1") 3
register_at (suc place) = register (codes "r2") 6

launches_rise : (to : Edge) → joins launch_arc Rise to ≡ true
launches_rise Rise = refl
launches_rise Fall = refl

launch_at : (from to : Node) (place : ℕ) → IsCell two_registers place (register_at place) flip_flop → from.edge ≡ Rise
    → from.pin.0 ≡ (register_at place).first.0 + 1 → to.pin.0 ≡ (register_at place).first.0 + 2
    → (IsOther two_registers from.pin.0 → ⊥) → (IsOther two_registers to.pin.0 → ⊥) → IsLaunchArc two_registers from to
launch_at from to place is edge from_is to_is from_not to_not = record {
  place = place;
  cell = register_at place;
  kind = flip_flop;
  arc = launch_arc;
  is_cell = is;
  is_arc = (0, omega arith, refl);
  is_launch = refl;
  from_pin = from_is;
  to_pin = to_is;
  edges = subst (λ (e : Edge). joins launch_arc e to.edge ≡ true) (sym edge) (launches_rise to.edge);
  from_has_arcs = from_not;
  to_has_arcs = to_not;
}

launch_of : (from to : Node) → (from.edge ≡ Rise) × LaunchPins from.pin.0 to.pin.0 → IsLaunchArc two_registers from to
unfolding is_other
launch_of from to (edge, inl at) = launch_at from to 0 (record { is = refl; of_kind = refl }) edge at.0 at.1
    (subst (λ n. IsOther two_registers n → ⊥) (sym at.0) (not_other 4 refl)) (subst (λ n. IsOther two_registers n → ⊥) (sym at.1) (not_other 5 refl))
launch_of from to (edge, inr at) = launch_at from to 1 (record { is = refl; of_kind = refl }) edge at.0 at.1
    (subst (λ n. IsOther two_registers n → ⊥) (sym at.0) (not_other 7 refl)) (subst (λ n. IsOther two_registers n → ⊥) (sym at.1) (not_other 8 refl))

side_rule : (side : Side) → Contains flip_flop.checks (check_of side)
side_rule Setup = (0, omega arith, refl)
side_rule Hold = (1, omega arith, refl)

check_of_it : (check : Check) → (check.clock.edge ≡ Rise) × CheckedPins check.end.0 check.clock.pin.0 → IsCheck two_registers check
check_of_it check (edge, inl at) = record {
  place = 0;
  cell = register_at 0;
  kind = flip_flop;
  rule = check_of check.side;
  is_cell = record { is = refl; of_kind = refl };
  is_rule = side_rule check.side;
  end = at.0;
  clock_pin = at.1;
  clock_edge = edge;
  side = refl;
}
check_of_it check (edge, inr at) = record {
  place = 1;
  cell = register_at 1;
  kind = flip_flop;
  rule = check_of check.side;
  is_cell = record { is = refl; of_kind = refl };
  is_rule = side_rule check.side;
  end = at.0;
  clock_pin = at.1;
  clock_edge = edge;
  side = refl;
}

-- ten net arcs: five nets, each transition to the same one
pub nets : (from to : Node) → IsNetArc two_registers from to ↔ ((from.edge ≡ to.edge) × NetPins to.pin.0 from.pin.0)
nets from to = (nets_are from to, net_of from to)

-- four launch arcs: from the rising edge of a register's clock pin to both edges of its output
pub launches : (from to : Node) → IsLaunchArc two_registers from to ↔ ((from.edge ≡ Rise) × LaunchPins from.pin.0 to.pin.0)
launches from to = (launches_are from to, launch_of from to)

-- four checks: on each side, of a data pin against the rising edge of the register's clock pin
pub checks : (check : Check) → IsCheck two_registers check ↔ ((check.clock.edge ≡ Rise) × CheckedPins check.end.0 check.clock.pin.0)
checks check = (checks_are check, check_of_it check)
