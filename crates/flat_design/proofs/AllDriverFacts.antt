-- What a module instance drives: the top by its pins, any other one by the instance that it stands for.
use Rattle.std.proofs.Common.{◌≡◌, ◌++◌, ℕ, List, [], slice_get, Option, Some, None, refl, sym, ◌∙◌, ap, subst}
use Rattle.std.specs.List.{AllZip, flat_map, zip}
use Rattle.flat_model.specs.Connections.{connected, names_of, ports_of}
use Rattle.flat_model.specs.FlatNets.{NetDriver, assign_drivers, boundary_drivers, cell_drivers, drivers_of, outside_of, port_drivers, scope_drivers, tie_drivers, top_port_drivers}
use Rattle.flat_model.specs.Instances.{Placed, ModuleInstance, path_of, top_scope}
use Rattle.flat_design.specs.declared.drivers.driver_edges.DriverEdge.{DriverEdge}
use Rattle.flat_design.specs.declared.elaborate.hierarchy.Hierarchy.{Hierarchy}
use Rattle.flat_design.specs.declared.elaborate.elaboration.Outer.{Outer}
use Rattle.flat_design.specs.declared.elaborate.elaboration.ModuleInstanceRow.{ModuleInstanceRow}
use Rattle.flat_design.specs.Drivers.{Adds, IsDriverEdge}
use Rattle.flat_design.specs.Hierarchy.{IsHierarchy, cells_in, scopes_in}
use Rattle.flat_design.specs.Elaboration.{IsOpened, IsOpenedBy}
use Rattle.flat_design.proofs.HierarchyFacts.{one_at, opened_by}
use Rattle.flat_design.proofs.DistinctPaths.{scopes_distinct}
use Rattle.flat_design.proofs.RowFacts.{rows_then}

-- a module that stands for no instance is the top
pub top_found : (design : Hierarchy) (n : ℕ) (row : ModuleInstanceRow) (scope : ModuleInstance) → IsHierarchy design → slice_get design.elaboration.scopes n ≡ Some row
    → slice_get (scopes_in design) n ≡ Some scope → row.outer ≡ None → scope ≡ top_scope design.top.now
top_found design n row scope is row_at at none =
    let known = is.elaboration.scopes n row row_at in
    let own : IsOpened (scopes_in design) known.scope None = subst (λ (o : Option Outer). IsOpened (scopes_in design) known.scope o) none known.opened in
    let first : n ≡ 0 = scopes_distinct design.modules.now design.top.now n 0 known.scope (top_scope design.top.now) known.at refl own.0 in
    one_at (scopes_in design) 0 scope (top_scope design.top.now) (ap (slice_get (scopes_in design)) (sym first) ∙ at) refl

pub boundary_top : (design : Hierarchy) (scope : ModuleInstance) (old new : List DriverEdge) → scope ≡ top_scope design.top.now
    → Adds design (flat_map top_port_drivers design.top.now.ports) old new → Adds design (boundary_drivers scope) old new
boundary_top design scope old new same added = subst (λ (s : ModuleInstance). Adds design (boundary_drivers s) old new) (sym same) added

-- the module that stands for an instance
pub opened_there : (design : Hierarchy) (n : ℕ) (row : ModuleInstanceRow) (scope : ModuleInstance) (at : Outer) → IsHierarchy design → slice_get design.elaboration.scopes n ≡ Some row
    → slice_get (scopes_in design) n ≡ Some scope → row.outer ≡ Some at → IsOpenedBy (scopes_in design) scope at
opened_there design n row scope at is row_at found some =
    opened_by design.modules.now (scopes_in design) n row scope at (is.elaboration.scopes n row row_at) found some

pub boundary_inner : (scope : ModuleInstance) (placed : Placed) → scope.path ≡ path_of placed → scope.opened_by ≡ Some placed.instance
    → boundary_drivers scope ≡ flat_map (port_drivers scope.path placed.scope.path) (zip scope.body.ports (connected (names_of (ports_of scope.body)) placed.instance.links))
boundary_inner scope placed path opened =
    let outside : outside_of scope.path ≡ placed.scope.path = ap outside_of path in
    let own : boundary_drivers scope ≡ flat_map (port_drivers scope.path (outside_of scope.path)) (zip scope.body.ports (connected (names_of (ports_of scope.body)) placed.instance.links)) =
    rw (boundary_drivers, opened) refl in
    own
    ∙ ap (λ (out : List ℕ). flat_map (port_drivers scope.path out) (zip scope.body.ports (connected (names_of (ports_of scope.body)) placed.instance.links))) outside

pub boundary_opened : (design : Hierarchy) (scope : ModuleInstance) (at : Outer) (old new : List DriverEdge) → (own : IsOpenedBy (scopes_in design) scope at)
    → Adds design (flat_map (port_drivers scope.path own.placed.scope.path)
    (zip scope.body.ports (connected (names_of (ports_of scope.body)) own.placed.instance.links))) old new
    → Adds design (boundary_drivers scope) old new
boundary_opened design scope at old new own added =
    subst (λ (drivers : List NetDriver). Adds design drivers old new) (sym (boundary_inner scope own.placed own.path own.opened)) added

-- ports, ties and assigns, one after the other
pub scope_added : (design : Hierarchy) (scope : ModuleInstance) (old first second new : List DriverEdge) → Adds design (boundary_drivers scope) old first
    → Adds design (flat_map (tie_drivers scope.path) scope.body.nets) first second → Adds design (flat_map (assign_drivers scope.path) scope.body.assigns) second new
    → Adds design (scope_drivers scope) old new
scope_added design scope old first second new ports ties assigns =
    rows_then (IsDriverEdge design) (boundary_drivers scope) (flat_map (tie_drivers scope.path) scope.body.nets ++ flat_map (assign_drivers scope.path) scope.body.assigns) old first new ports
    (rows_then (IsDriverEdge design) (flat_map (tie_drivers scope.path) scope.body.nets) (flat_map (assign_drivers scope.path) scope.body.assigns) first second new ties assigns)

-- all of them, from no rows on
pub drivers_added : (design : Hierarchy) (none first rows : List DriverEdge) → none ≡ [] → Adds design (flat_map scope_drivers (scopes_in design)) none first
    → Adds design (flat_map cell_drivers (cells_in design)) first rows
    → AllZip (IsDriverEdge design) (drivers_of design.modules.now design.library.now design.top.now) rows
drivers_added design none first rows empty scopes cells =
    let whole = rows_then (IsDriverEdge design) (flat_map scope_drivers (scopes_in design)) (flat_map cell_drivers (cells_in design)) none first rows scopes cells in
    let same : whole.0 ≡ rows = sym (whole.1 ∙ ap (λ (xs : List DriverEdge). xs ++ whole.0) empty) in
    subst (AllZip (IsDriverEdge design) (drivers_of design.modules.now design.library.now design.top.now)) same whole.2
