-- Drivers across the ports of a module.
use Rattle.std.proofs.Common.{◌≡◌, ℕ, min, List, length, slice_get, Option, Some, sym, subst, arith}
use Rattle.std.proofs.lemmas.List.{length-map}
use Rattle.std.proofs.lemmas.Slice.Zip.{length-zip}
use Rattle.std.specs.List.{zip}
use Rattle.source_types.specs.declared.netlists.Bit.{Bit}
use Rattle.source_types.specs.declared.netlists.Bit.TheVariants as bits
use Rattle.source_types.specs.declared.netlists.Port.{Port}
use Rattle.flat_model.specs.FlatNets.{NetDriver, across, port_bits}
use Rattle.flat_model.specs.Instances.{ModuleInstance}
use Rattle.netlist_model.specs.Ranges.{indices, width}
use Rattle.netlist_model.specs.WellFormedNetlist.{IsNetBit, Selects}
use Rattle.netlist_model.proofs.RangeFacts.{indices_length}
use Rattle.flat_design.specs.declared.elaborate.hierarchy.Hierarchy.{Hierarchy}
use Rattle.flat_design.specs.Drivers.{HasPort}
use Rattle.flat_design.specs.Hierarchy.{scopes_in}
use Rattle.flat_design.proofs.TieFacts.{selects_at}

-- how a bit of a port and a bit outside drive each other
abbrev pub pair_across : Port → List ℕ → List ℕ → Bit × Bit → Option NetDriver
pair_across port inside outside one = across port.direction inside outside one.0 one.1

-- a bit of a port is one of the module
pub port_bit_there : (design : Hierarchy) (place : ℕ) (port : Port) (at : ℕ) (index : Option ℕ) → HasPort design place port
    → slice_get (indices port.range) at ≡ Some index
    → (scope : ModuleInstance) × (slice_get (scopes_in design) place ≡ Some scope) × IsNetBit scope.body.nets port.name index
port_bit_there design place port at index has found =
    let wire = has.2.0 in
    let selects : Selects index wire.range = subst (λ r. Selects index r) (sym has.2.3) (selects_at port.range at index found) in
    (has.0, has.1, (wire, has.2.1, has.2.2, selects))

pub pairs_length : (port : Port) (connection : List Bit) → length (zip (port_bits port) connection) ≡ min (width port.range) (length connection)
pairs_length port connection =
    let both = length-zip (port_bits port) connection in
    let a = length-map (indices port.range) (λ (index : Option ℕ). bits.Net port.name index) in
    let b = indices_length port.range in
    omega (arith, both, a, b)
