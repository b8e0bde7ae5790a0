-- The ends of nets by their numbers are the sources of a design's nets, and a net with a fault by its sources has one.
use Rattle.std.proofs.Common.{◌≡◌, ◌<◌, ◌⊎◌, inl, inr, ℕ, true, false, List, length, nat_lt, slice_get, Some, ◌∙◌, ap, arith}
use Rattle.std.proofs.lemmas.Bool.{cases_lt, ltb-true}
use Rattle.std.specs.List.{AllZip, flat_map}
use Rattle.timing_types.specs.declared.designs.Source.{Source}
use Rattle.source_types.specs.declared.fault_kinds.DesignKind.TheVariants as fault
use Rattle.flat_model.specs.FlatNets.{FlatNet, bit_of, nets_in}
use Rattle.flat_model.specs.Flattening.{NoneOfNets}
use Rattle.text_model.proofs.ListFacts.{element_at}
use Rattle.flat_design.specs.declared.drivers.driver_edges.DriverEdge.{DriverEdge}
use Rattle.flat_design.specs.declared.drivers.driver_edges.Driver.{Driver}
use Rattle.flat_design.specs.declared.elaborate.hierarchy.Hierarchy.{Hierarchy}
use Rattle.flat_design.specs.declared.drivers.source_table.SourceTable.{SourceTable}
use Rattle.flat_design.specs.Ends.{HaveEnds}
use Rattle.flat_design.specs.Drivers.{IsDriverEdge}
use Rattle.flat_design.specs.Hierarchy.{IsHierarchy, scopes_in}
use Rattle.flat_design.specs.NamedFaults.{AreSourcesOf, flat_of}
use Rattle.flat_design.specs.NetEnds.{IsFaulty, IsTableOf, TellsTwo}
use Rattle.flat_design.specs.PinRows.{AreEnds}
use Rattle.flat_design.specs.Sources.{AreWithin, HaveOne, Returns, driven_by, has_two}
use Rattle.flat_design.proofs.EndFacts.{driven_past}
use Rattle.flat_design.proofs.DrivenNumbers.{sources_count}
use Rattle.flat_design.proofs.DrivenPaths.{comes_back_by_bit, returns_by_number, source_by_number}
use Rattle.flat_design.proofs.RangeFacts.{map_at}
use Rattle.flat_design.proofs.SourceFacts.{nets_within}

-- ---- nets that have no two sources

pub one_each : (nets pins : ℕ) (rows : List DriverEdge) → AreWithin nets pins rows → TellsTwo rows nets false → HaveOne rows
one_each nets pins rows within none net =
    elim (cases_lt net nets) [
      | inl low ↦ none net low
      | inr past ↦ ap (λ (from : List Driver). nat_lt 1 (length from)) (driven_past nets rows net (nets_within nets pins rows within) past)
    ]

-- ---- by design

pub sources_known : (design : Hierarchy) (rows : List DriverEdge) → IsHierarchy design → AllZip (IsDriverEdge design) (flat_of design).drivers rows → AreSourcesOf design rows
sources_known design rows is all = record {
  count = λ net bit at. sources_count design (flat_of design).drivers rows net bit is all at;
  there = λ net bit at back. comes_back_by_bit design (flat_of design).drivers rows net bit is all at back;
  back = λ net bit at back. returns_by_number design (flat_of design).drivers rows net bit is all at back;
}

pub ends_known : (design : Hierarchy) (rows : List DriverEdge) (ends : List Source) (nets : ℕ) → IsHierarchy design
    → AllZip (IsDriverEdge design) (flat_of design).drivers rows → nets ≡ design.elaboration.nets → HaveEnds rows nets ends → AreEnds design ends
ends_known design rows ends nets is all same known = record {
  count = known.count ∙ same;
  each = λ number bit end at found. source_by_number design (flat_of design).drivers rows number bit end is all at (known.each number end found);
}

fault_of_net : (design : Hierarchy) (rows : List DriverEdge) (n : ℕ) (net : FlatNet) → IsHierarchy design → AllZip (IsDriverEdge design) (flat_of design).drivers rows
    → slice_get (flat_of design).nets n ≡ Some net → NoneOfNets (flat_of design) → (has_two rows n ≡ true) ⊎ Returns rows n → ⊥
fault_of_net design rows n net is all at none (inl two) =
    let numbered = map_at bit_of (flat_map nets_in (scopes_in design)) n net at in
    let count = sources_count design (flat_of design).drivers rows n (bit_of net) is all numbered in
    let many = ltb-true 1 (length (driven_by rows n)) two in
    none n net fault.TwoDrivers at (omega (arith, count, many))
fault_of_net design rows n net is all at none (inr back) =
    let numbered = map_at bit_of (flat_map nets_in (scopes_in design)) n net at in
    none n net fault.AssignCycle at (comes_back_by_bit design (flat_of design).drivers rows n (bit_of net) is all numbered back)

-- where a net has a fault by its sources, not all nets are without one
pub never_sound : (design : Hierarchy) (table : SourceTable) → IsHierarchy design → IsTableOf design table
    → IsFaulty table.rows.now (length table.last) → NoneOfNets (flat_of design) → ⊥
never_sound design table is known faulty none =
    let count = is.elaboration.nets in
    let own = known.nets in
    let low : faulty.0 < length (flat_of design).nets = omega (arith, faulty.1, own, count) in
    let net = element_at (flat_of design).nets faulty.0 low in
    fault_of_net design table.rows.now faulty.0 net.0 is known.rows net.1 none faulty.2
