-- Drivers of single bits.
use Rattle.std.proofs.Common.{◌≡◌, ℕ, Bool, List, slice_get, Option, Some, None, refl, subst}
use Rattle.source_types.specs.declared.netlists.Bit.{Bit}
use Rattle.source_types.specs.declared.netlists.Bit.TheVariants as bits
use Rattle.flat_model.specs.FlatNets.{NetBit, Origin, drive, origin_at}
use Rattle.flat_model.specs.Instances.{ModuleInstance}
use Rattle.netlist_model.specs.WellFormedNetlist.{IsBitOf, IsNetBit}
use Rattle.flat_design.specs.declared.drivers.driver_edges.Driver.{Driver}
use Rattle.flat_design.specs.declared.elaborate.hierarchy.Hierarchy.{Hierarchy}
use Rattle.flat_design.specs.Drivers.{HasBit, IsDriverEdgeOf, IsDriverByNumberOf, IsNetOf, row_of, value_driver}
use Rattle.flat_design.specs.Hierarchy.{scopes_in}
use Rattle.flat_design.proofs.HierarchyFacts.{one_at}

-- both are there, or there is no driver
pub both_of : (design : Hierarchy) (net : Option NetBit) (origin : Option Origin) (to : Option ℕ) (from : Option Driver)
    → IsNetOf design net to → IsDriverByNumberOf design origin from → IsDriverEdgeOf design (drive net origin) (row_of to from)
both_of design (Some net) (Some origin) (Some to) (Some from) is own = record { net = is; origin = own }
both_of design (Some net) None (Some to) None is own = tt
both_of design None None None None is own = tt
both_of design None (Some origin) None (Some from) is own = tt
both_of design net (Some origin) to None is own = absurd own
both_of design net None to (Some from) is own = absurd own
both_of design (Some net) origin None from is own = absurd is
both_of design None origin (Some to) from is own = absurd is

-- what a constant is
pub value_of : (design : Hierarchy) (path : List ℕ) (value : Option Bool) → IsDriverByNumberOf design (origin_at path (bits.Constant value)) (value_driver value)
value_of design path None = tt
value_of design path (Some value) = refl

-- the bit of a net is one of the module
pub net_there_at : (design : Hierarchy) (place : ℕ) (bit : Bit) (name : List ℕ) (index : Option ℕ) → bit ≡ bits.Net name index → HasBit design place bit
    → (scope : ModuleInstance) × (slice_get (scopes_in design) place ≡ Some scope) × IsNetBit scope.body.nets name index
net_there_at design place bit name index is has = (has.0, has.1, subst (IsBitOf has.0.body.nets) is has.2)

pub net_here : (design : Hierarchy) (place : ℕ) (bit : Bit) (name : List ℕ) (index : Option ℕ) (scope : ModuleInstance) → bit ≡ bits.Net name index → HasBit design place bit
    → slice_get (scopes_in design) place ≡ Some scope → IsNetBit scope.body.nets name index
net_here design place bit name index scope is has at =
    subst (λ (s : ModuleInstance). IsNetBit s.body.nets name index) (one_at (scopes_in design) place has.0 scope has.1 at) (subst (IsBitOf has.0.body.nets) is has.2)
