-- The bits of a net that is tied to a value.
use Rattle.std.proofs.Common.{◌≡◌, ◌+◌, ◌-◌, ◌<◌, inl, inr, ℕ, zero, suc, Bool, List, [], map, slice_get, Option, Some, None, refl, sym, ◌∙◌, subst, arith}
use Rattle.std.proofs.lemmas.Bool.{cases_lt}
use Rattle.std.proofs.lemmas.Option.{same_Some, slice_get_within}
use Rattle.std.specs.List.{Contains}
use Rattle.source_types.specs.declared.netlists.Range.{Range}
use Rattle.source_types.specs.declared.netlists.Wire.{Wire}
use Rattle.flat_model.specs.FlatNets.{tie_drivers}
use Rattle.netlist_model.specs.Ranges.{from_to, indices, span}
use Rattle.netlist_model.specs.WellFormedNetlist.{IsBetween, IsNetBit, Selects}
use Rattle.netlist_model.proofs.RangeFacts.{span_length}
use Rattle.flat_design.specs.Drivers.{tied_bit}
use Rattle.flat_design.proofs.DistinctFacts.{get_map}
use Rattle.flat_design.proofs.RangeFacts.{down_at, down_within, up_at, up_within}

between_at : (range : Range) (place i : ℕ) → slice_get (from_to range.left range.right) place ≡ Some i → IsBetween range i
between_at range place i at =
    let count = span_length range.left range.right in
    let low = slice_get_within (from_to range.left range.right) place i at in
    let within : place < span range.left range.right = omega (arith, count, low) in
    elim (cases_lt range.right range.left) [
      | inl falls ↦
          let own : range.left - place ≡ i = same_Some (range.left - place) i (sym (down_at range.left range.right place falls within) ∙ at) in
          let few = down_within range.left range.right place falls within in
          inr (omega (arith, falls, own, few), omega (arith, own))
      | inr rises ↦
          let own : range.left + place ≡ i = same_Some (range.left + place) i (sym (up_at range.left range.right place rises within) ∙ at) in
          let few = up_within range.left range.right place rises within in
          inl (omega (arith, own), omega (arith, rises, own, few))
    ]

-- the index of a bit selects it
pub selects_at : (range : Option Range) (place : ℕ) (index : Option ℕ) → slice_get (indices range) place ≡ Some index → Selects index range
selects_at None zero None at = tt
selects_at None zero (Some i) at = let e : Some None ≡ Some (Some i) = at in let bad : None ≡ Some i = cc in cc
selects_at None (suc place) index at = let bad : None ≡ Some index = at in cc
selects_at (Some range) place index at =
    let own = get_map (λ (i : ℕ). Some i) (from_to range.left range.right) place index at in
    subst (λ (o : Option ℕ). Selects o (Some range)) (sym own.2) (between_at range place own.0 own.1)

-- each bit of a net is one of the module
pub bit_there : (nets : List Wire) (wire : Wire) (place : ℕ) (index : Option ℕ) → Contains nets wire → slice_get (indices wire.range) place ≡ Some index
    → IsNetBit nets wire.name index
bit_there nets wire place index has at = (wire, has, refl, selects_at wire.range place index at)

pub tied_none : (path : List ℕ) (wire : Wire) → wire.tie ≡ None → tie_drivers path wire ≡ []
tied_none path wire none = rw (tie_drivers, none) refl

pub tied_some : (path : List ℕ) (wire : Wire) (value : Bool) → wire.tie ≡ Some value → tie_drivers path wire ≡ map (tied_bit path wire value) (indices wire.range)
tied_some path wire value some = rw (tie_drivers, some) refl
