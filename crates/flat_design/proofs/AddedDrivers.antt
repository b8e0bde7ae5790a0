-- Driver edges, as they are added.
use Rattle.std.proofs.Common.{◌≡◌, ◌+◌, ◌++◌, ℕ, zero, suc, List, [], ◌∷◌, length, take, slice_get, Option, Some, None, sym, ◌∙◌, ap, subst, arith}
use Rattle.std.proofs.lemmas.List.Elements.{filter_map-append}
use Rattle.std.proofs.lemmas.Slice.Zip.{length-zip}
use Rattle.std.specs.List.{cons_option, filter_map, zip}
use Rattle.std.specs.Option.{option_to_list}
use Rattle.source_types.specs.declared.netlists.Bit.{Bit}
use Rattle.flat_model.specs.FlatNets.{NetDriver, drive, net_at, origin_at}
use Rattle.flat_design.specs.declared.drivers.driver_edges.DriverEdge.{DriverEdge}
use Rattle.flat_design.specs.declared.elaborate.hierarchy.Hierarchy.{Hierarchy}
use Rattle.flat_design.specs.Drivers.{Adds, IsDriverEdge, IsDriverEdgeOf}
use Rattle.flat_design.proofs.PlaceFacts.{take_one}
use Rattle.flat_design.proofs.RowFacts.{rows_then}

adds_option : (design : Hierarchy) (one : Option NetDriver) (row : Option DriverEdge) (old new : List DriverEdge) → IsDriverEdgeOf design one row
    → new ≡ old ++ option_to_list row → Adds design (cons_option one []) old new
adds_option design None None old new is same = ([], same, tt)
adds_option design (Some one) (Some row) old new is same = (row ∷ [], same, (is, tt))
adds_option design None (Some row) old new is same = absurd is
adds_option design (Some one) None old new is same = absurd is

-- one more thing that may drive
pub adds_more : {X : Type 0} (design : Hierarchy) (f : X → Option NetDriver) (xs : List X) (n : ℕ) (x : X) (old middle new : List DriverEdge) (row : Option DriverEdge)
    → slice_get xs n ≡ Some x → IsDriverEdgeOf design (f x) row → new ≡ middle ++ option_to_list row
    → Adds design (filter_map f (take n xs)) old middle → Adds design (filter_map f (take (n + 1) xs)) old new
adds_more design f xs n x old middle new row at is same so_far =
    subst (λ (drivers : List NetDriver). Adds design drivers old new)
    (sym (ap (filter_map f) (take_one xs n x at) ∙ filter_map-append f (take n xs) (x ∷ [])))
    (rows_then (IsDriverEdge design) (filter_map f (take n xs)) (cons_option (f x) []) old middle new so_far (adds_option design (f x) row middle new is same))

-- ---- assignments

-- how one side of a pair drives the other
abbrev pub pair_drive : List ℕ → Bit × Bit → Option NetDriver
pair_drive path pair = drive (net_at path pair.0) (origin_at path pair.1)

pub zip_get : {A B : Type 0} (xs : List A) (ys : List B) (n : ℕ) (x : A) (y : B) → slice_get xs n ≡ Some x → slice_get ys n ≡ Some y → slice_get (zip xs ys) n ≡ Some (x, y)
zip_get [] ys n x y at other = let bad : None ≡ Some x = at in cc
zip_get (a ∷ xs) [] n x y at other = let bad : None ≡ Some y = other in cc
zip_get (a ∷ xs) (b ∷ ys) zero x y at other =
    let e : Some a ≡ Some x = at in
    let f : Some b ≡ Some y = other in
    let one : a ≡ x = cc in
    let two : b ≡ y = cc in
    ap (λ z. Some (z, b)) one ∙ ap (λ z. Some (x, z)) two
zip_get (a ∷ xs) (b ∷ ys) (suc n) x y at other = zip_get xs ys n x y at other

pub zip_short : {A B : Type 0} (xs : List A) (ys : List B) → length xs ≡ length ys → length (zip xs ys) ≡ length xs
zip_short xs ys same = let e = length-zip xs ys in omega (arith, e, same)
