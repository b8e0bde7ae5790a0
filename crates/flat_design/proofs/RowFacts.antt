-- Rows that are added, each of one thing.
use Rattle.std.proofs.Common.{◌≡◌, ◌+◌, ◌++◌, ℕ, List, [], ◌∷◌, map, take, slice_get, Some, sym, ◌∙◌, ap, subst}
use Rattle.std.proofs.lemmas.List.{append_assoc, append-nil, map-append}
use Rattle.std.specs.List.{AllZip, flat_map}
use Rattle.flat_design.specs.AddedRows.{AddsRows}
use Rattle.flat_design.proofs.PlaceFacts.{flat_one, take_one}

pub both_append : {A B : Type 0} (R : A → B → Type 0) (xs more : List A) (ys others : List B) → AllZip R xs ys → AllZip R more others → AllZip R (xs ++ more) (ys ++ others)
both_append R [] more [] others all rest = rest
both_append R [] more (y ∷ ys) others all rest = absurd all
both_append R (x ∷ xs) more [] others all rest = absurd all
both_append R (x ∷ xs) more (y ∷ ys) others all rest = (all.0, both_append R xs more ys others all.1 rest)

pub rows_none : {A B : Type 0} (R : A → B → Type 0) (rows : List B) → AddsRows R [] rows rows
rows_none R rows = ([], sym (append-nil rows), tt)

pub rows_then : {A B : Type 0} (R : A → B → Type 0) (first second : List A) (old middle new : List B) → AddsRows R first old middle → AddsRows R second middle new
    → AddsRows R (first ++ second) old new
rows_then {B} R first second old middle new a b = (
  a.0 ++ b.0,
  b.1 ∙ (ap (λ (rows : List B). rows ++ b.0) a.1 ∙ append_assoc old a.0 b.0),
  both_append R first second a.0 b.0 a.2 b.2,
)

-- one more thing with a row
pub rows_mapped : {X A B : Type 0} (R : A → B → Type 0) (f : X → A) (xs : List X) (n : ℕ) (x : X) (old middle new : List B) (row : B)
    → slice_get xs n ≡ Some x → R (f x) row → new ≡ middle ++ row ∷ []
    → AddsRows R (map f (take n xs)) old middle → AddsRows R (map f (take (n + 1) xs)) old new
rows_mapped {A} R f xs n x old middle new row at is same so_far =
    subst (λ (things : List A). AddsRows R things old new)
    (sym (ap (map f) (take_one xs n x at) ∙ map-append f (take n xs) (x ∷ [])))
    (rows_then R (map f (take n xs)) (f x ∷ []) old middle new so_far (row ∷ [], same, (is, tt)))

-- one more part with rows
pub rows_flat : {X A B : Type 0} (R : A → B → Type 0) (g : X → List A) (xs : List X) (n : ℕ) (x : X) (old middle new : List B)
    → slice_get xs n ≡ Some x → AddsRows R (g x) middle new
    → AddsRows R (flat_map g (take n xs)) old middle → AddsRows R (flat_map g (take (n + 1) xs)) old new
rows_flat {A} R g xs n x old middle new at own so_far =
    subst (λ (things : List A). AddsRows R things old new)
    (sym (flat_one g xs n x at ∙ ap (λ (things : List A). flat_map g (take n xs) ++ things) (append-nil (g x))))
    (rows_then R (flat_map g (take n xs)) (g x) old middle new so_far own)

-- rows that are added to none
pub rows_all : {A B : Type 0} (R : A → B → Type 0) (things : List A) (rows : List B) → AddsRows R things [] rows → AllZip R things rows
rows_all R things rows added = subst (AllZip R things) (sym added.1) added.2
