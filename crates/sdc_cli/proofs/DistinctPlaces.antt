-- A sorted list of places, each once, has the places of the list.
use Rattle.std.proofs.Common.{◌≡◌, ◌||◌, ◌==◌, ℕ, Bool, true, false, cond, List, [], ◌∷◌, nat_eq, refl, sym, ◌∙◌, ap}
use Rattle.std.proofs.Math.Bool.{or_self_left}
use Rattle.std.proofs.lemmas.Bool.Decides.{Decides-eqb}
use Rattle.std.proofs.lemmas.List.Filters.{dedup_is}
use Rattle.std.proofs.lemmas.List.Sorted.{list_any-IsPermutation}
use Rattle.std.specs.List.{dedup, dedup_from, list_any}
use Rattle.std.specs.List.Retain.{IsFiltered, DiffersFromLast}
use Rattle.std.specs.List.Sorted.{IsPermutation}
use Rattle.sdc_cli.specs.Exclusive.{HasSame}

dedup_step : (p : ℕ → Bool) (k x : ℕ) (xs : List ℕ) → ((j : ℕ) → list_any p (dedup_from nat_eq j xs) ≡ (p j || list_any p xs))
    → (t : Bool) → nat_eq x k ≡ t → list_any p (cond t (dedup_from nat_eq k xs) (k ∷ dedup_from nat_eq x xs)) ≡ (p k || (p x || list_any p xs))
dedup_step p k x xs tail true e =
    let same : x ≡ k = (Decides-eqb x k).0 e in
    tail k ∙ (sym (or_self_left (p k) (list_any p xs)) ∙ ap (λ y. p k || (p y || list_any p xs)) (sym same))
dedup_step p k x xs tail false e = ap (λ t. p k || t) (tail x)

dedup_from-any : (p : ℕ → Bool) (xs : List ℕ) (k : ℕ) → list_any p (dedup_from nat_eq k xs) ≡ (p k || list_any p xs)
dedup_from-any p [] k = refl
dedup_from-any p (x ∷ xs) k = dedup_step p k x xs (dedup_from-any p xs) (nat_eq x k) refl

dedup-any : (p : ℕ → Bool) (xs : List ℕ) → list_any p (dedup nat_eq xs) ≡ list_any p xs
dedup-any p [] = refl
dedup-any p (x ∷ xs) = dedup_from-any p xs x

-- after a sort and a dedup
pub HasSame-distinct : (places copied sorted once : List ℕ) → copied ≡ places → IsPermutation copied sorted → IsFiltered (DiffersFromLast nat_eq) [] sorted once → HasSame places once
HasSame-distinct places copied sorted once copy order filtered place =
    let p : ℕ → Bool = λ q. q == place in
    ap (list_any p) (dedup_is nat_eq sorted once filtered)
    ∙ (dedup-any p sorted ∙ (sym (list_any-IsPermutation p copied sorted order) ∙ ap (list_any p) copy))
