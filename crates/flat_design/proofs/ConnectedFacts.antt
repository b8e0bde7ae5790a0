-- What a terminal is connected to, by places, is what it is connected to.
use Rattle.std.proofs.Common.{◌≡◌, ◌++◌, ◌||◌, ℕ, zero, suc, Bool, true, false, not, cond, List, [], ◌∷◌, take, slice_get, Option, Some, None, refl, sym, ◌∙◌, ap}
use Rattle.std.proofs.lemmas.List.{append_assoc, append-nil}
use Rattle.std.specs.List.{find, list_any}
use Rattle.source_types.specs.declared.netlists.Bit.{Bit}
use Rattle.source_types.specs.declared.netlists.Link.{Link}
use Rattle.flat_model.specs.Connections.{bits_named, named_bits, ordered_bits}
use Rattle.text_model.specs.Words.{same_text}
use Rattle.flat_design.specs.Connected.{bits_found, link_bits, link_names, named_at, ordered_at}
use Rattle.flat_design.specs.Fitting.{stands_first}
use Rattle.flat_design.specs.Names.{place_of}
use Rattle.flat_design.proofs.NamedFits.{any_push}
use Rattle.flat_design.proofs.RepeatFacts.{any_swap, repeated_at}
use Rattle.flat_design.proofs.TableFacts.{at_place, first_found}

-- ---- by order

nothing_at : (at : ℕ) → ordered_at [] at ≡ []
nothing_at at = refl

pub ordered_is : (names : List (List ℕ)) (connections : List (List Bit)) (at : ℕ) (name : List ℕ) → slice_get names at ≡ Some name
    → slice_get (ordered_bits names connections) at ≡ Some (ordered_at connections at)
ordered_is [] connections at name is = let bad : None ≡ Some name = is in cc
ordered_is (n ∷ names) [] zero name is = refl
ordered_is (n ∷ names) [] (suc at) name is = ordered_is names [] at name is ∙ ap (λ (bits : List Bit). Some bits) (nothing_at at)
ordered_is (n ∷ names) (one ∷ connections) zero name is = refl
ordered_is (n ∷ names) (one ∷ connections) (suc at) name is = ordered_is names connections at name is

-- ---- by name

-- the link of a name is the one at its place
bits_at_place : (all : List Link) (found : Option ℕ) → bits_found all found ≡ link_bits (at_place all found)
bits_at_place all None = refl
bits_at_place all (Some at) = refl

found_bits : (all : List Link) (name : List ℕ) (o : Option Link) → find (λ (link : Link). same_text link.port name) all ≡ o → link_bits o ≡ bits_named all name
found_bits all name None is = rw (bits_named, is) refl
found_bits all name (Some link) is = rw (bits_named, is) refl

bits_of_name : (all : List Link) (name : List ℕ) → bits_found all (place_of (link_names all) name) ≡ bits_named all name
bits_of_name all name =
    bits_at_place all (place_of (link_names all) name)
    ∙ (ap link_bits (first_found (λ (link : Link). link.port) all name)
    ∙ found_bits all name (find (λ (link : Link). same_text link.port name) all) refl)

-- the bits at a terminal, after others
named_after : (front before names : List (List ℕ)) (all : List Link) (at : ℕ) (name : List ℕ) → slice_get names at ≡ Some name
    → ((q : List ℕ) → list_any (same_text q) before ≡ list_any (λ (f : List ℕ). same_text f q) front)
    → slice_get (named_bits before names all) at ≡ Some (cond (list_any (λ (f : List ℕ). same_text f name) (front ++ take at names)) [] (bits_named all name))
named_after front before [] all at name is seen = let bad : None ≡ Some name = is in cc
named_after front before (n ∷ names) all zero name is seen =
    let e : Some n ≡ Some name = is in
    let same : n ≡ name = cc in
    ap (λ (q : List ℕ). Some (cond (list_any (same_text q) before) [] (bits_named all q))) same
    ∙ ap (λ (b : Bool). Some (cond b [] (bits_named all name))) (seen name ∙ ap (list_any (λ (f : List ℕ). same_text f name)) (sym (append-nil front)))
named_after front before (n ∷ names) all (suc at) name is seen =
    named_after (front ++ n ∷ []) (n ∷ before) names all at name is
    (λ q. ap (λ (b : Bool). same_text q n || b) (seen q) ∙ sym (any_push front n q))
    ∙ ap (λ (fs : List (List ℕ)). Some (cond (list_any (λ (f : List ℕ). same_text f name) fs) [] (bits_named all name))) (append_assoc front (n ∷ []) (take at names))

cond_not : {X : Type 0} (b c : Bool) (x y z : X) → not b ≡ c → y ≡ z → cond c x y ≡ cond b z x
cond_not true c x y z is same = ap (λ (t : Bool). cond t x y) (sym is) ∙ same
cond_not false c x y z is same = ap (λ (t : Bool). cond t x y) (sym is)

pub named_is : (names : List (List ℕ)) (all : List Link) (at : ℕ) (name : List ℕ) → slice_get names at ≡ Some name
    → slice_get (named_bits [] names all) at ≡ Some (named_at names all at name)
named_is names all at name is =
    named_after [] [] names all at name is (λ q. refl)
    ∙ ap (λ (bits : List Bit). Some bits) (cond_not (stands_first (place_of names name) at) (list_any (λ (f : List ℕ). same_text f name) (take at names)) []
    (bits_named all name) (bits_found all (place_of (link_names all) name))
    (repeated_at names at name is ∙ sym (any_swap (take at names) name)) (sym (bits_of_name all name)))
