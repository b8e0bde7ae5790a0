-- Places of names, as names are added, and the things that stand there.
use Rattle.std.proofs.Common.{◌≡◌, ◌+◌, ◌<◌, ◌≤◌, ℕ, suc, Bool, true, false, cond, List, [], ◌∷◌, ◌++◌, map, length, take, get_or, slice_get, Option, Some, None, refl, sym, ◌∙◌, ap, arith}
use Rattle.std.proofs.lemmas.Bool.{false≢true, true≢false}
use Rattle.std.proofs.lemmas.List.{length-map, length-take-le, map-append, take_more}
use Rattle.std.proofs.lemmas.Slice.Eq.{bytes_eq-Decides}
use Rattle.std.proofs.lemmas.Map.Text.{hash_map_updates_str}
use Rattle.indexmap.specs.IndexMap.{IndexMap, UpdatesBy, get_by}
use Rattle.std.specs.List.{find}
use Rattle.std.specs.Option.{is_some}
use Rattle.std.specs.Str.{bytes_eq}
use Rattle.text_model.specs.Words.{same_text}
use Rattle.flat_design.specs.Names.{IsOneMore, IsTable, next_place, or_place, place_of}
use denote.Ref.{Bor}

next_or : (found : Option ℕ) (same : Bool) (last : ℕ) → next_place (or_place found same last) ≡ or_place (next_place found) same (suc last)
next_or (Some place) same last = refl
next_or None true last = refl
next_or None false last = refl

push_step : (found more : Option ℕ) (same : Bool) (last : ℕ) → more ≡ or_place found same last
    → (t : Bool) → cond t (Some 0) (next_place more) ≡ or_place (cond t (Some 0) (next_place found)) same (suc last)
push_step found more same last e true = refl
push_step found more same last e false = ap next_place e ∙ next_or found same last

-- the place among names and one more
pub place_of-push : (names : List (List ℕ)) (new name : List ℕ) → place_of (names ++ new ∷ []) name ≡ or_place (place_of names name) (same_text new name) (length names)
place_of-push [] new name = refl
place_of-push (first ∷ rest) new name =
    push_step (place_of rest name) (place_of (rest ++ new ∷ []) name) (same_text new name) (length rest) (place_of-push rest new name) (same_text first name)

-- one more name of things so far
pub table_more : {S : Type 0} (table more : IndexMap (Bor (List ℕ)) ℕ S) (names all : List (List ℕ)) (name : List ℕ) (place : ℕ)
    → IsTable table names → IsOneMore table more name place → place ≡ length names → all ≡ names ++ name ∷ [] → IsTable more all
table_more table more names all name place is one same_place same_all other =
    one other ∙ (ap (λ (found : Option ℕ). or_place found (bytes_eq name other) place) (is other)
    ∙ (ap (λ (n : ℕ). or_place (place_of names other) (same_text name other) n) same_place
    ∙ (sym (place_of-push names name other) ∙ ap (λ (ns : List (List ℕ)). place_of ns other) (sym same_all))))

-- one more thing of a list
pub table_step : {X S : Type 0} (f : X → List ℕ) (things : List X) (place : ℕ) (item : X) (name : List ℕ) (table more : IndexMap (Bor (List ℕ)) ℕ S)
    → IsTable table (map f (take place things)) → IsOneMore table more name place → place < length things → item ≡ get_or things place item → name ≡ f item
    → IsTable more (map f (take (place + 1) things))
table_step f things place item name table more is one within item_is name_is =
    let few : place ≤ length things = omega arith in
    table_more table more (map f (take place things)) (map f (take (place + 1) things)) name place is one
    (sym (length-map (take place things) f ∙ length-take-le place things few))
    (ap (map f) (take_more things place item within ∙ ap (λ x. take place things ++ x ∷ []) (sym item_is))
    ∙ (map-append f (take place things) (item ∷ []) ∙ ap (λ (n : List ℕ). map f (take place things) ++ n ∷ []) (sym name_is)))

-- the place that a table gives a name
pub table_gives : {S : Type 0} (table : IndexMap (Bor (List ℕ)) ℕ S) (names : List (List ℕ)) (found : Option ℕ) (q name : List ℕ)
    → IsTable table names → found ≡ get_by (λ k. bytes_eq q k.now) table → q ≡ name → found ≡ place_of names name
table_gives table names found q name is gives same = gives ∙ (is q ∙ ap (place_of names) same)

kept_or : (old : Option ℕ) (same : Bool) (last : ℕ) → (same ≡ true → is_some old ≡ true) → old ≡ or_place old same last
kept_or (Some place) same last some = refl
kept_or None false last some = refl
kept_or None true last some = absurd (false≢true (some refl))

found_or : (old : Option ℕ) (same : Bool) (last : ℕ) → (same ≡ true → is_some old ≡ false) → cond same (Some last) old ≡ or_place old same last
found_or None true last none = refl
found_or None false last none = refl
found_or (Some place) false last none = refl
found_or (Some place) true last none = absurd (true≢false (none refl))

-- the name is there already
pub more_kept : {S : Type 0} (table : IndexMap (Bor (List ℕ)) ℕ S) (name : List ℕ) (place : ℕ)
    → is_some (get_by (λ k. bytes_eq name k.now) table) ≡ true → IsOneMore table table name place
more_kept table name place has other =
    kept_or (get_by (λ k. bytes_eq other k.now) table) (bytes_eq name other) place
    (λ same. ap (λ (q : List ℕ). is_some (get_by (λ k. bytes_eq q k.now) table)) (sym ((bytes_eq-Decides name other).0 same)) ∙ has)

-- the name is new
pub more_new : {S : Type 0} (table more : IndexMap (Bor (List ℕ)) ℕ S) (name : List ℕ) (place : ℕ)
    → is_some (get_by (λ k. bytes_eq name k.now) table) ≡ false
    → UpdatesBy (λ x y. bytes_eq x.now y.now) (λ k. bytes_eq name k.now) table more (Some place) → IsOneMore table more name place
more_new table more name place free updates other =
    hash_map_updates_str name table more (Some place) updates other
    ∙ found_or (get_by (λ k. bytes_eq other k.now) table) (bytes_eq name other) place
    (λ same. ap (λ (q : List ℕ). is_some (get_by (λ k. bytes_eq q k.now) table)) (sym ((bytes_eq-Decides name other).0 same)) ∙ free)

-- what stands at a place
abbrev pub at_place : {X : Type 0} → List X → Option ℕ → Option X
at_place xs None = None
at_place xs (Some place) = slice_get xs place

at_next : {X : Type 0} (x : X) (xs : List X) (found : Option ℕ) → at_place (x ∷ xs) (next_place found) ≡ at_place xs found
at_next x xs None = refl
at_next x xs (Some place) = refl

found_step : {X : Type 0} (x : X) (xs : List X) (found : Option ℕ) (other : Option X) → at_place xs found ≡ other
    → (t : Bool) → at_place (x ∷ xs) (cond t (Some 0) (next_place found)) ≡ cond t (Some x) other
found_step x xs found other e true = refl
found_step x xs found other e false = at_next x xs found ∙ e

-- the first thing of a name stands at the name's place
pub first_found : {X : Type 0} (name : X → List ℕ) (xs : List X) (q : List ℕ) → at_place xs (place_of (map name xs) q) ≡ find (λ x. same_text (name x) q) xs
first_found name [] q = refl
first_found name (x ∷ xs) q =
    found_step x xs (place_of (map name xs) q) (find (λ y. same_text (name y) q) xs) (first_found name xs q) (same_text (name x) q)
