-- Arcs by the pins that they are between: those between the same pins are united at the place of the first one.
use Rattle.std.proofs.Common.{◌≡◌, ◌∙◌, ◌+◌, ◌<◌, ◌≤◌, ◌==◌, ◌&&◌, ℕ, zero, suc, Bool, true, false, cond, List, [], ◌∷◌, ◌++◌, length, get_or, set, Option, Some, None, one-add, refl, sym, ap, arith, nat_lt, not}
use Rattle.std.proofs.lemmas.Bool.Decides.{nat_tests}
use Rattle.std.proofs.lemmas.Map.Text.{is_eq-slice_cmp}
use Rattle.std.proofs.lemmas.Slice.Eq.{bytes_eq-Decides}
use Rattle.std.specs.BTreeMap.{BTreeMap, get, Updates}
use Rattle.std.specs.Cmp.Lexicographic.{slice_cmp}
use Rattle.std.specs.Ordering.{nat_cmp}
use Rattle.pin_types.specs.declared.library_cells.LibArc.{LibArc}
use Rattle.library_model.specs.LibertyArcs.{both, is_same_pair, same_flag, with_arc}
use Rattle.text_model.specs.Words.{same_text}
use Rattle.lib_cells.specs.Pairs.{HasPairs, launch_number, pair_from, pair_key, pair_place}

-- ---- the same pins

and_parts : (x y f n : Bool) → n ≡ f → (x && (y && (n && true))) ≡ (x && y && f)
and_parts true true true n e = ap (λ t. t && true) e
and_parts true true false n e = ap (λ t. t && true) e
and_parts true false f n e = refl
and_parts false y f n e = refl

flag_same : (a b : Bool) → same_text (launch_number a ∷ []) (launch_number b ∷ []) ≡ (same_flag a b && true)
flag_same true true = refl
flag_same true false = refl
flag_same false true = refl
flag_same false false = refl

key_same : (arc other : LibArc) → same_text (pair_key arc) (pair_key other) ≡ is_same_pair arc other
key_same arc other = by_flags arc.launch other.launch refl refl where
  by_flags : (a b : Bool) → arc.launch ≡ a → other.launch ≡ b → same_text (pair_key arc) (pair_key other) ≡ is_same_pair arc other
  by_flags true true e f = rw (e, f) (and_parts (arc.from == other.from) (arc.to == other.to) true true refl)
  by_flags true false e f = rw (e, f) (and_parts (arc.from == other.from) (arc.to == other.to) false false refl)
  by_flags false true e f = rw (e, f) (and_parts (arc.from == other.from) (arc.to == other.to) false false refl)
  by_flags false false e f = rw (e, f) (and_parts (arc.from == other.from) (arc.to == other.to) true true refl)

-- ---- the place of an arc

place_step : (t : Bool) (from place n m : ℕ) (o : Option ℕ) → m ≡ 1 + n → o ≡ cond (nat_lt place n) (Some (from + 1 + place)) None
    → cond t (Some from) o ≡ cond (nat_lt (cond (not t) (1 + place) 0) m) (Some (from + cond (not t) (1 + place) 0)) None
place_step true from place n m o e h =
    let g : nat_lt 0 m ≡ true = grind (arith, nat_tests) in
    let s : from ≡ from + 0 = omega arith in
    rw g (ap Some s)
place_step false from place n m o e h =
    let g : nat_lt (1 + place) m ≡ nat_lt place n = grind (arith, nat_tests) in
    let s : from + 1 + place ≡ from + (1 + place) = omega arith in
    h ∙ (ap (λ p. cond (nat_lt place n) (Some p) None) s ∙ ap (λ t. cond t (Some (from + (1 + place))) None) (sym g))

place_is : (from : ℕ) (arcs : List LibArc) (arc : LibArc)
    → pair_from from arcs (pair_key arc) ≡ cond (nat_lt (pair_place arcs arc) (length arcs)) (Some (from + pair_place arcs arc)) None
place_is from [] arc =
    let g : nat_lt 0 0 ≡ false = refl in
    refl
place_is from (first ∷ arcs) arc =
    ap (λ t. cond t (Some from) (pair_from (from + 1) arcs (pair_key arc))) (key_same first arc)
    ∙ place_step (is_same_pair first arc) from (pair_place arcs arc) (length arcs) (length (first ∷ arcs)) (pair_from (from + 1) arcs (pair_key arc)) (omega arith) (place_is (from + 1) arcs arc)

-- ---- an arc more

united_step : (first arc d : LibArc) (arcs : List LibArc) (place : ℕ)
    → (place < length arcs → with_arc arcs arc ≡ set arcs place (both (get_or arcs place d) arc))
    → (t : Bool) → cond (not t) (1 + place) 0 < length (first ∷ arcs)
    → cond t (both first arc ∷ arcs) (first ∷ with_arc arcs arc)
    ≡ set (first ∷ arcs) (cond (not t) (1 + place) 0) (both (get_or (first ∷ arcs) (cond (not t) (1 + place) 0) d) arc)
united_step first arc d arcs place tail true within = refl
united_step first arc d arcs place tail false within =
    ap (λ others. first ∷ others) (tail (omega arith))
    ∙ sym (ap (λ n. set (first ∷ arcs) n (both (get_or (first ∷ arcs) n d) arc)) (one-add place))

united : (arcs : List LibArc) (arc d : LibArc) → pair_place arcs arc < length arcs
    → with_arc arcs arc ≡ set arcs (pair_place arcs arc) (both (get_or arcs (pair_place arcs arc) d) arc)
united [] arc d within = absurd (omega arith)
united (first ∷ arcs) arc d within =
    united_step first arc d arcs (pair_place arcs arc) (united arcs arc d) (is_same_pair first arc) within

pushed_step : (first arc : LibArc) (arcs : List LibArc) (place : ℕ) → (length arcs ≤ place → with_arc arcs arc ≡ arcs ++ arc ∷ [])
    → (t : Bool) → length (first ∷ arcs) ≤ cond (not t) (1 + place) 0
    → cond t (both first arc ∷ arcs) (first ∷ with_arc arcs arc) ≡ first ∷ (arcs ++ arc ∷ [])
pushed_step first arc arcs place tail true none = absurd (omega arith)
pushed_step first arc arcs place tail false none = ap (λ others. first ∷ others) (tail (omega arith))

pushed : (arcs : List LibArc) (arc : LibArc) → length arcs ≤ pair_place arcs arc → with_arc arcs arc ≡ arcs ++ arc ∷ []
pushed [] arc none = refl
pushed (first ∷ arcs) arc none = pushed_step first arc arcs (pair_place arcs arc) (pushed arcs arc) (is_same_pair first arc) none

-- where the map has a place, it is that of an arc between the same pins
found_step : (p n place : ℕ) (t : Bool) → nat_lt p n ≡ t → cond t (Some (0 + p)) None ≡ Some place → (p < n) × (p ≡ place)
found_step p n place true e f =
    let s : 0 + p ≡ place = cc in
    let g : p ≡ place = omega (arith, s) in
    let h : p < n = grind (arith, nat_tests) in
    (h, g)
found_step p n place false e f = cc

pub found_place : (arcs : List LibArc) (arc : LibArc) (place : ℕ) → pair_from 0 arcs (pair_key arc) ≡ Some place
    → (pair_place arcs arc < length arcs) × (pair_place arcs arc ≡ place)
found_place arcs arc place e =
    found_step (pair_place arcs arc) (length arcs) place (nat_lt (pair_place arcs arc) (length arcs)) refl (sym (place_is 0 arcs arc) ∙ e)

pub within : (places : BTreeMap (List ℕ) ℕ) (arcs : List LibArc) (arc : LibArc) (place : ℕ) → HasPairs places arcs
    → get (slice_cmp nat_cmp) places (pair_key arc) ≡ Some place → place < length arcs
within places arcs arc place has e =
    let p = found_place arcs arc place (sym (has (pair_key arc)) ∙ e) in
    let h = p.0 in
    let g = p.1 in
    omega (arith, h, g)

pub unites : (places : BTreeMap (List ℕ) ℕ) (arcs : List LibArc) (arc : LibArc) (place : ℕ) → HasPairs places arcs
    → get (slice_cmp nat_cmp) places (pair_key arc) ≡ Some place → set arcs place (both (get_or arcs place arc) arc) ≡ with_arc arcs arc
unites places arcs arc place has e =
    let p = found_place arcs arc place (sym (has (pair_key arc)) ∙ e) in
    sym (united arcs arc arc p.0 ∙ ap (λ n. set arcs n (both (get_or arcs n arc) arc)) p.1)

pair_from-set : (arcs : List LibArc) (arc d : LibArc) (place from : ℕ) (key : List ℕ) → place < length arcs
    → pair_from from (set arcs place (both (get_or arcs place d) arc)) key ≡ pair_from from arcs key
pair_from-set [] arc d place from key h = absurd (omega arith)
pair_from-set (first ∷ arcs) arc d zero from key h = refl
pair_from-set (first ∷ arcs) arc d (suc place) from key h =
    ap (λ o. cond (same_text (pair_key first) key) (Some from) o) (pair_from-set arcs arc d place (from + 1) key (omega arith))

pub unites_places : (places : BTreeMap (List ℕ) ℕ) (arcs : List LibArc) (arc : LibArc) (place : ℕ) → HasPairs places arcs
    → get (slice_cmp nat_cmp) places (pair_key arc) ≡ Some place → HasPairs places (set arcs place (both (get_or arcs place arc) arc))
unites_places places arcs arc place has e key =
    has key ∙ sym (pair_from-set arcs arc arc place 0 key (within places arcs arc place has e))

-- where it has none, the arc stands after the others
absent_step : (p n : ℕ) (t : Bool) → nat_lt p n ≡ t → cond t (Some (0 + p)) None ≡ None → n ≤ p
absent_step p n true e f = cc
absent_step p n false e f = grind (arith, nat_tests)

pub pushes : (places : BTreeMap (List ℕ) ℕ) (arcs : List LibArc) (arc : LibArc) → HasPairs places arcs
    → get (slice_cmp nat_cmp) places (pair_key arc) ≡ None → arcs ++ arc ∷ [] ≡ with_arc arcs arc
pushes places arcs arc has e =
    sym (pushed arcs arc (absent_step (pair_place arcs arc) (length arcs) (nat_lt (pair_place arcs arc) (length arcs)) refl
    (sym (place_is 0 arcs arc) ∙ (sym (has (pair_key arc)) ∙ e))))

-- the place of a key among arcs, and else that of one more arc
abbrev pub or_last : Option ℕ → Bool → ℕ → Option ℕ
or_last (Some place) same last = Some place
or_last None same last = cond same (Some last) None

last_step : (t same : Bool) (from last : ℕ) (o o' : Option ℕ) → o' ≡ or_last o same last → cond t (Some from) o' ≡ or_last (cond t (Some from) o) same last
last_step true same from last o o' e = refl
last_step false same from last o o' e = e

pair_from-push : (arcs : List LibArc) (arc : LibArc) (from last : ℕ) (key : List ℕ) → last ≡ from + length arcs
    → pair_from from (arcs ++ arc ∷ []) key ≡ or_last (pair_from from arcs key) (same_text (pair_key arc) key) last
pair_from-push [] arc from last key e =
    let s : from ≡ last = omega arith in
    ap (λ n. cond (same_text (pair_key arc) key) (Some n) None) s
pair_from-push (first ∷ arcs) arc from last key e =
    last_step (same_text (pair_key first) key) (same_text (pair_key arc) key) from last (pair_from (from + 1) arcs key) (pair_from (from + 1) (arcs ++ arc ∷ []) key)
    (pair_from-push arcs arc (from + 1) last key (omega arith))

new_step : (old : List ℕ → Option ℕ) (own key : List ℕ) (last : ℕ) → old own ≡ None → (t : Bool) → same_text own key ≡ t
    → cond t (Some last) (old key) ≡ or_last (old key) t last
new_step old own key last none true e =
    let at : old key ≡ None = ap old (sym ((bytes_eq-Decides own key).0 e)) ∙ none in
    sym (ap (λ o. or_last o true last) at)
new_step old own key last none false e = by_old (old key) where
  by_old : (o : Option ℕ) → o ≡ or_last o false last
  by_old None = refl
  by_old (Some place) = refl

pub pushes_places : (old new : BTreeMap (List ℕ) ℕ) (arcs : List LibArc) (arc : LibArc) (last : ℕ) → HasPairs old arcs
    → get (slice_cmp nat_cmp) old (pair_key arc) ≡ None → last ≡ length arcs
    → Updates (slice_cmp nat_cmp) old new (pair_key arc) (Some last) → HasPairs new (arcs ++ arc ∷ [])
pushes_places old new arcs arc last has none e updates key =
    updates.0 key
    ∙ (ap (λ t. cond t (Some last) (get (slice_cmp nat_cmp) old key)) (is_eq-slice_cmp (pair_key arc) key)
    ∙ (new_step (get (slice_cmp nat_cmp) old) (pair_key arc) key last none (same_text (pair_key arc) key) refl
    ∙ (ap (λ o. or_last o (same_text (pair_key arc) key) last) (has key)
    ∙ sym (pair_from-push arcs arc 0 last key (omega arith)))))
