-- Modes without generated clocks have one clock map.
use Rattle.std.proofs.Common.{◌≡◌, ℕ, zero, suc, ◌-◌, ◌<◌, ◌≤◌, List, [], ◌∷◌, ◌++◌, length, take, drop, map, Some, None, refl, sym, ap, ◌∙◌, subst, inl, inr, add-one, arith}
use Rattle.std.specs.Prelude.{slice_get}
use Rattle.std.specs.List.{AllZip, Contains, concat}
use Rattle.std.proofs.lemmas.Bool.{cases_lt}
use Rattle.std.proofs.lemmas.List.{length-append, take_more, take_all}
use Rattle.std.proofs.lemmas.Option.{same_Some, slice_get_within, get_or_from_slice_get}
use Rattle.std.proofs.Math.Seq.{take-append_seam, drop-append_seam}
use Rattle.timing_types.specs.declared.clocks.Clock.{Clock}
use Rattle.timing_types.specs.declared.clocks.Wave.{Wave}
use Rattle.timing_types.specs.declared.identities.Standing.{Standing}
use Rattle.timing_types.specs.declared.views.ClockMap.{ClockMap}
use Rattle.timing_types.specs.declared.views.View.{View}
use Rattle.merge_model.specs.ClockIdentity.{master_at, HasDepth, HasDepthAt, names_of, numbered_name, IsFreeName, IsMergedName, clock_with, standings_of, identities_of, IsMerged, IsClockMap}
use Rattle.merge_model.specs.PlainViews.{ArePrimary, ModesArePrimary, clock_count}
use Rattle.text_model.proofs.ListFacts.{element_at}
use Rattle.clock_map.proofs.MergedLists.{EachMerged}
use Rattle.clock_map.proofs.OneNumbering.{AppearInOrder, AreAlike, numbers_once, count_once}
use Rattle.clock_map.proofs.PlainMaps.{identities_plain, no_master_among}
use Rattle.clock_map.proofs.RowLists.{FitsMode}
use Rattle.clock_map.proofs.SharedClocks.{same_lists}

-- ---- numbers

depth_here : (view : View) (place depth : ℕ) → ArePrimary view.mode.clocks → HasDepth view place depth → depth ≡ 0
depth_here view place zero primary has = refl
depth_here view place (suc depth) primary has =
    let none : master_at view place ≡ None = no_master_among view.arrivals place view.mode.clocks place primary in
    let clash : None ≡ Some has.0 = sym none ∙ has.1 in
    cc

-- a primary clock has no other depth
no_depth : (views : List View) (at depth : ℕ) → ModesArePrimary views → HasDepthAt views at depth → depth ≡ 0
no_depth [] at depth primary has = absurd has
no_depth (view ∷ views) at depth primary (inl here) = depth_here view at depth primary.0 here.1
no_depth (view ∷ views) at depth primary (inr there) = no_depth views (at - length view.mode.clocks) depth primary.1 there.1

-- the numbers of a clock map stand in the order of their first appearance
map_in_order : (views : List View) (answer : ClockMap) → ModesArePrimary views → IsClockMap views answer
    → AppearInOrder (concat answer.maps) (length answer.clocks)
map_in_order views answer primary is = record {
  below = λ p n e.
      let known = is.numbered p n (slice_get_within (concat answer.maps) p n e) in
      subst (λ (k : ℕ). k < length answer.clocks) (get_or_from_slice_get (concat answer.maps) p n n e) known;
  somewhere = λ k within.
      let waves = is.waves in
      let clock = element_at answer.clocks k within in
      let wave = element_at answer.waves k (omega arith) in
      let merged = is.merged k clock.0 wave.0 clock.1 wave.1 in
      (merged.at, merged.is_first);
  order = λ k l p q less first second.
      let ahead = is.order k l p q less first second in
      let depth = no_depth views p ahead.0 primary ahead.2 in
      let depth' = no_depth views q ahead.1 primary ahead.3 in
      elim ahead.4 [ inl lesser ↦ absurd (omega arith) | inr same ↦ same.1 ];
}

numbers_long : (views : List View) (maps : List (List ℕ)) → AllZip FitsMode views maps → length (concat maps) ≡ clock_count views
numbers_long [] [] shape = refl
numbers_long [] (row ∷ maps) shape = absurd shape
numbers_long (view ∷ views) [] shape = absurd shape
numbers_long (view ∷ views) (row ∷ maps) shape =
    let rest = numbers_long views maps shape.1 in
    omega (arith, length-append row (concat maps), shape.0)

rows_once : (views : List View) (maps maps' : List (List ℕ)) → AllZip FitsMode views maps → AllZip FitsMode views maps'
    → concat maps ≡ concat maps' → maps ≡ maps'
rows_once [] [] [] shape shape' same = refl
rows_once [] [] (row' ∷ maps') shape shape' same = absurd shape'
rows_once [] (row ∷ maps) maps' shape shape' same = absurd shape
rows_once (view ∷ views) [] maps' shape shape' same = absurd shape
rows_once (view ∷ views) (row ∷ maps) [] shape shape' same = absurd shape'
rows_once (view ∷ views) (row ∷ maps) (row' ∷ maps') shape shape' same =
    let long : length row ≡ length row' = shape.0 ∙ sym shape'.0 in
    let first : row ≡ row' =
    sym (take-append_seam row (concat maps)) ∙ ap (take (length row)) same ∙ ap (λ n. take n (row' ++ concat maps')) long ∙ take-append_seam row' (concat maps') in
    let left : concat maps ≡ concat maps' =
    sym (drop-append_seam row (concat maps)) ∙ ap (drop (length row)) same ∙ ap (λ n. drop n (row' ++ concat maps')) long ∙ drop-append_seam row' (concat maps') in
    let rest = rows_once views maps maps' shape.1 shape'.1 left in
    λ i. first i ∷ rest i

-- ---- names

not_below : (own earlier : List (List ℕ)) (first name name' : List ℕ) (one : IsFreeName own earlier first name) (other : IsFreeName own earlier first name')
    → one.k < other.k → ⊥
not_below own earlier first name name' one other less = elim (other.least one.k one.positive less) [
  | inl taken ↦ one.not_own (subst (Contains own) (sym one.is) taken)
  | inr taken ↦ one.not_earlier (subst (Contains earlier) (sym one.is) taken)
]

free_once : (own earlier : List (List ℕ)) (first name name' : List ℕ) → IsFreeName own earlier first name → IsFreeName own earlier first name' → name ≡ name'
free_once own earlier first name name' one other =
    let same : one.k ≡ other.k = elim (cases_lt one.k other.k) [
      | inl less ↦ absurd (not_below own earlier first name name' one other less)
      | inr more ↦ elim (cases_lt other.k one.k) [
        | inl less ↦ absurd (not_below own earlier first name' name other one less)
        | inr equal ↦ omega arith
      ]
    ] in
    one.is ∙ ap (numbered_name first) same ∙ sym other.is

name_once : (own earlier : List (List ℕ)) (first name name' : List ℕ) → IsMergedName own earlier first name → IsMergedName own earlier first name' → name ≡ name'
name_once own earlier first name name' (inl kept) (inl kept') = kept.1 ∙ sym kept'.1
name_once own earlier first name name' (inl kept) (inr free) = absurd (kept.0 free.0)
name_once own earlier first name name' (inr free) (inl kept) = absurd (kept.0 free.0)
name_once own earlier first name name' (inr free) (inr free') = free_once own earlier first name name' free.1 free'.1

-- ---- merged clocks

merged_once : (standings : List Standing) (numbers : List ℕ) (earlier : List (List ℕ)) (k : ℕ) (clock clock' : Clock) (wave wave' : Wave)
    → IsMerged standings numbers earlier k clock wave → IsMerged standings numbers earlier k clock' wave' → (clock ≡ clock') × (wave ≡ wave')
merged_once standings numbers earlier k clock clock' wave wave' one other =
    let at : one.at ≡ other.at = elim (cases_lt one.at other.at) [
      | inl less ↦ absurd (other.is_first.none_before one.at less one.is_first.is)
      | inr more ↦ elim (cases_lt other.at one.at) [
        | inl less ↦ absurd (one.is_first.none_before other.at less other.is_first.is)
        | inr equal ↦ omega arith
      ]
    ] in
    let first : one.first ≡ other.first = same_Some one.first other.first (sym one.stands ∙ ap (slice_get standings) at ∙ other.stands) in
    let named : IsMergedName (names_of standings) earlier one.first.name clock'.name =
    subst (λ (s : Standing). IsMergedName (names_of standings) earlier s.name clock'.name) (sym first) other.name in
    let name : clock.name ≡ clock'.name = name_once (names_of standings) earlier one.first.name clock.name clock'.name one.name named in (
      one.clock_is ∙ ap (λ n. clock_with n one.first.definition) name ∙ ap (λ (s : Standing). clock_with clock'.name s.definition) first ∙ sym other.clock_is,
      one.wave_is ∙ ap (λ (s : Standing). s.definition.wave) first ∙ sym other.wave_is,
    )

-- merged clocks after the same ones are the same
items_once : (standings : List Standing) (numbers : List ℕ) (clocks clocks' : List Clock) (waves waves' : List Wave) (k : ℕ)
    → EachMerged standings numbers clocks waves → EachMerged standings numbers clocks' waves'
    → length clocks ≡ length clocks' → length waves ≡ length clocks → length waves' ≡ length clocks'
    → take k clocks ≡ take k clocks' → k < length clocks
    → (slice_get clocks k ≡ slice_get clocks' k) × (slice_get waves k ≡ slice_get waves' k)
items_once standings numbers clocks clocks' waves waves' k each each' same long long' front within =
    let clock = element_at clocks k within in
    let wave = element_at waves k (omega arith) in
    let clock' = element_at clocks' k (omega arith) in
    let wave' = element_at waves' k (omega arith) in
    let one = each k clock.0 wave.0 clock.1 wave.1 in
    let other = subst (λ (cs : List Clock). IsMerged standings numbers (map (λ earlier. earlier.name) cs) k clock'.0 wave'.0) (sym front)
    (each' k clock'.0 wave'.0 clock'.1 wave'.1) in
    let both = merged_once standings numbers (map (λ earlier. earlier.name) (take k clocks)) k clock.0 clock'.0 wave.0 wave'.0 one other in
    (clock.1 ∙ ap Some both.0 ∙ sym clock'.1, wave.1 ∙ ap Some both.1 ∙ sym wave'.1)

front_grows : (xs : List Clock) (k : ℕ) (x : Clock) → slice_get xs k ≡ Some x → take (suc k) xs ≡ take k xs ++ x ∷ []
front_grows xs k x e =
    ap (λ n. take n xs) (sym (add-one k)) ∙ take_more xs k x (slice_get_within xs k x e) ∙ ap (λ y. take k xs ++ y ∷ []) (get_or_from_slice_get xs k x x e)

fronts_once : (standings : List Standing) (numbers : List ℕ) (clocks clocks' : List Clock) (waves waves' : List Wave) (k : ℕ)
    → EachMerged standings numbers clocks waves → EachMerged standings numbers clocks' waves'
    → length clocks ≡ length clocks' → length waves ≡ length clocks → length waves' ≡ length clocks'
    → k ≤ length clocks → take k clocks ≡ take k clocks'
fronts_once standings numbers clocks clocks' waves waves' zero each each' same long long' within = refl
fronts_once standings numbers clocks clocks' waves waves' (suc k) each each' same long long' within =
    let front = fronts_once standings numbers clocks clocks' waves waves' k each each' same long long' (omega arith) in
    let item = (items_once standings numbers clocks clocks' waves waves' k each each' same long long' front (omega arith)).0 in
    let clock = element_at clocks k (omega arith) in
    front_grows clocks k clock.0 clock.1 ∙ ap (λ cs. cs ++ clock.0 ∷ []) front ∙ sym (front_grows clocks' k clock.0 (sym item ∙ clock.1))

-- ---- the whole map

pub map_once : (views : List View) → ModesArePrimary views → (a b : ClockMap) → IsClockMap views a → IsClockMap views b → a ≡ b
map_once views primary a b one other =
    let ids : identities_of views a.maps ≡ identities_of views b.maps = identities_plain views a.maps primary ∙ sym (identities_plain views b.maps primary) in
    let order = map_in_order views a primary one in
    let order' = map_in_order views b primary other in
    let long : length (concat a.maps) ≡ length (concat b.maps) = numbers_long views a.maps one.shape ∙ sym (numbers_long views b.maps other.shape) in
    let alike : AreAlike (concat a.maps) (concat b.maps) = λ p q within within'.
    let here = one.one p q within within' in
    let there = other.one p q (omega arith) (omega arith) in (
      λ e. there.1 (ap (λ is. slice_get is p) (sym ids) ∙ here.0 e ∙ ap (λ is. slice_get is q) ids),
      λ e. here.1 (ap (λ is. slice_get is p) ids ∙ there.0 e ∙ ap (λ is. slice_get is q) (sym ids)),
    ) in
    let numbers = numbers_once (concat a.maps) (concat b.maps) (length a.clocks) (length b.clocks) order order' long alike in
    let count : length a.clocks ≡ length b.clocks =
    count_once (concat a.maps) (length a.clocks) (length b.clocks) order (subst (λ (ns : List ℕ). AppearInOrder ns (length b.clocks)) (sym numbers) order') in
    let maps = rows_once views a.maps b.maps one.shape other.shape numbers in
    let standings = standings_of views a.maps in
    let each' : EachMerged standings (concat a.maps) b.clocks b.waves =
    subst (λ (ms : List (List ℕ)). EachMerged (standings_of views ms) (concat ms) b.clocks b.waves) (sym maps) other.merged in
    let fronts : (k : ℕ) → k ≤ length a.clocks → take k a.clocks ≡ take k b.clocks =
    λ k within. fronts_once standings (concat a.maps) a.clocks b.clocks a.waves b.waves k one.merged each' count one.waves other.waves within in
    let long_waves = one.waves in
    let long_waves' = other.waves in
    let clocks : a.clocks ≡ b.clocks =
    sym (take_all (length a.clocks) a.clocks (omega arith)) ∙ fronts (length a.clocks) (omega arith) ∙ take_all (length a.clocks) b.clocks (omega arith) in
    let waves : a.waves ≡ b.waves = same_lists a.waves b.waves (omega arith) (λ i within.
    (items_once standings (concat a.maps) a.clocks b.clocks a.waves b.waves i one.merged each' count one.waves other.waves (fronts i (omega arith)) (omega arith)).1) in
    λ i. record { clocks = clocks i; waves = waves i; maps = maps i }
