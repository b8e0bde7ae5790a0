-- The merged clocks so far: each is made of its first clock, and the numbers that are left go on where they end.
use Rattle.std.proofs.Common.{◌≡◌, ℕ, suc, ◌+◌, ◌<◌, ◌≤◌, ◌≢◌, List, [], ◌∷◌, ◌++◌, length, take, drop, map, get_or, Some, refl, sym, ap, ◌∙◌, subst, inl, inr, arith, add-one}
use Rattle.std.specs.Prelude.{◌⊎◌, slice_get}
use Rattle.std.specs.List.{Contains}
use Rattle.std.proofs.lemmas.Bool.{cases_lt}
use Rattle.std.proofs.lemmas.List.{drop_more, length_push, take-append-le, take_at, map_push}
use Rattle.std.proofs.lemmas.Option.{slice_get_within, slice_get-get_or, slice_get_read}
use Rattle.timing_types.specs.declared.clocks.Clock.{Clock}
use Rattle.timing_types.specs.declared.clocks.Wave.{Wave}
use Rattle.timing_types.specs.declared.identities.Standing.{Standing}
use Rattle.merge_model.specs.ClockIdentity.{names_of, clock_with, IsMergedName, IsMerged}
use Rattle.clock_map.specs.declared.merged.Merged.{Merged}
use Rattle.clock_map.specs.Numbering.{RisesTo}
use Rattle.clock_map.specs.MergedClocks.{HaveSameNames, AddsMerged, Rises, AreMerged}
use Rattle.clock_map.proofs.NumberLists.{pair_cases}
use Rattle.clock_map.proofs.NameSets.{same_more, name_transfers}

abbrev pub clock_names : List Clock → List (List ℕ)
clock_names = map (λ clock. clock.name)

-- each merged clock is made of its first clock
abbrev pub EachMerged : List Standing → List ℕ → List Clock → List Wave → Type 0
EachMerged standings numbers clocks waves =
    (k : ℕ) (clock : Clock) (wave : Wave) → slice_get clocks k ≡ Some clock → slice_get waves k ≡ Some wave
    → IsMerged standings numbers (clock_names (take k clocks)) k clock wave

pub record MergedSoFar (standings : List Standing) (numbers : List ℕ) (i : ℕ) (merged : Merged) : Type 0 where
  pub last : ℕ
  pub rest : RisesTo (length merged.clocks) (drop i numbers) last
  pub below : (p n : ℕ) → p < i → slice_get numbers p ≡ Some n → n < length merged.clocks
  pub long : length merged.waves ≡ length merged.clocks
  pub names : HaveSameNames merged.names.keys (clock_names merged.clocks)
  pub all : EachMerged standings numbers merged.clocks merged.waves

pub nothing_merged : (standings : List Standing) (numbers : List ℕ) (merged : Merged) → merged.clocks ≡ [] → merged.waves ≡ [] → merged.names.keys ≡ []
    → Rises numbers → MergedSoFar standings numbers 0 merged
nothing_merged standings numbers merged clocks waves names rises = record {
  last = rises.0;
  rest = subst (λ (cs : List Clock). RisesTo (length cs) numbers rises.0) (sym clocks) rises.1;
  below = λ p n within e. absurd (omega arith);
  long = ap length waves ∙ sym (ap length clocks);
  names = λ name. (
    λ h. subst (λ (cs : List Clock). Contains (clock_names cs) name) (sym clocks) (subst (λ (ns : List (List ℕ)). Contains ns name) names h),
    λ h. subst (λ (ns : List (List ℕ)). Contains ns name) (sym names) (subst (λ (cs : List Clock). Contains (clock_names cs) name) clocks h),
  );
  all = λ k clock wave e f. let none : slice_get [] k ≡ Some clock = sym (ap (λ cs. slice_get cs k) clocks) ∙ e in cc;
}

-- the number at a place is known, or the next new one
pub number_cases : (next : ℕ) (numbers : List ℕ) (i number last : ℕ) → i < length numbers → number ≡ get_or numbers i number
    → RisesTo next (drop i numbers) last
    → ((number < next) × RisesTo next (drop (i + 1) numbers) last) ⊎ ((number ≡ next) × RisesTo (suc next) (drop (i + 1) numbers) last)
number_cases next numbers i number last within is rises =
    subst (λ (ns : List ℕ). RisesTo next ns last) (drop_more numbers i number within ∙ ap (λ n. n ∷ drop (i + 1) numbers) (sym is)) rises

-- a fact of each place below one holds of each below the next
below_next : (numbers : List ℕ) (i number bound : ℕ) → slice_get numbers i ≡ Some number → number < bound
    → ((p n : ℕ) → p < i → slice_get numbers p ≡ Some n → n < bound)
    → (p n : ℕ) → p < i + 1 → slice_get numbers p ≡ Some n → n < bound
below_next numbers i number bound at here before p n within e = by_place (cases_lt p i) where
  by_place : (p < i) ⊎ (i ≤ p) → n < bound
  by_place (inl less) = before p n less e
  by_place (inr more) =
      let same : i ≡ p = omega arith in
      let found : Some number ≡ Some n = sym at ∙ ap (slice_get numbers) same ∙ e in
      let is : number ≡ n = cc in
      omega arith

-- a number that is known adds no merged clock
pub known_step : (standings : List Standing) (numbers : List ℕ) (i number : ℕ) (merged : Merged) → i < length numbers → number ≡ get_or numbers i number
    → number ≢ length merged.clocks → MergedSoFar standings numbers i merged → MergedSoFar standings numbers (i + 1) merged
known_step standings numbers i number merged within is other known =
    let at = slice_get_read numbers (length numbers) i number refl within is in
    elim (number_cases (length merged.clocks) numbers i number known.last within is known.rest) [
      | inl old ↦ record {
        last = known.last;
        rest = old.1;
        below = below_next numbers i number (length merged.clocks) at old.0 known.below;
        long = known.long;
        names = known.names;
        all = known.all;
      }
      | inr new ↦ absurd (other new.0)
    ]

-- merged clocks of which one was added
grown : (standings : List Standing) (numbers : List ℕ) (before : List Clock) (waves : List Wave) (clock : Clock) (wave : Wave) → length waves ≡ length before
    → EachMerged standings numbers before waves → IsMerged standings numbers (clock_names before) (length before) clock wave
    → EachMerged standings numbers (before ++ clock ∷ []) (waves ++ wave ∷ [])
grown standings numbers before waves clock wave long all new k c w e f =
    elim (pair_cases before waves clock wave k c w long e f) [
      | inl old ↦
          let within = slice_get_within before k c old.0 in
          let front : take k (before ++ clock ∷ []) ≡ take k before = take-append-le k before (clock ∷ []) (omega arith) in
          subst (λ (cs : List Clock). IsMerged standings numbers (clock_names cs) k c w) (sym front) (all k c w old.0 old.1)
      | inr here ↦
          let front : take k (before ++ clock ∷ []) ≡ before = take_at before (clock ∷ []) k (sym here.0) in
          let with_clock : IsMerged standings numbers (clock_names before) (length before) c wave =
          subst (λ (x : Clock). IsMerged standings numbers (clock_names before) (length before) x wave) here.1 new in
          let with_wave : IsMerged standings numbers (clock_names before) (length before) c w =
          subst (λ (x : Wave). IsMerged standings numbers (clock_names before) (length before) c x) here.2 with_clock in
          let with_place : IsMerged standings numbers (clock_names before) k c w =
          subst (λ (n : ℕ). IsMerged standings numbers (clock_names before) n c w) (sym here.0) with_wave in
          subst (λ (cs : List Clock). IsMerged standings numbers (clock_names cs) k c w) (sym front) with_place
    ]

-- the first clock of a new number
new_clock : (standings : List Standing) (numbers : List ℕ) (own earlier set : List (List ℕ)) (i k : ℕ) (first : Standing) (name : List ℕ)
    → slice_get numbers i ≡ Some k → slice_get standings i ≡ Some first
    → ((p n : ℕ) → p < i → slice_get numbers p ≡ Some n → n < k)
    → HaveSameNames own (names_of standings) → HaveSameNames set earlier → IsMergedName own set first.name name
    → IsMerged standings numbers earlier k (clock_with name first.definition) first.definition.wave
new_clock standings numbers own earlier set i k first name at stands below same same' is = record {
  at = i;
  first = first;
  is_first = record { is = at; none_before = λ p within e. let h = below p k within e in absurd (omega arith) };
  stands = stands;
  name = name_transfers own (names_of standings) set earlier first.name name same same' is;
  clock_is = refl;
  wave_is = refl;
}

pub new_step : (standings : List Standing) (numbers : List ℕ) (own : List (List ℕ)) (i number : ℕ) (first : Standing) (merged merged' : Merged)
    → length numbers ≡ length standings → i < length numbers → number ≡ get_or numbers i number → first ≡ get_or standings i first
    → HaveSameNames own (names_of standings) → number ≡ length merged.clocks
    → AddsMerged own first merged merged' → MergedSoFar standings numbers i merged → MergedSoFar standings numbers (i + 1) merged'
new_step standings numbers own i number first merged merged' beside within is first_is same new adds known =
    let clock = clock_with adds.name first.definition in
    let at = slice_get_read numbers (length numbers) i number refl within is in
    let stands = slice_get_read standings (length standings) i first refl (omega arith) first_is in
    let longer : length merged'.clocks ≡ length merged.clocks + 1 = ap length adds.clocks ∙ length_push merged.clocks clock in
    let long_waves : length merged'.waves ≡ length merged.waves + 1 = ap length adds.waves ∙ length_push merged.waves first.definition.wave in
    let long = known.long in
    let named : clock_names merged'.clocks ≡ clock_names merged.clocks ++ adds.name ∷ [] = ap clock_names adds.clocks ∙ map_push (λ c. c.name) merged.clocks clock in
    let made = new_clock standings numbers own (clock_names merged.clocks) merged.names.keys i (length merged.clocks) first adds.name
    (at ∙ ap Some new) stands known.below same known.names adds.name_is in
    let each = grown standings numbers merged.clocks merged.waves clock first.definition.wave known.long known.all made in
    let each_wave : EachMerged standings numbers (merged.clocks ++ clock ∷ []) merged'.waves =
    subst (λ (ws : List Wave). EachMerged standings numbers (merged.clocks ++ clock ∷ []) ws) (sym adds.waves) each in
    elim (number_cases (length merged.clocks) numbers i number known.last within is known.rest) [
      | inl old ↦ absurd (omega (arith, old.0))
      | inr next ↦ record {
        last = known.last;
        rest = subst (λ (n : ℕ). RisesTo n (drop (i + 1) numbers) known.last) (sym (longer ∙ add-one (length merged.clocks))) next.1;
        below = below_next numbers i number (length merged'.clocks) at (omega arith) (λ p n low e. let h = known.below p n low e in omega arith);
        long = omega arith;
        names = subst (λ (ns : List (List ℕ)). HaveSameNames merged'.names.keys ns) (sym named)
            (same_more merged.names.keys merged'.names.keys (clock_names merged.clocks) adds.name adds.names known.names);
        all = subst (λ (cs : List Clock). EachMerged standings numbers cs merged'.waves) (sym adds.clocks) each_wave;
      }
    ]

pub merged_done : (standings : List Standing) (numbers : List ℕ) (i : ℕ) (merged : Merged) → length numbers ≤ i
    → MergedSoFar standings numbers i merged → AreMerged standings numbers merged.clocks merged.waves
merged_done standings numbers i merged done known = record {
  long = known.long;
  numbered = λ p d within. known.below p (get_or numbers p d) (omega arith) (slice_get-get_or numbers p d within);
  merged = known.all;
}
