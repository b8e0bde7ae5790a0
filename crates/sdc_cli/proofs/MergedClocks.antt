-- The merged clocks of printable modes are printable: what a merged mode must have so that it can be printed.
-- A standing of a printable clock is plain; a merged clock is what a plain standing is, under a name of name bytes.
use Rattle.std.proofs.Common.{◌≡◌, ℕ, zero, suc, ◌+◌, ◌/◌, ◌%◌, ◌<◌, true, false, List, [], ◌∷◌, ◌++◌, length, map, take, get_or, Some, refl, sym, ap, ◌∙◌, subst, inl, inr, append_assoc, arith}
use Rattle.std.specs.Prelude.{◌==◌, nat_lt, pos, slice_get, IsTrue}
use Rattle.std.specs.Cmp.Lexicographic.{bytes_decides}
use Rattle.std.specs.Fmt.{decimal, digits, digits_onto, digit_glyph}
use Rattle.std.specs.List.{All, Contains, concat, list_all}
use Rattle.std.proofs.lemmas.Bool.{and_from, and_parts, cond_both, false_from_ne_true, lt-ltb, ltb-true, or_from}
use Rattle.std.proofs.lemmas.Bool.Decides.{nat_tests}
use Rattle.std.proofs.lemmas.List.{length-append}
use Rattle.std.proofs.lemmas.List.Elements.{All-nil, All-cons, All-append, All-get_or}
use Rattle.std.proofs.lemmas.List.Folds.{list_all-append}
use Rattle.std.proofs.lemmas.Option.{slice_get_within, get_or_from_slice_get, slice_get-get_or}
use Rattle.std.proofs.Math.Seq.{take-append_seam}
use Rattle.sdc_base.specs.Time.{IsUnit}
use Rattle.timing_types.specs.declared.clocks.Clock.{Clock}
use Rattle.timing_types.specs.declared.clocks.Form.TheVariants.{Primary}
use Rattle.timing_types.specs.declared.clocks.Pair.{Pair}
use Rattle.timing_types.specs.declared.clocks.Wave.{Wave}
use Rattle.timing_types.specs.declared.designs.Design.{Design}
use Rattle.timing_types.specs.declared.identities.Definition.{Definition}
use Rattle.timing_types.specs.declared.identities.Standing.{Standing}
use Rattle.timing_types.specs.declared.merges.Merged.{Merged}
use Rattle.timing_types.specs.declared.modes.Mode.{Mode}
use Rattle.timing_types.specs.declared.views.Arrivals.{Arrivals}
use Rattle.timing_types.specs.declared.views.ClockMap.{ClockMap}
use Rattle.timing_types.specs.declared.views.View.{View}
use Rattle.text_model.specs.Bytes.{is_name_byte}
use Rattle.mode_model.specs.ClockFile.{is_name, is_taken, virtual_clock}
use Rattle.merge_model.specs.ClockIdentity.{clock_with, definition_of, numbered_name, names_of, standings_from, standings_of, IsClockMap, IsMerged, IsMergedName}
use Rattle.merge_model.specs.Exclusive.{AreExclusivePairs, ComesBefore}
use Rattle.merge_model.specs.MergedMode.{IsMergeOf}
use Rattle.merge_model.specs.PlainViews.{IsPrimary, ArePrimary, ModesArePrimary, HaveWaves, clock_count, clocks_in, own_waves, views_of}
use Rattle.mode_model.specs.PrintedFile.{IsPrintable, IsPrintableClock, ArePrintableClocks, ModesArePrintable}
use Rattle.constraint_model.specs.ClockWaves.{IsPrintableWave}
use Rattle.constraint_model.specs.ExclusivePairs.{ArePairs, IsAfter}
use Rattle.text_model.specs.Words.{same_text}

-- ---- printable clocks are primary, and have waves

are_primary : (before clocks : List Clock) → ArePrintableClocks before clocks → ArePrimary clocks
are_primary before [] printable = tt
are_primary before (clock ∷ clocks) printable =
    (subst (λ (c : Clock). IsPrimary c.form) (sym printable.0.1) tt, are_primary (before ++ clock ∷ []) clocks printable.2)

pub views_are_primary : (modes : List Mode) → ModesArePrintable modes → ModesArePrimary (views_of modes)
views_are_primary [] printable = tt
views_are_primary (mode ∷ modes) printable = (are_primary [] mode.clocks printable.0, views_are_primary modes printable.1)

waves_long : (before clocks : List Clock) → ArePrintableClocks before clocks → length (own_waves clocks) ≡ length clocks
waves_long before [] printable = refl
waves_long before (clock ∷ clocks) printable =
    let rest = waves_long (before ++ clock ∷ []) clocks printable.2 in
    subst (λ (c : Clock). length (own_waves (c ∷ clocks)) ≡ suc (length clocks)) (sym printable.0.1) (ap suc rest)

pub views_have_waves : (modes : List Mode) → ModesArePrintable modes → HaveWaves (views_of modes)
views_have_waves [] printable = tt
views_have_waves (mode ∷ modes) printable = (waves_long [] mode.clocks printable.0, views_have_waves modes printable.1)

pub views_count : (modes : List Mode) → clock_count (views_of modes) ≡ clocks_in modes
views_count [] = refl
views_count (mode ∷ modes) = ap (λ (n : ℕ). length mode.clocks + n) (views_count modes)

-- ---- standings of printable clocks

-- what a virtual clock of the waveform is, but its line and name
abbrev pub plain_definition : Wave → Definition
plain_definition wave = definition_of (Primary wave) (virtual_clock 0 [] wave) wave

pub record IsPlainStanding (standing : Standing) : Type 0 where
  pub wave : Wave
  pub definition : standing.definition ≡ plain_definition wave
  pub printable : IsPrintableWave wave
  pub name : IsTrue (is_name standing.name)

clocks_stand_plain : (numbers : List ℕ) (arrivals : Arrivals) (place : ℕ) (before clocks : List Clock) → ArePrintableClocks before clocks
    → All IsPlainStanding (standings_from numbers arrivals place clocks (own_waves clocks))
clocks_stand_plain numbers arrivals place before [] printable = All-nil IsPlainStanding
clocks_stand_plain numbers arrivals place before (clock ∷ clocks) printable =
    let wave = printable.0.0 in
    let rest = clocks_stand_plain numbers arrivals (suc place) (before ++ clock ∷ []) clocks printable.2 in
    let first : IsPlainStanding (record { definition = plain_definition wave; name = clock.name; place = place }) =
    record { wave = wave; definition = refl; printable = printable.0.2; name = printable.0.3 } in
    subst (λ (c : Clock). All IsPlainStanding (standings_from numbers arrivals place (c ∷ clocks) (own_waves (c ∷ clocks)))) (sym printable.0.1)
    (All-cons IsPlainStanding (record { definition = plain_definition wave; name = clock.name; place = place })
    (standings_from numbers arrivals (suc place) clocks (own_waves clocks)) first rest)

mode_stands_plain : (numbers : List ℕ) (mode : Mode) → ArePrintableClocks [] mode.clocks
    → All IsPlainStanding (standings_from numbers (record { at = [] }) 0 mode.clocks (own_waves mode.clocks))
mode_stands_plain numbers mode printable = clocks_stand_plain numbers (record { at = [] }) 0 [] mode.clocks printable

modes_stand_plain : (modes : List Mode) (maps : List (List ℕ)) → ModesArePrintable modes → All IsPlainStanding (standings_of (views_of modes) maps)
modes_stand_plain [] maps printable = All-nil IsPlainStanding
modes_stand_plain (mode ∷ modes) [] printable =
    All-append IsPlainStanding (standings_from [] (record { at = [] }) 0 mode.clocks (own_waves mode.clocks)) (standings_of (views_of modes) [])
    (mode_stands_plain [] mode printable.0) (modes_stand_plain modes [] printable.1)
modes_stand_plain (mode ∷ modes) (numbers ∷ maps) printable =
    All-append IsPlainStanding (standings_from numbers (record { at = [] }) 0 mode.clocks (own_waves mode.clocks)) (standings_of (views_of modes) maps)
    (mode_stands_plain numbers mode printable.0) (modes_stand_plain modes maps printable.1)

stands_plain : (standings : List Standing) (at : ℕ) (standing : Standing) → All IsPlainStanding standings → slice_get standings at ≡ Some standing
    → IsPlainStanding standing
stands_plain standings at standing plain e =
    subst IsPlainStanding (get_or_from_slice_get standings at standing standing e)
    (All-get_or IsPlainStanding standings at standing (slice_get_within standings at standing e) plain)

-- ---- names

glyph_is_name_byte : (d : ℕ) → d < 10 → is_name_byte (digit_glyph false d) ≡ true
glyph_is_name_byte d below = grind (arith, nat_tests)

digits_are_name_bytes : (fuel n : ℕ) (after : List ℕ) → list_all is_name_byte after ≡ true → list_all is_name_byte (digits_onto fuel 10 false n after) ≡ true
digits_are_name_bytes zero n after all = all
digits_are_name_bytes (suc fuel) n after all =
    let more : list_all is_name_byte (digit_glyph false (n % 10) ∷ after) ≡ true =
    and_from (is_name_byte (digit_glyph false (n % 10))) (list_all is_name_byte after) (glyph_is_name_byte (n % 10) (omega arith)) all in
    cond_both (n / 10 == 0) (digit_glyph false (n % 10) ∷ after) (digits_onto fuel 10 false (n / 10) (digit_glyph false (n % 10) ∷ after))
    (λ (text : List ℕ). list_all is_name_byte text ≡ true) (λ e. more)
    (λ e. digits_are_name_bytes fuel (n / 10) (digit_glyph false (n % 10) ∷ after) more)

decimal_is_of_name_bytes : (n : ℕ) → list_all is_name_byte (decimal n) ≡ true
unfolding digits
decimal_is_of_name_bytes n = digits_are_name_bytes 64 n [] refl

numbered_is_name : (name : List ℕ) (k : ℕ) → IsTrue (is_name name) → IsTrue (is_name (numbered_name name k))
numbered_is_name name k is =
    let parts = and_parts (nat_lt 0 (length name)) (list_all is_name_byte name) is in
    let some : 0 < length name = ltb-true 0 (length name) parts.0 in
    let long : 0 < length (numbered_name name k) = omega (arith, length-append name (95 ∷ decimal k)) in
    let bytes : list_all is_name_byte (numbered_name name k) ≡ true =
    list_all-append is_name_byte name (95 ∷ decimal k)
    ∙ and_from (list_all is_name_byte name) (list_all is_name_byte (95 ∷ decimal k)) parts.1 (decimal_is_of_name_bytes k) in
    and_from (nat_lt 0 (length (numbered_name name k))) (list_all is_name_byte (numbered_name name k)) (lt-ltb 0 (length (numbered_name name k)) long) bytes

merged_name : (own earlier : List (List ℕ)) (first name : List ℕ) → IsTrue (is_name first) → IsMergedName own earlier first name
    → IsTrue (is_name name) × (Contains earlier name → ⊥)
merged_name own earlier first name is (inl kept) =
    (subst (λ (n : List ℕ). IsTrue (is_name n)) (sym kept.1) is, λ (c : Contains earlier name). kept.0 (subst (Contains earlier) kept.1 c))
merged_name own earlier first name is (inr new) =
    (subst (λ (n : List ℕ). IsTrue (is_name n)) (sym new.1.is) (numbered_is_name first new.1.k is), new.1.not_earlier)

contains_after : (xs : List (List ℕ)) (y x : List ℕ) → Contains xs x → Contains (y ∷ xs) x
contains_after xs y x c = (suc c.0, omega (arith, c.1), c.2)

not_taken : (name : List ℕ) (clocks : List Clock) → (Contains (map (λ (c : Clock). c.name) clocks) name → ⊥) → is_taken name clocks ≡ false
not_taken name [] none = refl
not_taken name (clock ∷ clocks) none =
    let rest = not_taken name clocks (λ (c : Contains (map (λ (d : Clock). d.name) clocks) name). none (contains_after (map (λ (d : Clock). d.name) clocks) clock.name name c)) in
    or_from (same_text clock.name name) (is_taken name clocks) (false_from_ne_true (same_text clock.name name) other) rest where
      other : same_text clock.name name ≡ true → ⊥
      other e = none (zero, omega arith, (bytes_decides clock.name name).0 e)

-- ---- merged clocks

-- a clock of a plain definition is virtual
virtual : (clock : Clock) (wave : Wave) → clock ≡ clock_with clock.name (plain_definition wave) → clock ≡ virtual_clock clock.line clock.name wave
virtual clock wave e =
    let line : clock.line ≡ 0 = ap (λ (c : Clock). c.line) e in
    e ∙ ap (λ (l : ℕ). virtual_clock l clock.name wave) (sym line)

one_is_printable : (standings : List Standing) (numbers : List ℕ) (earlier : List (List ℕ)) (k : ℕ) (clock : Clock) (wave : Wave)
    → All IsPlainStanding standings → IsMerged standings numbers earlier k clock wave
    → IsPrintableClock clock × (Contains earlier clock.name → ⊥)
one_is_printable standings numbers earlier k clock wave plain merged =
    let first : IsPlainStanding merged.first = stands_plain standings merged.at merged.first plain merged.stands in
    let name = merged_name (names_of standings) earlier merged.first.name clock.name first.name merged.name in
    let is : clock ≡ clock_with clock.name (plain_definition first.wave) =
    merged.clock_is ∙ ap (clock_with clock.name) first.definition in
    ((first.wave, virtual clock first.wave is, first.printable, name.0), name.1)

get_seam : (before rest : List Clock) (clock : Clock) → slice_get (before ++ clock ∷ rest) (length before) ≡ Some clock
get_seam [] rest clock = refl
get_seam (first ∷ before) rest clock = get_seam before rest clock

-- clocks that are each printable, and of a name that none before has
rest_is_printable : (clocks before rest : List Clock) → clocks ≡ before ++ rest
    → ((k : ℕ) (clock : Clock) → slice_get clocks k ≡ Some clock
    → IsPrintableClock clock × (Contains (map (λ (c : Clock). c.name) (take k clocks)) clock.name → ⊥))
    → ArePrintableClocks before rest
rest_is_printable clocks before [] e each = tt
rest_is_printable clocks before (clock ∷ rest) e each =
    let here : slice_get clocks (length before) ≡ Some clock = ap (λ (cs : List Clock). slice_get cs (length before)) e ∙ get_seam before rest clock in
    let front : take (length before) clocks ≡ before = ap (take (length before)) e ∙ take-append_seam before (clock ∷ rest) in
    let one = each (length before) clock here in
    let new : Contains (map (λ (c : Clock). c.name) before) clock.name → ⊥ =
    subst (λ (cs : List Clock). Contains (map (λ (c : Clock). c.name) cs) clock.name → ⊥) front one.1 in (
      one.0,
      not_taken clock.name before new,
      rest_is_printable clocks (before ++ clock ∷ []) rest (e ∙ sym (append_assoc before (clock ∷ []) rest)) each,
    )

no_wave : Wave
no_wave = record { period = pos 0; rise = pos 0; fall = pos 0 }

pub merged_is_printable : (modes : List Mode) (answer : ClockMap) → ModesArePrintable modes → IsClockMap (views_of modes) answer → ArePrintableClocks [] answer.clocks
merged_is_printable modes answer printable is = rest_is_printable answer.clocks [] answer.clocks refl each where
  each : (k : ℕ) (clock : Clock) → slice_get answer.clocks k ≡ Some clock
      → IsPrintableClock clock × (Contains (map (λ (c : Clock). c.name) (take k answer.clocks)) clock.name → ⊥)
  each k clock here =
      let below : k < length answer.clocks = slice_get_within answer.clocks k clock here in
      let within : k < length answer.waves = omega (arith, is.waves) in
      let wave = get_or answer.waves k no_wave in
      let wave_here : slice_get answer.waves k ≡ Some wave = slice_get-get_or answer.waves k no_wave within in
      one_is_printable (standings_of (views_of modes) answer.maps) (concat answer.maps) (map (λ (c : Clock). c.name) (take k answer.clocks)) k clock wave
      (modes_stand_plain modes answer.maps printable) (is.merged k clock wave here wave_here)

-- ---- exclusive pairs

-- pairs that are each of places, the lesser first, and come one before the other
pairs_in_order : (count : ℕ) (pairs : List Pair)
    → ((p : ℕ) (x : Pair) → slice_get pairs p ≡ Some x → (x.first < x.second) × (x.second < count))
    → ((p q : ℕ) (x y : Pair) → p < q → slice_get pairs p ≡ Some x → slice_get pairs q ≡ Some y → ComesBefore x y)
    → ArePairs count pairs
pairs_in_order count [] each order = tt
pairs_in_order count (pair ∷ pairs) each order =
    let first = each zero pair refl in (
      first.0,
      first.1,
      after pairs (λ (next : Pair) (e : slice_get pairs zero ≡ Some next). order zero (suc zero) pair next (omega arith) refl e),
      pairs_in_order count pairs (λ (p : ℕ). each (suc p)) (λ (p q : ℕ) (x y : Pair) (h : p < q). order (suc p) (suc q) x y (omega arith)),
    ) where
      after : (others : List Pair) → ((next : Pair) → slice_get others zero ≡ Some next → ComesBefore pair next) → IsAfter pair others
      after [] before = tt
      after (next ∷ others) before = before next refl

contained : (pairs : List Pair) (p : ℕ) (x : Pair) → slice_get pairs p ≡ Some x → Contains pairs x
contained pairs p x e = (p, slice_get_within pairs p x e, get_or_from_slice_get pairs p x x e)

merged_pairs : {views : List View} {maps : List (List ℕ)} {count : ℕ} {pairs : List Pair} → AreExclusivePairs views maps count pairs → ArePairs count pairs
merged_pairs {count = count} {pairs = pairs} exclusive = pairs_in_order count pairs each exclusive.order where
  each : (p : ℕ) (x : Pair) → slice_get pairs p ≡ Some x → (x.first < x.second) × (x.second < count)
  each p x e =
      let member = (exclusive.members x.first x.second).0 (contained pairs p x e) in
      (member.0, member.1)

-- ---- merged modes

pub merge_is_printable : {modes : List Mode} {merged : Merged} {design : Design} → IsUnit design.unit → ModesArePrintable modes → IsMergeOf modes merged
    → IsPrintable design merged.mode
merge_is_printable {modes = modes} {merged = merged} unit printable is = record {
  unit = unit;
  clocks = subst (ArePrintableClocks []) (sym is.clocks) (merged_is_printable modes merged.clocks printable is.identity);
  pairs = merged_pairs is.exclusive;
  alone = is.alone;
}
