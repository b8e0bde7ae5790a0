-- The rows of a clock map: where they stand among all numbers, and what equal clocks share.
use Rattle.std.proofs.Common.{◌≡◌, ℕ, zero, suc, ◌+◌, ◌<◌, List, [], ◌∷◌, ◌++◌, length, take, map, Some, refl, sym, ap, ◌∙◌, subst, inl, inr, arith}
use Rattle.std.specs.Prelude.{slice_get}
use Rattle.std.specs.List.{concat, Contains, AllZip}
use Rattle.std.proofs.lemmas.List.{length-map}
use Rattle.std.proofs.lemmas.Option.{slice_get_within, slice_get-map, get_or_from_slice_get}
use Rattle.std.specs.Option.{option_map}
use Rattle.timing_types.specs.declared.clocks.Clock.{Clock}
use Rattle.timing_types.specs.declared.clocks.Wave.{Wave}
use Rattle.timing_types.specs.declared.views.Arrivals.{Arrivals}
use Rattle.timing_types.specs.declared.views.View.{View}
use Rattle.timing_types.specs.declared.views.ClockMap.{ClockMap}
use Rattle.timing_types.specs.declared.identities.Standing.{Standing}
use Rattle.merge_model.specs.ClockIdentity.{merged_form, definition_of, standings_from, mode_standings, identity_among, identities_among, identities_of, IsClockMap}
use Rattle.merge_model.specs.PlainViews.{ArePrimary, ModesArePrimary, HaveWaves, HaveSameClocks}
use Rattle.constraint_model.specs.ModeLines.{without_line}
use Rattle.constraint_model.specs.ListOrder.{HasEachOnce}
use Rattle.merge_model.specs.Exclusive.{HaveEachOnce}
use Rattle.text_model.proofs.ListFacts.{element_at}
use Rattle.clock_map.proofs.StandingLists.{form_stays}
use Rattle.clock_map.proofs.PlainMaps.{length-from}
use Rattle.clock_map.proofs.LawLists.{ranks_distinguish}

-- ---- places in lists joined end to end

get_front : {X : Type 0} (xs ys : List X) (i : ℕ) → i < length xs → slice_get (xs ++ ys) i ≡ slice_get xs i
get_front [] ys i within = absurd (omega arith)
get_front (x ∷ xs) ys zero within = refl
get_front (x ∷ xs) ys (suc i) within = get_front xs ys i (omega arith)

get_after : {X : Type 0} (xs ys : List X) (n i : ℕ) → length xs ≡ n → slice_get (xs ++ ys) (n + i) ≡ slice_get ys i
get_after [] ys n i e = ap (slice_get ys) (omega arith)
get_after (x ∷ xs) ys zero i e = absurd (omega arith)
get_after (x ∷ xs) ys (suc n) i e =
    let next : suc n + i ≡ suc (n + i) = omega arith in
    ap (slice_get ((x ∷ xs) ++ ys)) next ∙ get_after xs ys n i (omega arith)

-- a row of a map, with what is known of its mode
pub record IsRow (views : List View) (maps : List (List ℕ)) (view : View) (row : List ℕ) : Type 0 where
  pub offset : ℕ
  pub long : length row ≡ length view.mode.clocks
  pub waves : length view.waves ≡ length view.mode.clocks
  pub number : (i : ℕ) → i < length row → slice_get (concat maps) (offset + i) ≡ slice_get row i
  pub identity : (i : ℕ) → i < length row → slice_get (identities_of views maps) (offset + i) ≡ slice_get (identities_among (mode_standings row view)) i

long_identities : (row : List ℕ) (view : View) → length view.waves ≡ length view.mode.clocks → length (identities_among (mode_standings row view)) ≡ length view.mode.clocks
long_identities row view waves =
    length-map (mode_standings row view) (identity_among (mode_standings row view)) ∙ length-from row view.arrivals 0 view.mode.clocks view.waves waves

pub row_at : (views : List View) (maps : List (List ℕ)) (m : ℕ) (view : View) → AllZip (λ view row. length row ≡ length view.mode.clocks) views maps → HaveWaves views
    → slice_get views m ≡ Some view → (row : List ℕ) × (slice_get maps m ≡ Some row) × IsRow views maps view row
row_at [] maps m view shape waves e = cc
row_at (first ∷ views) [] m view shape waves e = absurd shape
row_at (first ∷ views) (row ∷ maps) zero view shape waves e =
    let same : first ≡ view = cc in
    let long = long_identities row first waves.0 in (
      row,
      refl,
      subst (λ (v : View). IsRow (first ∷ views) (row ∷ maps) v row) same (record {
        offset = 0;
        long = shape.0;
        waves = waves.0;
        number = λ i within. ap (slice_get (row ++ concat maps)) (omega arith) ∙ get_front row (concat maps) i within;
        identity = λ i within. ap (slice_get (identities_among (mode_standings row first) ++ identities_of views maps)) (omega arith)
            ∙ get_front (identities_among (mode_standings row first)) (identities_of views maps) i (omega (arith, shape.0));
      }),
    )
row_at (first ∷ views) (row ∷ maps) (suc m) view shape waves e =
    let rest = row_at views maps m view shape.1 waves.1 e in
    let known = rest.2 in
    let long = long_identities row first waves.0 in (
      rest.0,
      rest.1,
      record {
        offset = length row + known.offset;
        long = known.long;
        waves = known.waves;
        number = λ i within. ap (slice_get (row ++ concat maps)) (omega arith)
            ∙ get_after row (concat maps) (length row) (known.offset + i) refl ∙ known.number i within;
        identity = λ i within. ap (slice_get (identities_among (mode_standings row first) ++ identities_of views maps)) (omega arith)
            ∙ get_after (identities_among (mode_standings row first)) (identities_of views maps) (length row) (known.offset + i) (omega (arith, shape.0)) ∙ known.identity i within;
      },
    )

-- ---- clocks of one mode

row_distinct : (views : List View) (map : ClockMap) (view : View) (row : List ℕ) → IsClockMap views map → IsRow views map.maps view row → HasEachOnce row
row_distinct views map view row is known p q n e f =
    let p_within = slice_get_within row p n e in
    let q_within = slice_get_within row q n f in
    let number = known.number p p_within ∙ e in
    let number' = known.number q q_within ∙ f in
    let far = slice_get_within (concat map.maps) (known.offset + p) n number in
    let far' = slice_get_within (concat map.maps) (known.offset + q) n number' in
    let same = (is.one (known.offset + p) (known.offset + q) far far').0 (number ∙ sym number') in
    let long = known.long in
    let many = long_identities row view known.waves in
    let x = element_at (identities_among (mode_standings row view)) p (omega arith) in
    let y = element_at (identities_among (mode_standings row view)) q (omega arith) in
    let equal : Some x.0 ≡ Some y.0 = sym x.1 ∙ sym (known.identity p p_within) ∙ same ∙ known.identity q q_within ∙ y.1 in
    let equal' : x.0 ≡ y.0 = cc in
    ranks_distinguish row view p q x.0 y.0 x.1 y.1 equal'

each_distinct : (maps : List (List ℕ)) → ((m : ℕ) (row : List ℕ) → slice_get maps m ≡ Some row → HasEachOnce row) → HaveEachOnce maps
each_distinct [] each = tt
each_distinct (row ∷ maps) each = (each 0 row refl, each_distinct maps (λ m r e. each (suc m) r e))

pub apart : (views : List View) (map : ClockMap) → HaveWaves views → IsClockMap views map → HaveEachOnce map.maps
apart views map waves is = each_distinct map.maps (λ m row e.
    let found = row_of views map.maps m row is.shape e in
    let known = row_at views map.maps m found.0 is.shape waves found.1 in
    let same : Some known.0 ≡ Some row = sym known.1 ∙ e in
    let same' : known.0 ≡ row = cc in
    subst HasEachOnce same' (row_distinct views map found.0 known.0 is known.2)) where
      row_of : (views : List View) (maps : List (List ℕ)) (m : ℕ) (row : List ℕ) → AllZip (λ view row. length row ≡ length view.mode.clocks) views maps → slice_get maps m ≡ Some row
          → (view : View) × (slice_get views m ≡ Some view)
      row_of [] [] m row shape e = cc
      row_of [] (r ∷ maps) m row shape e = absurd shape
      row_of (view ∷ views) [] m row shape e = absurd shape
      row_of (view ∷ views) (r ∷ maps) zero row shape e = (view, refl)
      row_of (view ∷ views) (r ∷ maps) (suc m) row shape e = row_of views maps m row shape.1 e

-- ---- equal modes

same_standings : (numbers numbers' : List ℕ) (arrivals arrivals' : Arrivals) (place : ℕ) (clocks clocks' : List Clock) (waves : List Wave)
    → ArePrimary clocks → ArePrimary clocks' → AllZip (λ clock other. without_line clock ≡ without_line other) clocks clocks'
    → standings_from numbers arrivals place clocks waves ≡ standings_from numbers' arrivals' place clocks' waves
same_standings numbers numbers' arrivals arrivals' place [] [] waves primary primary' same = refl
same_standings numbers numbers' arrivals arrivals' place [] (other ∷ clocks') waves primary primary' same = absurd same
same_standings numbers numbers' arrivals arrivals' place (clock ∷ clocks) [] waves primary primary' same = absurd same
same_standings numbers numbers' arrivals arrivals' place (clock ∷ clocks) (other ∷ clocks') [] primary primary' same = refl
same_standings numbers numbers' arrivals arrivals' place (clock ∷ clocks) (other ∷ clocks') (wave ∷ waves) primary primary' same =
    let stands : Clock → Standing = λ c. record { definition = definition_of c.form c wave; name = c.name; place = place } in
    let here : record { definition = definition_of (merged_form numbers arrivals place clock.form) clock wave; name = clock.name; place = place } ≡ stands clock =
    ap (λ form. record { definition = definition_of form clock wave; name = clock.name; place = place }) (form_stays numbers arrivals place clock.form primary.0) in
    let there : record { definition = definition_of (merged_form numbers' arrivals' place other.form) other wave; name = other.name; place = place } ≡ stands other =
    ap (λ form. record { definition = definition_of form other wave; name = other.name; place = place }) (form_stays numbers' arrivals' place other.form primary'.0) in
    let equal : stands clock ≡ stands other = ap stands same.0 in
    let first = here ∙ equal ∙ sym there in
    let rest = same_standings numbers numbers' arrivals arrivals' (suc place) clocks clocks' waves primary.1 primary'.1 same.1 in
    λ i. first i ∷ rest i

primary_view : (views : List View) (m : ℕ) (view : View) → ModesArePrimary views → slice_get views m ≡ Some view → ArePrimary view.mode.clocks
primary_view [] m view primary e = cc
primary_view (first ∷ views) zero view primary e = let same : first ≡ view = cc in subst (λ (v : View). ArePrimary v.mode.clocks) same primary.0
primary_view (first ∷ views) (suc m) view primary e = primary_view views m view primary.1 e

pub same_lists : {X : Type 0} (xs ys : List X) → length xs ≡ length ys → ((i : ℕ) → i < length xs → slice_get xs i ≡ slice_get ys i) → xs ≡ ys
same_lists [] [] long each = refl
same_lists [] (y ∷ ys) long each = absurd (omega arith)
same_lists (x ∷ xs) [] long each = absurd (omega arith)
same_lists (x ∷ xs) (y ∷ ys) long each =
    let first : Some x ≡ Some y = each 0 (omega arith) in
    let first' : x ≡ y = cc in
    let rest : xs ≡ ys = same_lists xs ys (omega arith) (λ i within. each (suc i) (omega arith)) in
    λ i. first' i ∷ rest i

pub zip_length : {X Y : Type 0} (R : X → Y → Type 0) (xs : List X) (ys : List Y) → AllZip R xs ys → length xs ≡ length ys
zip_length R [] [] all = refl
zip_length R [] (y ∷ ys) all = absurd all
zip_length R (x ∷ xs) [] all = absurd all
zip_length R (x ∷ xs) (y ∷ ys) all = ap suc (zip_length R xs ys all.1)

pub shared : (views : List View) (map : ClockMap) → ModesArePrimary views → HaveWaves views → IsClockMap views map
    → (m n : ℕ) (first second : View) → slice_get views m ≡ Some first → slice_get views n ≡ Some second → HaveSameClocks first second
    → slice_get map.maps m ≡ slice_get map.maps n
shared views map primary waves is m n first second e f same =
    let one = row_at views map.maps m first is.shape waves e in
    let other = row_at views map.maps n second is.shape waves f in
    let known = one.2 in
    let known' = other.2 in
    let standings : mode_standings one.0 first ≡ mode_standings other.0 second =
    same_standings one.0 other.0 first.arrivals second.arrivals 0 first.mode.clocks second.mode.clocks first.waves
    (primary_view views m first primary e) (primary_view views n second primary f) same.clocks
    ∙ ap (λ ws. standings_from other.0 second.arrivals 0 second.mode.clocks ws) same.waves in
    let many = zip_length (λ clock other. without_line clock ≡ without_line other) first.mode.clocks second.mode.clocks same.clocks in
    let long : length one.0 ≡ length other.0 = known.long ∙ many ∙ sym known'.long in
    let rows : one.0 ≡ other.0 = same_lists one.0 other.0 long (λ i within.
    let x = element_at one.0 i within in
    let y = element_at other.0 i (omega arith) in
    let number = known.number i within ∙ x.1 in
    let number' = known'.number i (omega arith) ∙ y.1 in
    let far = slice_get_within (concat map.maps) (known.offset + i) x.0 number in
    let far' = slice_get_within (concat map.maps) (known'.offset + i) y.0 number' in
    let ids = known.identity i within ∙ ap (λ ss. slice_get (identities_among ss) i) standings ∙ sym (known'.identity i (omega arith)) in
    sym (known.number i within) ∙ (is.one (known.offset + i) (known'.offset + i) far far').1 ids ∙ known'.number i (omega arith)) in
    one.1 ∙ ap Some rows ∙ sym other.1

-- ---- merged clocks

pub from_mode : (views : List View) (map : ClockMap) → IsClockMap views map → (k : ℕ) (clock : Clock) → slice_get map.clocks k ≡ Some clock → Contains (concat map.maps) k
from_mode views map is k clock e =
    let within = slice_get_within map.clocks k clock e in
    let waves = is.waves in
    let wave = element_at map.waves k (omega arith) in
    let merged = is.merged k clock wave.0 e wave.1 in
    let at = merged.is_first.is in
    (merged.at, slice_get_within (concat map.maps) merged.at k at, get_or_from_slice_get (concat map.maps) merged.at k k at)

abbrev names : List Clock → List (List ℕ)
names clocks = map (λ clock. clock.name) clocks

get_taken : {X : Type 0} (xs : List X) (k l : ℕ) → k < l → slice_get (take l xs) k ≡ slice_get xs k
get_taken xs k zero less = absurd (omega arith)
get_taken [] k (suc l) less = refl
get_taken (x ∷ xs) zero (suc l) less = refl
get_taken (x ∷ xs) (suc k) (suc l) less = get_taken xs k l (omega arith)

pub names_distinct : (views : List View) (map : ClockMap) → IsClockMap views map → (k l : ℕ) (first second : Clock) → k < l
    → slice_get map.clocks k ≡ Some first → slice_get map.clocks l ≡ Some second → first.name ≡ second.name → ⊥
names_distinct views map is k l first second less e f same =
    let within = slice_get_within map.clocks l second f in
    let waves = is.waves in
    let wave = element_at map.waves l (omega arith) in
    let merged = is.merged l second wave.0 f wave.1 in
    let taken : slice_get (names (take l map.clocks)) k ≡ Some first.name =
    slice_get-map (λ (c : Clock). c.name) (take l map.clocks) k ∙ ap (option_map (λ (c : Clock). c.name)) (get_taken map.clocks k l less ∙ e) in
    let there : Contains (names (take l map.clocks)) second.name =
    subst (Contains (names (take l map.clocks))) same
    (k, slice_get_within (names (take l map.clocks)) k first.name taken, get_or_from_slice_get (names (take l map.clocks)) k first.name first.name taken) in
    elim merged.name [
      | inl own ↦ own.0 (subst (Contains (names (take l map.clocks))) own.1 there)
      | inr free ↦ free.1.not_earlier there
    ]
