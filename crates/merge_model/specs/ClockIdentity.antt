-- Which clocks of several modes are one merged clock, in what order the merged clocks stand and under what names.
-- This project's own rule. It reads: the clocks of all modes stand one mode after the other; two of them are one
-- exactly where their identities are equal; a merged clock is what its first clock is, under a name of its own.
use Rattle.std.specs.Prelude.{◌≡◌, ◌+◌, ◌*◌, ◌-◌, ◌<◌, ◌≤◌, ◌==◌, ◌&&◌, ◌⊎◌, ◌↔◌, ℕ, zero, suc, Bool, List, [], ◌∷◌, ◌++◌, length, map, Option, Some, None, slice_get, codes, take, if◌then◌else◌}
use Rattle.std.specs.List.{count_by, concat, Contains, All, AllZip}
use Rattle.std.specs.Option.{option_and_then}
use Rattle.std.specs.Ordering.{is_eq, is_lt, nat_cmp, ordering_then}
use Rattle.std.specs.Cmp.Lexicographic.{slice_cmp}
use Rattle.std.specs.Fmt.{decimal}
use Rattle.timing_types.specs.declared.clocks.Clock.{Clock}
use Rattle.timing_types.specs.declared.clocks.Wave.{Wave}
use Rattle.timing_types.specs.declared.clocks.Form.{Form}
use Rattle.timing_types.specs.declared.clocks.Form.TheVariants.{Primary, Generated}
use Rattle.pin_types.specs.declared.pins.ClockEdge.{ClockEdge}
use Rattle.timing_types.specs.declared.views.Arrivals.{Arrivals}
use Rattle.timing_types.specs.declared.views.View.{View}
use Rattle.timing_types.specs.declared.views.ClockMap.{ClockMap}
use Rattle.timing_types.specs.declared.identities.Definition.{Definition}
use Rattle.timing_types.specs.declared.identities.Standing.{Standing}
use Rattle.timing_types.specs.declared.identities.Identity.{Identity}
use Rattle.timing_model.specs.Arrival.{edges_at}
use Rattle.timing_types.specs.contracts.identities.DefinitionOrd.TheImpl as definition_order

-- ---- masters

-- the first clock of these edges that is another one
abbrev pub other_clock : ℕ → List ClockEdge → Option ℕ
other_clock place [] = None
other_clock place (edge ∷ edges) = if edge.clock == place then other_clock place edges else Some edge.clock

-- the clock of its mode from which the clock at a place is generated: the named one, or else the one other clock that
-- arrives at its source pin
abbrev pub master_of : Arrivals → ℕ → Form → Option ℕ
master_of arrivals place (Primary wave) = None
master_of arrivals place (Generated source (Some master) shape invert) = Some master
master_of arrivals place (Generated source None shape invert) =
    other_clock place (edges_at arrivals (2 * source.0) ++ edges_at arrivals (2 * source.0 + 1))

abbrev pub master_at : View → ℕ → Option ℕ
master_at view place = option_and_then (λ clock. master_of view.arrivals place clock.form) (slice_get view.mode.clocks place)

-- a primary clock has depth 0, a generated one a depth above its master's
abbrev pub HasDepth : View → ℕ → ℕ → Type 0
HasDepth view place zero = master_at view place ≡ None
HasDepth view place (suc depth) = (master : ℕ) × (master_at view place ≡ Some master) × HasDepth view master depth

-- ---- identities

-- a form that names its master, as a merged clock, by the merged clocks of the mode's clocks
abbrev pub merged_form : List ℕ → Arrivals → ℕ → Form → Form
merged_form numbers arrivals place (Primary wave) = Primary wave
merged_form numbers arrivals place (Generated source master shape invert) =
    Generated source (option_and_then (slice_get numbers) (master_of arrivals place (Generated source master shape invert))) shape invert

-- all of a clock but its line and name, with its wave
abbrev pub definition_of : Form → Clock → Wave → Definition
definition_of form clock wave = record {
  sources = clock.sources;
  wave = wave;
  form = form;
  latency = clock.latency;
  setup_uncertainty = clock.setup_uncertainty;
  hold_uncertainty = clock.hold_uncertainty;
  propagated = clock.propagated;
}

-- the clocks of a mode, the first of them at a place
abbrev pub standings_from : List ℕ → Arrivals → ℕ → List Clock → List Wave → List Standing
standings_from numbers arrivals place [] waves = []
standings_from numbers arrivals place (clock ∷ clocks) [] = []
standings_from numbers arrivals place (clock ∷ clocks) (wave ∷ waves) =
    record {
      definition = definition_of (merged_form numbers arrivals place clock.form) clock wave;
      name = clock.name;
      place = place;
    } ∷ standings_from numbers arrivals (suc place) clocks waves

abbrev pub mode_standings : List ℕ → View → List Standing
mode_standings numbers view = standings_from numbers view.arrivals 0 view.mode.clocks view.waves

abbrev pub same_definition : Definition → Definition → Bool
same_definition a b = is_eq ((definition_order.ghosts).cmp a b)

-- the first stands ahead of the second: by name in byte order, under one name by place
abbrev pub is_ahead : Standing → Standing → Bool
is_ahead a b = is_lt (ordering_then (slice_cmp nat_cmp a.name b.name) (nat_cmp a.place b.place))

-- how many of these clocks have the clock's definition and stand ahead of it
abbrev pub rank_among : List Standing → Standing → ℕ
rank_among standings clock =
    count_by (λ other. same_definition other.definition clock.definition && is_ahead other clock) standings

-- what makes a clock one with clocks of other modes: its definition, and its rank among the clocks of its mode
abbrev pub identity_among : List Standing → Standing → Identity
identity_among standings clock = record { definition = clock.definition; rank = rank_among standings clock }

abbrev pub identities_among : List Standing → List Identity
identities_among standings = map (identity_among standings) standings

-- ---- the clocks of all modes, one mode after the other

abbrev pub standings_of : List View → List (List ℕ) → List Standing
standings_of [] maps = []
standings_of (view ∷ views) [] = mode_standings [] view ++ standings_of views []
standings_of (view ∷ views) (numbers ∷ maps) = mode_standings numbers view ++ standings_of views maps

abbrev pub identities_of : List View → List (List ℕ) → List Identity
identities_of [] maps = []
identities_of (view ∷ views) [] = identities_among (mode_standings [] view) ++ identities_of views []
identities_of (view ∷ views) (numbers ∷ maps) = identities_among (mode_standings numbers view) ++ identities_of views maps

-- the depth of the clock at a place of all clocks
abbrev pub HasDepthAt : List View → ℕ → ℕ → Type 0
HasDepthAt [] at depth = ⊥
HasDepthAt (view ∷ views) at depth =
    ((at < length view.mode.clocks) × HasDepth view at depth)
    ⊎ ((length view.mode.clocks ≤ at) × HasDepthAt views (at - length view.mode.clocks) depth)

-- lesser depth first, then the earlier of all clocks: by mode, then by definition
abbrev pub StandsAhead : List View → ℕ → ℕ → Type 0
StandsAhead views p q =
    (d : ℕ) × (e : ℕ) × HasDepthAt views p d × HasDepthAt views q e × ((d < e) ⊎ ((d ≡ e) × (p < q)))

-- ---- names

abbrev pub names_of : List Standing → List (List ℕ)
names_of = map (λ clock. clock.name)

-- a name with `_k`
abbrev pub numbered_name : List ℕ → ℕ → List ℕ
numbered_name name k = name ++ (codes "_" ++ decimal k)

-- the name with the least k from 1 that is no name of any mode's clock and of no earlier merged clock
pub record IsFreeName (own earlier : List (List ℕ)) (first name : List ℕ) : Type 0 where
  pub k : ℕ
  pub positive : 1 ≤ k
  pub is : name ≡ numbered_name first k
  pub not_own : Contains own name → ⊥
  pub not_earlier : Contains earlier name → ⊥
  pub least : (j : ℕ) → 1 ≤ j → j < k → Contains own (numbered_name first j) ⊎ Contains earlier (numbered_name first j)

-- the name of a merged clock: its first clock's, or, where an earlier merged clock has that, a free one
abbrev pub IsMergedName : List (List ℕ) → List (List ℕ) → List ℕ → List ℕ → Type 0
IsMergedName own earlier first name =
    ((Contains earlier first → ⊥) × (name ≡ first)) ⊎ (Contains earlier first × IsFreeName own earlier first name)

-- ---- merged clocks

-- the clock of this name and definition; no line made it
abbrev pub clock_with : List ℕ → Definition → Clock
clock_with name definition = record {
  line = 0;
  name = name;
  sources = definition.sources;
  form = definition.form;
  latency = definition.latency;
  setup_uncertainty = definition.setup_uncertainty;
  hold_uncertainty = definition.hold_uncertainty;
  propagated = definition.propagated;
}

-- the first of all clocks that is merged clock k stands at a place
pub record IsFirstAt (numbers : List ℕ) (k at : ℕ) : Type 0 where
  pub is : slice_get numbers at ≡ Some k
  pub none_before : (p : ℕ) → p < at → slice_get numbers p ≡ Some k → ⊥

-- a clock and a wave are those of merged clock k, after merged clocks of these names
pub record IsMerged (standings : List Standing) (numbers : List ℕ) (earlier : List (List ℕ)) (k : ℕ) (clock : Clock) (wave : Wave) : Type 0 where
  pub at : ℕ
  pub first : Standing
  pub is_first : IsFirstAt numbers k at
  pub stands : slice_get standings at ≡ Some first
  pub name : IsMergedName (names_of standings) earlier first.name clock.name
  pub clock_is : clock ≡ clock_with clock.name first.definition
  pub wave_is : wave ≡ first.definition.wave

-- the merged clocks of several modes
pub record IsClockMap (views : List View) (answer : ClockMap) : Type 0 where
  pub shape : AllZip (λ view numbers. length numbers ≡ length view.mode.clocks) views answer.maps
  pub numbered : All (λ number. number < length answer.clocks) (concat answer.maps)
  pub one : (p q : ℕ) → p < length (concat answer.maps) → q < length (concat answer.maps)
      → (slice_get (concat answer.maps) p ≡ slice_get (concat answer.maps) q)
      ↔ (slice_get (identities_of views answer.maps) p ≡ slice_get (identities_of views answer.maps) q)
  pub order : (k l p q : ℕ) → k < l → IsFirstAt (concat answer.maps) k p → IsFirstAt (concat answer.maps) l q → StandsAhead views p q
  pub waves : length answer.waves ≡ length answer.clocks
  pub merged : (k : ℕ) (clock : Clock) (wave : Wave) → slice_get answer.clocks k ≡ Some clock → slice_get answer.waves k ≡ Some wave
      → IsMerged (standings_of views answer.maps) (concat answer.maps) (map (λ earlier. earlier.name) (take k answer.clocks)) k clock wave
