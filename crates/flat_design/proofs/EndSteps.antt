-- What holds while sources are followed from a net to its end.
use Rattle.std.proofs.Common.{◌≡◌, ◌<◌, ◌⊎◌, ◌||◌, ◌==◌, inl, inr, ℕ, Bool, true, false, List, [], ◌∷◌, ◌++◌, length, set, refl, sym, ◌∙◌, ap, subst, arith}
use Rattle.std.specs.Prelude.{⊤}
use Rattle.std.proofs.lemmas.Bool.{false≢true, cases_eq, or_cases, or_left, eq-eqb, eqb-true}
use Rattle.std.proofs.lemmas.List.{get_or-set_same, get_or-set_other, length-set}
use Rattle.std.proofs.lemmas.List.Sums.{sum_by-set}
use Rattle.std.specs.List.{Contains}
use Rattle.timing_types.specs.declared.designs.Source.{Source}
use Rattle.flat_design.specs.declared.drivers.ends.Mark.{Mark}
use Rattle.flat_design.specs.declared.drivers.ends.Mark.TheVariants as mark
use Rattle.flat_design.specs.declared.drivers.ends.Next.TheVariants as next
use Rattle.flat_design.specs.declared.drivers.driver_edges.DriverEdge.{DriverEdge}
use Rattle.flat_design.specs.declared.drivers.driver_edges.Driver.TheVariants as driver
use Rattle.flat_design.specs.Sources.{LeadsTo, driven_by}
use Rattle.flat_design.specs.Ends.{AreKept, AreSettled, IsSettled, SomeReturns, WalksFrom, is_done, is_open, mark_of}
use Rattle.flat_design.specs.Walk.{is_in}
use Rattle.flat_design.proofs.EndFacts.{NextIs, contains_first}
use Rattle.flat_design.proofs.EndMarks.{marked_as, open_weight, open_within, to_follow, weight}
use Rattle.flat_design.proofs.MarkFacts.{in_other, marked_more, marks_as}
use Rattle.flat_design.proofs.SourceFacts.{leads_more}

-- ---- the path

-- each net on a path, the last one first, is the one source of the next one, and stands there once
abbrev pub IsPath : List DriverEdge → List ℕ → Type 0
IsPath rows [] = ⊤
IsPath rows (at ∷ []) = ⊤
IsPath rows (at ∷ before ∷ outer) = (is_in (before ∷ outer) at ≡ false) × ((driven_by rows before ≡ driver.Net at ∷ []) × IsPath rows (before ∷ outer))

path_distinct : (rows : List DriverEdge) (at : ℕ) (outer : List ℕ) → IsPath rows (at ∷ outer) → is_in outer at ≡ false
path_distinct rows at [] path = refl
path_distinct rows at (before ∷ outer) path = path.0

path_outer : (rows : List DriverEdge) (at : ℕ) (outer : List ℕ) → IsPath rows (at ∷ outer) → IsPath rows outer
path_outer rows at [] path = tt
path_outer rows at (before ∷ outer) path = path.1.1

abbrev Leads : List DriverEdge → ℕ → ℕ → Type 0
Leads rows net end = (ways : List ℕ) × LeadsTo rows net ways end

path_leads : (rows : List DriverEdge) (at : ℕ) (outer : List ℕ) (e : ℕ) → IsPath rows (at ∷ outer) → is_in (at ∷ outer) e ≡ true
    → (e ≡ at) ⊎ Leads rows e at
path_leads rows at [] e path h =
    elim (or_cases (at == e) false h) [ inl same ↦ inl (sym (eqb-true at e same)) | inr bad ↦ absurd (false≢true bad) ]
path_leads rows at (before ∷ outer) e path h =
    elim (or_cases (at == e) (is_in (before ∷ outer) e) h) [
      | inl same ↦ inl (sym (eqb-true at e same))
      | inr after ↦
          let there : Contains (driven_by rows before) (driver.Net at) = contains_first (driven_by rows before) (driver.Net at) [] path.1.0 in
          elim (path_leads rows before outer e path.1.1 after) [
            | inl same ↦ inr ([], subst (λ (n : ℕ). Contains (driven_by rows n) (driver.Net at)) (sym same) there)
            | inr way ↦ inr (way.0 ++ before ∷ [], leads_more rows e way.0 before at way.1 there)
          ]
    ]

-- ---- following

pub record Following (rows : List DriverEdge) (nets start : ℕ) (old marks : List Mark) (path : List ℕ) : Type 0 where
  pub count : length marks ≡ nets
  pub opened : (m : ℕ) → is_open (mark_of marks m) ≡ is_in path m
  pub settled : (m : ℕ) (end : Source) → mark_of marks m ≡ mark.Done end → IsSettled rows m end
  pub linked : IsPath rows path
  pub kept : AreKept old marks
  pub started : (is_done (mark_of marks start) || is_open (mark_of marks start)) ≡ true

not_done : (end : Source) → mark.Open ≡ mark.Done end → ⊥
not_done end is = cc

settled_more : (rows : List DriverEdge) (marks : List Mark) (from : ℕ) → from < length marks
    → ((m : ℕ) (end : Source) → mark_of marks m ≡ mark.Done end → IsSettled rows m end)
    → (m : ℕ) (end : Source) → mark_of (set marks from mark.Open) m ≡ mark.Done end → IsSettled rows m end
settled_more rows marks from inside settled m end is =
    elim (marked_as marks from mark.Open inside (λ (mk : Mark). mk ≡ mark.Done end) m is) [
      | inl h ↦ absurd (not_done end h.1)
      | inr h ↦ settled m end h.1
    ]

kept_more : (old marks : List Mark) (from : ℕ) → from < length marks → mark_of marks from ≡ mark.New → AreKept old marks
    → AreKept old (set marks from mark.Open)
kept_more old marks from inside new kept m h =
    elim (cases_eq from m) [
      | inl same ↦ absurd (false≢true (sym (ap is_done new) ∙ (ap (λ (n : ℕ). is_done (mark_of marks n)) same ∙ kept m h)))
      | inr distinct ↦ ap is_done (get_or-set_other marks from m mark.Open mark.New (λ e. distinct (sym e))) ∙ kept m h
    ]

pub following_start : (rows : List DriverEdge) (nets start : ℕ) (old : List Mark) → AreSettled rows nets old → start < nets → mark_of old start ≡ mark.New
    → Following rows nets start (set old start mark.Open) (set old start mark.Open) (start ∷ [])
following_start rows nets start old settled within new =
    let inside : start < length old = omega (arith, settled.count) in
    record {
      count = length-set old start mark.Open ∙ settled.count;
      opened = marked_more is_open mark.Open mark.New refl old [] start inside settled.quiet;
      settled = settled_more rows old start inside settled.settled;
      linked = tt;
      kept = λ m h. h;
      started = ap (λ (mk : Mark). is_done mk || is_open mk) (get_or-set_same old start mark.Open mark.New inside);
    }

pub at_within : (rows : List DriverEdge) (nets start : ℕ) (old marks : List Mark) (at : ℕ) (outer : List ℕ) → Following rows nets start old marks (at ∷ outer)
    → at < length marks
at_within rows nets start old marks at outer so =
    open_within marks at (so.opened at ∙ or_left (at == at) (is_in outer at) (eq-eqb at at refl))

pub follow_on : (rows : List DriverEdge) (nets start : ℕ) (old marks : List Mark) (at from : ℕ) (outer : List ℕ)
    → Following rows nets start old marks (at ∷ outer) → NextIs rows marks at (next.Follow from) → from < length marks
    → Following rows nets start old (set marks from mark.Open) (from ∷ at ∷ outer)
follow_on rows nets start old marks at from outer so is inside = record {
  count = length-set marks from mark.Open ∙ so.count;
  opened = marked_more is_open mark.Open mark.New refl marks (at ∷ outer) from inside so.opened;
  settled = settled_more rows marks from inside so.settled;
  linked = (sym (so.opened from) ∙ ap is_open is.1, (is.0, so.linked));
  kept = kept_more old marks from inside is.1 so.kept;
  started = marks_as marks from mark.Open mark.New inside
      (λ (n : ℕ) (mk : Mark). n ≡ start → (is_done mk || is_open mk) ≡ true) (λ e. refl) start
      (λ distinct e. so.started) refl;
}

pub follow_falls : (marks : List Mark) (from : ℕ) → from < length marks → mark_of marks from ≡ mark.New
    → to_follow (set marks from mark.Open) < to_follow marks
follow_falls marks from inside new = omega (arith, sum_by-set weight marks from mark.Open mark.New inside, ap weight new)

same_end : (end last : Source) → mark.Done end ≡ mark.Done last → end ≡ last
same_end end last is = cc

pub end_on : (rows : List DriverEdge) (nets start : ℕ) (old marks : List Mark) (at : ℕ) (outer : List ℕ) (end : Source)
    → Following rows nets start old marks (at ∷ outer) → IsSettled rows at end
    → Following rows nets start old (set marks at (mark.Done end)) outer
end_on rows nets start old marks at outer end so is =
    let inside = at_within rows nets start old marks at outer so in
    record {
      count = length-set marks at (mark.Done end) ∙ so.count;
      opened = λ m.
          marks_as marks at (mark.Done end) mark.New inside (λ (n : ℕ) (mk : Mark). is_open mk ≡ is_in outer n)
          (sym (path_distinct rows at outer so.linked)) m (λ distinct. so.opened m ∙ in_other at m outer distinct);
      settled = λ m last there.
          elim (marked_as marks at (mark.Done end) inside (λ (mk : Mark). mk ≡ mark.Done last) m there) [
            | inl h ↦ subst (λ (n : ℕ). IsSettled rows n last) h.0 (subst (IsSettled rows at) (same_end end last h.1) is)
            | inr h ↦ so.settled m last h.1
          ];
      linked = path_outer rows at outer so.linked;
      kept = λ m h.
          marks_as marks at (mark.Done end) mark.New inside (λ (n : ℕ) (mk : Mark). is_done mk ≡ true) refl m (λ distinct. so.kept m h);
      started = marks_as marks at (mark.Done end) mark.New inside (λ (n : ℕ) (mk : Mark). n ≡ start → (is_done mk || is_open mk) ≡ true) (λ e. refl) start
          (λ distinct e. so.started) refl;
    }

pub end_falls : (rows : List DriverEdge) (nets start : ℕ) (old marks : List Mark) (at : ℕ) (outer : List ℕ) (end : Source)
    → Following rows nets start old marks (at ∷ outer) → to_follow (set marks at (mark.Done end)) < to_follow marks
end_falls rows nets start old marks at outer end so =
    let inside = at_within rows nets start old marks at outer so in
    let one = open_weight (mark_of marks at) (so.opened at ∙ or_left (at == at) (is_in outer at) (eq-eqb at at refl)) in
    omega (arith, sum_by-set weight marks at (mark.Done end) mark.New inside, one)

-- sources come back
pub back_returns : (rows : List DriverEdge) (nets start : ℕ) (old marks : List Mark) (at : ℕ) (outer : List ℕ)
    → Following rows nets start old marks (at ∷ outer) → NextIs rows marks at next.Back → SomeReturns rows nets
back_returns rows nets start old marks at outer so is =
    let from = is.0 in
    let opened : is_open (mark_of marks from) ≡ true = ap is_open is.2 in
    let there : Contains (driven_by rows at) (driver.Net from) = contains_first (driven_by rows at) (driver.Net from) [] is.1 in
    let inside : from < nets = omega (arith, open_within marks from opened, so.count) in (
      from,
      inside,
      elim (path_leads rows at outer from so.linked (sym (so.opened from) ∙ opened)) [
        | inl same ↦ ([], subst (λ (n : ℕ). Contains (driven_by rows n) (driver.Net from)) (sym same) there)
        | inr way ↦ (way.0 ++ at ∷ [], leads_more rows from way.0 at from way.1 there)
      ],
    )

only_done : (a b : Bool) → b ≡ false → (a || b) ≡ true → a ≡ true
only_done true b none h = refl
only_done false b none h = absurd (false≢true (sym none ∙ h))

pub followed : (rows : List DriverEdge) (nets start : ℕ) (old marks : List Mark) → start < length old → mark_of old start ≡ mark.New
    → Following rows nets start (set old start mark.Open) marks [] → WalksFrom rows nets start old marks true
followed rows nets start old marks inside new so = (
  record { count = so.count; quiet = so.opened; settled = so.settled },
  λ m h. so.kept m (kept_more old old start inside new (λ n g. g) m h),
  only_done (is_done (mark_of marks start)) (is_open (mark_of marks start)) (so.opened start) so.started,
)
