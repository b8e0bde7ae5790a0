-- What a search from a net has found at each of its steps, and whether sources come back.
use Rattle.std.proofs.Common.{◌≡◌, ◌+◌, ◌<◌, ◌⊎◌, ◌||◌, ◌&&◌, ◌==◌, inl, inr, ℕ, Bool, true, false, not, List, [], ◌∷◌, ◌++◌, get_or, length, refl, sym, ◌∙◌, ap, subst, arith}
use Rattle.std.proofs.lemmas.Bool.{false≢true, true≢false, cases_Bool, cases_eq, cases_lt, or_cases, or_left, or_right, eq-eqb, eqb-true}
use Rattle.std.proofs.lemmas.List.{get_or_past, length-append}
use Rattle.std.specs.List.{Contains, count_by, list_any}
use Rattle.flat_design.specs.declared.drivers.driver_edges.DriverEdge.{DriverEdge}
use Rattle.flat_design.specs.declared.drivers.driver_edges.Driver.TheVariants as driver
use Rattle.flat_design.specs.declared.drivers.returning.Search.{Search}
use Rattle.flat_design.specs.Sources.{LeadsTo, Returns, driven_by}
use Rattle.flat_design.specs.Searches.{IsBegun, ReachesMore, has_net, is_left, is_reached, to_search}
use Rattle.flat_design.proofs.SearchFacts.{any_push, contains_has, has_contains}
use Rattle.flat_design.proofs.SourceFacts.{leads_more}

-- ---- ways along sources

abbrev Leads : List DriverEdge → ℕ → ℕ → Type 0
Leads rows net end = (nets : List ℕ) × LeadsTo rows net nets end

leads_on : (rows : List DriverEdge) (net from end : ℕ) → (from ≡ net) ⊎ Leads rows net from → has_net (driven_by rows from) end ≡ true → Leads rows net end
leads_on rows net from end (inl same) has =
    ([], subst (λ (n : ℕ). Contains (driven_by rows n) (driver.Net end)) same (has_contains (driven_by rows from) end has))
leads_on rows net from end (inr way) has = (way.0 ++ from ∷ [], leads_more rows net way.0 from end way.1 (has_contains (driven_by rows from) end has))

-- ---- at a step

-- the sources of a net were reached, and the net that is searched from is none of them
abbrev pub IsFollowed : List DriverEdge → ℕ → Search → ℕ → Type 0
IsFollowed rows net search m = ((e : ℕ) → has_net (driven_by rows m) e ≡ true → is_reached search e ≡ true) × (has_net (driven_by rows m) net ≡ false)

pub record Searching (rows : List DriverEdge) (nets net : ℕ) (search : Search) : Type 0 where
  pub count : length search.reached.items ≡ nets
  pub found : (m : ℕ) → is_reached search m ≡ true → (ways : List ℕ) × LeadsTo rows net ways m
  pub left : (m : ℕ) → is_left search m ≡ true → (m ≡ net) ⊎ (is_reached search m ≡ true)
  pub followed : (m : ℕ) → (m ≡ net) ⊎ (is_reached search m ≡ true) → (is_left search m ≡ true) ⊎ IsFollowed rows net search m

pub searching_start : (rows : List DriverEdge) (nets net : ℕ) (begun now : Search) → IsBegun nets begun
    → now.reached.items ≡ begun.reached.items → now.left.items ≡ begun.left.items ++ net ∷ [] → Searching rows nets net now
searching_start rows nets net begun now own marks left =
    let none : (m : ℕ) → is_reached now m ≡ false = λ m. ap (λ (xs : List Bool). get_or xs m false) marks ∙ own.none m in
    let one : now.left.items ≡ net ∷ [] = left ∙ ap (λ (xs : List ℕ). xs ++ net ∷ []) own.left in
    let in_one : (m : ℕ) → is_left now m ≡ ((net == m) || false) = λ m. ap (λ (xs : List ℕ). list_any (λ (other : ℕ). other == m) xs) one in
    record {
      count = ap length marks ∙ own.count;
      found = λ m h. absurd (true≢false (sym h ∙ none m));
      left = λ m h.
          elim (or_cases (net == m) false (sym (in_one m) ∙ h)) [ inl same ↦ inl (sym (eqb-true net m same)) | inr bad ↦ absurd (false≢true bad) ];
      followed = λ m h.
          elim h [
            | inl same ↦ inl (in_one m ∙ or_left (net == m) false (eq-eqb net m (sym same)))
            | inr bad ↦ absurd (true≢false (sym bad ∙ none m))
          ];
    }

-- what is left or reached is a net that there is
reached_within : (nets m : ℕ) (search : Search) → length search.reached.items ≡ nets → is_reached search m ≡ true → m < nets
reached_within nets m search count h =
    elim (cases_lt m nets) [
      | inl inside ↦ inside
      | inr past ↦ absurd (true≢false (sym h ∙ get_or_past search.reached.items m false (omega (arith, past, count))))
    ]

pub left_within : (rows : List DriverEdge) (nets net m : ℕ) (search : Search) → Searching rows nets net search → net < nets → is_left search m ≡ true → m < nets
left_within rows nets net m search so inside h =
    elim (so.left m h) [ inl same ↦ omega (arith, same) | inr reached ↦ reached_within nets m search so.count reached ]

-- a net is taken from those that are left
pub record Takes (from : ℕ) (old new : Search) : Type 0 where
  pub reached : new.reached.items ≡ old.reached.items
  pub left : old.left.items ≡ new.left.items ++ from ∷ []

taken_left : (from : ℕ) (old new : Search) → Takes from old new → (m : ℕ) → is_left old m ≡ (is_left new m || (from == m))
taken_left from old new taken m = ap (λ (xs : List ℕ). list_any (λ (other : ℕ). other == m) xs) taken.left ∙ any_push (λ (other : ℕ). other == m) new.left.items from

pub taken_is : (from : ℕ) (old new : Search) → Takes from old new → is_left old from ≡ true
taken_is from old new taken = taken_left from old new taken from ∙ or_right (is_left new from) (from == from) (eq-eqb from from refl)

taken_reached : (from : ℕ) (old new : Search) → Takes from old new → (m : ℕ) → is_reached new m ≡ is_reached old m
taken_reached from old new taken m = ap (λ (xs : List Bool). get_or xs m false) taken.reached

way_to : (rows : List DriverEdge) (nets net from : ℕ) (old : Search) → Searching rows nets net old → is_left old from ≡ true
    → (from ≡ net) ⊎ ((ways : List ℕ) × LeadsTo rows net ways from)
way_to rows nets net from old so h = elim (so.left from h) [ inl same ↦ inl same | inr reached ↦ inr (so.found from reached) ]

-- sources come back
pub step_returns : (rows : List DriverEdge) (nets net from : ℕ) (old new : Search) → Searching rows nets net old → Takes from old new
    → has_net (driven_by rows from) net ≡ true → Returns rows net
step_returns rows nets net from old new so taken has = leads_on rows net from net (way_to rows nets net from old so (taken_is from old new taken)) has

newly : (l r old : Bool) → r ≡ true → old ≡ false → (l || (r && not old)) ≡ true
newly true r old is new = refl
newly false true false is new = refl
newly false true true is new = absurd (true≢false new)
newly false false old is new = absurd (false≢true is)

first_true : (a b : Bool) → (a && b) ≡ true → a ≡ true
first_true true b h = refl
first_true false b h = absurd (false≢true h)

pub step_on : (rows : List DriverEdge) (nets net from : ℕ) (old taken new : Search) → Searching rows nets net old → Takes from old taken
    → has_net (driven_by rows from) net ≡ false → ReachesMore (has_net (driven_by rows from)) taken new → Searching rows nets net new
step_on rows nets net from old taken new so takes none more =
    let before : (m : ℕ) → is_reached taken m ≡ is_reached old m = taken_reached from old taken takes in
    let way = way_to rows nets net from old so (taken_is from old taken takes) in
    let kept : (m : ℕ) → is_reached old m ≡ true → is_reached new m ≡ true =
    λ m h. more.reached m ∙ or_left (is_reached taken m) (has_net (driven_by rows from) m) (before m ∙ h) in
    let left_kept : (m : ℕ) → is_left taken m ≡ true → is_left new m ≡ true =
    λ m h. more.left m ∙ or_left (is_left taken m) (is_reached new m && not (is_reached taken m)) h in
    let left_fresh : (m : ℕ) → is_reached new m ≡ true → is_reached old m ≡ false → is_left new m ≡ true =
    λ m h fresh. more.left m ∙ newly (is_left taken m) (is_reached new m) (is_reached taken m) h (before m ∙ fresh) in
    let from_followed : (m : ℕ) → from ≡ m → IsFollowed rows net new m =
    λ m same. subst (IsFollowed rows net new) same
    (λ e h. more.reached e ∙ or_right (is_reached taken e) (has_net (driven_by rows from) e) h, none) in
    let old_followed : (m : ℕ) → (from ≡ m → ⊥) → (m ≡ net) ⊎ (is_reached old m ≡ true) → (is_left new m ≡ true) ⊎ IsFollowed rows net new m =
    λ m distinct h.
    elim (so.followed m h) [
      | inl l ↦
          elim (or_cases (is_left taken m) (from == m) (sym (taken_left from old taken takes m) ∙ l)) [
            | inl still ↦ inl (left_kept m still)
            | inr same ↦ absurd (distinct (eqb-true from m same))
          ]
      | inr f ↦ inr (λ e g. kept e (f.0 e g), f.1)
    ] in
    record {
      count = more.count ∙ (ap length takes.reached ∙ so.count);
      found = λ m h.
          elim (or_cases (is_reached taken m) (has_net (driven_by rows from) m) (sym (more.reached m) ∙ h)) [
            | inl r ↦ so.found m (sym (before m) ∙ r)
            | inr f ↦ leads_on rows net from m way f
          ];
      left = λ m h.
          elim (or_cases (is_left taken m) (is_reached new m && not (is_reached taken m)) (sym (more.left m) ∙ h)) [
            | inl l ↦
                elim (so.left m (taken_left from old taken takes m ∙ or_left (is_left taken m) (from == m) l)) [
                  | inl same ↦ inl same
                  | inr r ↦ inr (kept m r)
                ]
            | inr r ↦ inr (first_true (is_reached new m) (not (is_reached taken m)) r)
          ];
      followed = λ m h.
          elim (cases_eq from m) [
            | inl same ↦ inr (from_followed m same)
            | inr distinct ↦
                elim h [
                  | inl same ↦ old_followed m distinct (inl same)
                  | inr r ↦
                      elim (cases_Bool (is_reached old m)) [
                        | inl known ↦ old_followed m distinct (inr known)
                        | inr fresh ↦ inl (left_fresh m r fresh)
                      ]
                ]
          ];
    }

pub step_falls : (from : ℕ) (says : ℕ → Bool) (old taken new : Search) → Takes from old taken → ReachesMore says taken new → to_search new < to_search old
step_falls from says old taken new takes more =
    let a : count_by not taken.reached.items ≡ count_by not old.reached.items = ap (count_by not) takes.reached in
    let b : length old.left.items ≡ length taken.left.items + 1 = ap length takes.left ∙ length-append taken.left.items (from ∷ []) in
    omega (arith, a, b, more.weight)

-- ---- at the end

no_way : (rows : List DriverEdge) (net : ℕ) (search : Search) → ((m : ℕ) → (m ≡ net) ⊎ (is_reached search m ≡ true) → IsFollowed rows net search m)
    → (ways : List ℕ) (m : ℕ) → (m ≡ net) ⊎ (is_reached search m ≡ true) → LeadsTo rows m ways net → ⊥
no_way rows net search all [] m h leads = true≢false (sym (contains_has (driven_by rows m) net leads) ∙ (all m h).1)
no_way rows net search all (next ∷ ways) m h leads =
    no_way rows net search all ways next (inr ((all m h).0 next (contains_has (driven_by rows m) next leads.0))) leads.1

-- where nothing is left, sources do not come back
pub searched : (rows : List DriverEdge) (nets net : ℕ) (search : Search) → Searching rows nets net search → search.left.items ≡ [] → Returns rows net → ⊥
searched rows nets net search so empty returns =
    let none : (m : ℕ) → is_left search m ≡ false = λ m. ap (λ (xs : List ℕ). list_any (λ (other : ℕ). other == m) xs) empty in
    no_way rows net search (λ m h. elim (so.followed m h) [ inl l ↦ absurd (true≢false (sym l ∙ none m)) | inr f ↦ f ]) returns.0 net (inl refl) returns.1
