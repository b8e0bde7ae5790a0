-- What ends of following sources are, from a net to the one that it drives.
use Rattle.std.proofs.Common.{◌≡◌, ◌<◌, ◌≤◌, inl, inr, ℕ, zero, suc, Bool, true, false, cond, List, [], ◌∷◌, ◌++◌, get_or, length, nat_eq, nat_lt, Option, Some, None, refl, sym, ◌∙◌, ap, subst, arith}
use Rattle.std.proofs.lemmas.Bool.{cases_Bool, lt-ltb, ne_eqb, true≢false}
use Rattle.std.proofs.lemmas.List.Elements.{All-tail}
use Rattle.std.specs.List.{Contains}
use Rattle.std.specs.Option.{option_to_list}
use Rattle.timing_types.specs.declared.designs.Source.{Source}
use Rattle.timing_types.specs.declared.designs.Source.TheVariants as source
use Rattle.flat_design.specs.declared.drivers.ends.Mark.{Mark}
use Rattle.flat_design.specs.declared.drivers.ends.Mark.TheVariants as mark
use Rattle.flat_design.specs.declared.drivers.ends.Next.{Next}
use Rattle.flat_design.specs.declared.drivers.ends.Next.TheVariants as next
use Rattle.flat_design.specs.declared.drivers.driver_edges.DriverEdge.{DriverEdge}
use Rattle.flat_design.specs.declared.drivers.driver_edges.Driver.{Driver}
use Rattle.flat_design.specs.declared.drivers.driver_edges.Driver.TheVariants as driver
use Rattle.flat_design.specs.Sources.{AreWithin, HaveOne, IsEndOf, IsDriverWithin, IsRowWithin, LeadsTo, ReachesNet, Returns, driven_by}
use Rattle.flat_design.specs.SourceTable.{AreNetRows, IsNetRow}
use Rattle.flat_design.specs.Ends.{IsSettled, mark_of, next_at, next_by, next_of, value_end}
use Rattle.flat_design.proofs.SourceFacts.{driven_cons, leads_more}

-- ---- sources are within nets and pins

pub driven_within : (nets pins : ℕ) (rows : List DriverEdge) (net : ℕ) (f : Driver) (rest : List Driver) → AreWithin nets pins rows
    → driven_by rows net ≡ f ∷ rest → IsDriverWithin nets pins f
driven_within nets pins [] net f rest within is = let bad : [] ≡ f ∷ rest = is in cc
driven_within nets pins (r ∷ rows) net f rest within is =
    let own : IsRowWithin nets pins r = within 0 r (omega arith) in
    elim (cases_Bool (nat_eq r.to net)) [
      | inl here ↦
          let e : r.from ∷ driven_by rows net ≡ f ∷ rest =
          sym (driven_cons r rows net ∙ ap (λ (b : Bool). cond b (r.from ∷ driven_by rows net) (driven_by rows net)) here) ∙ is in
          let same : r.from ≡ f = cc in
          subst (IsDriverWithin nets pins) same own.1
      | inr there ↦
          let e : driven_by rows net ≡ f ∷ rest =
          sym (driven_cons r rows net ∙ ap (λ (b : Bool). cond b (r.from ∷ driven_by rows net) (driven_by rows net)) there) ∙ is in
          driven_within nets pins rows net f rest (All-tail (IsRowWithin nets pins) r rows within) e
    ]

-- nothing drives a net that there is not
pub driven_past : (nets : ℕ) (rows : List DriverEdge) (net : ℕ) → AreNetRows nets rows → nets ≤ net → driven_by rows net ≡ []
driven_past nets [] net within past = refl
driven_past nets (r ∷ rows) net within past =
    let own : IsNetRow nets r = within 0 r (omega arith) in
    driven_cons r rows net
    ∙ (ap (λ (b : Bool). cond b (r.from ∷ driven_by rows net) (driven_by rows net)) (ne_eqb r.to net (λ e. omega (arith, e, own.0)))
    ∙ driven_past nets rows net (All-tail (IsNetRow nets) r rows within) past)

-- ---- the one source of a net

pub contains_first : (sources : List Driver) (f : Driver) (rest : List Driver) → sources ≡ f ∷ rest → Contains sources f
contains_first sources f rest is = subst (λ (fs : List Driver). Contains fs f) (sym is) (0, omega arith, refl)

only_at : (f : Driver) (net k : ℕ) → k < 1 → get_or (f ∷ []) k (driver.Net net) ≡ driver.Net net → f ≡ driver.Net net
only_at f net zero inside is = is
only_at f net (suc k) inside is = absurd (omega arith)

only_net : (sources : List Driver) (f : Driver) (net : ℕ) → sources ≡ f ∷ [] → Contains sources (driver.Net net) → f ≡ driver.Net net
only_net sources f net is there =
    let c : Contains (f ∷ []) (driver.Net net) = subst (λ (fs : List Driver). Contains fs (driver.Net net)) is there in
    only_at f net c.0 c.1 c.2

no_net : (sources : List Driver) (net : ℕ) → sources ≡ [] → Contains sources (driver.Net net) → ⊥
no_net sources net is there =
    let c : Contains [] (driver.Net net) = subst (λ (fs : List Driver). Contains fs (driver.Net net)) is there in
    omega (arith, c.1)

stays_first : (rows : List DriverEdge) (net : ℕ) → ((n : ℕ) → Contains (driven_by rows net) (driver.Net n) → ⊥) → (ways : List ℕ) → LeadsTo rows net ways net → ⊥
stays_first rows net none [] leads = none net leads
stays_first rows net none (n ∷ ways) leads = none n leads.0

-- sources lead nowhere from a net without a net among them
stays_there : (rows : List DriverEdge) (net : ℕ) → ((n : ℕ) → Contains (driven_by rows net) (driver.Net n) → ⊥) → Returns rows net → ⊥
stays_there rows net none returns = stays_first rows net none returns.0 returns.1

pub none_returns : (rows : List DriverEdge) (net : ℕ) → driven_by rows net ≡ [] → Returns rows net → ⊥
none_returns rows net is = stays_there rows net (λ n there. no_net (driven_by rows net) n is there)

net_same : (a b : ℕ) → driver.Net a ≡ driver.Net b → a ≡ b
net_same a b is = cc

step_leaves : (rows : List DriverEdge) (net from : ℕ) → driven_by rows net ≡ driver.Net from ∷ [] → (ways : List ℕ) → LeadsTo rows net ways net → Returns rows from
step_leaves rows net from is [] leads =
    let same : from ≡ net = net_same from net (only_net (driven_by rows net) (driver.Net from) net is leads) in
    subst (Returns rows) (sym same) ([], leads)
step_leaves rows net from is (n ∷ ways) leads =
    let same : from ≡ n = net_same from n (only_net (driven_by rows net) (driver.Net from) n is leads.0) in
    let here : LeadsTo rows from ways net = subst (λ (m : ℕ). LeadsTo rows m ways net) (sym same) leads.1 in
    (ways ++ net ∷ [], leads_more rows from ways net from here (contains_first (driven_by rows net) (driver.Net from) [] is))

-- where sources come back to a net, they come back to its one source
returns_on : (rows : List DriverEdge) (net from : ℕ) → driven_by rows net ≡ driver.Net from ∷ [] → Returns rows net → Returns rows from
returns_on rows net from is returns = step_leaves rows net from is returns.0 returns.1

-- ---- ends

reaches_on : (rows : List DriverEdge) (net from end : ℕ) → Contains (driven_by rows net) (driver.Net from) → ReachesNet rows from end → ReachesNet rows net end
reaches_on rows net from end there (inl same) = inr ([], subst (λ (n : ℕ). Contains (driven_by rows net) (driver.Net n)) same there)
reaches_on rows net from end there (inr way) = inr (from ∷ way.0, (there, way.1))

settled_on : (rows : List DriverEdge) (net from : ℕ) (end : Source) → driven_by rows net ≡ driver.Net from ∷ [] → IsSettled rows from end → IsSettled rows net end
settled_on rows net from end is settled =
    let there = contains_first (driven_by rows net) (driver.Net from) [] is in
    ((settled.0.0, reaches_on rows net from settled.0.0 there settled.0.1, settled.0.2), λ returns. settled.1 (returns_on rows net from is returns))

not_value : (b : Bool) (n : ℕ) → driver.Value b ≡ driver.Net n → ⊥
not_value b n is = cc

not_pin : (p n : ℕ) → driver.Pin p ≡ driver.Net n → ⊥
not_pin p n is = cc

value_ended : (rows : List DriverEdge) (net : ℕ) (b : Bool) → Contains (driven_by rows net) (driver.Value b) → IsEndOf rows net (value_end b)
value_ended rows net true there = (net, inl refl, there)
value_ended rows net false there = (net, inl refl, there)

value_settled : (rows : List DriverEdge) (net : ℕ) (b : Bool) → driven_by rows net ≡ driver.Value b ∷ [] → IsSettled rows net (value_end b)
value_settled rows net b is = (
  value_ended rows net b (contains_first (driven_by rows net) (driver.Value b) [] is),
  stays_there rows net (λ n there. not_value b n (only_net (driven_by rows net) (driver.Value b) n is there)),
)

pin_settled : (rows : List DriverEdge) (net pin : ℕ) → driven_by rows net ≡ driver.Pin pin ∷ [] → IsSettled rows net (source.Pin (record { 0 = pin }))
pin_settled rows net pin is = (
  (net, inl refl, contains_first (driven_by rows net) (driver.Pin pin) [] is),
  stays_there rows net (λ n there. not_pin pin n (only_net (driven_by rows net) (driver.Pin pin) n is there)),
)

none_settled : (rows : List DriverEdge) (net : ℕ) → driven_by rows net ≡ [] → IsSettled rows net source.Nothing
none_settled rows net is = ((net, inl refl, is), none_returns rows net is)

-- ---- what is next for a net with one source at most

-- the sources of a net, by what is next for it
abbrev pub NextIs : List DriverEdge → List Mark → ℕ → Next → Type 0
NextIs rows marks at next.Back = (from : ℕ) × (driven_by rows at ≡ driver.Net from ∷ []) × (mark_of marks from ≡ mark.Open)
NextIs rows marks at (next.Follow from) = (driven_by rows at ≡ driver.Net from ∷ []) × (mark_of marks from ≡ mark.New)
NextIs rows marks at (next.End end) = IsSettled rows at end

next_net : (rows : List DriverEdge) (marks : List Mark) (at from : ℕ)
    → ((m : ℕ) (end : Source) → mark_of marks m ≡ mark.Done end → IsSettled rows m end) → driven_by rows at ≡ driver.Net from ∷ []
    → (mk : Mark) → mark_of marks from ≡ mk → NextIs rows marks at (next_at from mk)
next_net rows marks at from settled is mark.New there = (is, there)
next_net rows marks at from settled is mark.Open there = (from, is, there)
next_net rows marks at from settled is (mark.Done end) there = settled_on rows at from end is (settled from end there)

next_one : (rows : List DriverEdge) (marks : List Mark) (at : ℕ)
    → ((m : ℕ) (end : Source) → mark_of marks m ≡ mark.Done end → IsSettled rows m end)
    → (f : Driver) → driven_by rows at ≡ f ∷ [] → NextIs rows marks at (next_by marks f)
next_one rows marks at settled (driver.Net from) is = next_net rows marks at from settled is (mark_of marks from) refl
next_one rows marks at settled (driver.Value b) is = value_settled rows at b is
next_one rows marks at settled (driver.Pin pin) is = pin_settled rows at pin is

next_is : (rows : List DriverEdge) (marks : List Mark) (at : ℕ)
    → ((m : ℕ) (end : Source) → mark_of marks m ≡ mark.Done end → IsSettled rows m end)
    → (found : Option Driver) → driven_by rows at ≡ option_to_list found → NextIs rows marks at (next_of marks (driven_by rows at))
next_is rows marks at settled None is =
    subst (λ (fs : List Driver). NextIs rows marks at (next_of marks fs)) (sym is) (none_settled rows at is)
next_is rows marks at settled (Some f) is =
    subst (λ (fs : List Driver). NextIs rows marks at (next_of marks fs)) (sym is) (next_one rows marks at settled f is)

one_or_none : (fs : List Driver) → nat_lt 1 (length fs) ≡ false → (found : Option Driver) × (fs ≡ option_to_list found)
one_or_none [] one = (None, refl)
one_or_none (f ∷ []) one = (Some f, refl)
one_or_none (f ∷ g ∷ rest) one = absurd (true≢false (sym (lt-ltb 1 (length (f ∷ g ∷ rest)) (omega arith)) ∙ one))

pub next_here : (rows : List DriverEdge) (marks : List Mark) (at : ℕ)
    → ((m : ℕ) (end : Source) → mark_of marks m ≡ mark.Done end → IsSettled rows m end) → HaveOne rows
    → NextIs rows marks at (next_of marks (driven_by rows at))
next_here rows marks at settled one =
    let found = one_or_none (driven_by rows at) (one at) in
    next_is rows marks at settled found.0 found.1
