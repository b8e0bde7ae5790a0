-- Marks of nets, and what they tell once all nets are done.
use Rattle.std.proofs.Common.{◌≡◌, ◌+◌, ◌<◌, ◌≤◌, ◌⊎◌, inl, inr, ℕ, Bool, true, false, List, get_or, length, map, replicate, set, slice_get, refl, sym, ◌∙◌, ap, subst, arith}
use Rattle.std.proofs.lemmas.Bool.{false≢true, true≢false, cases_eq, cases_lt}
use Rattle.std.proofs.lemmas.List.{get_or-set_same, get_or-set_other, get_or_past, get_or_read, length-map, length-replicate}
use Rattle.std.proofs.lemmas.Option.{get_or_from_slice_get, slice_get_within}
use Rattle.std.specs.List.{sum_by}
use Rattle.timing_types.specs.declared.designs.Source.{Source}
use Rattle.flat_design.specs.declared.drivers.ends.Mark.{Mark}
use Rattle.flat_design.specs.declared.drivers.ends.Mark.TheVariants as mark
use Rattle.flat_design.specs.declared.drivers.driver_edges.DriverEdge.{DriverEdge}
use Rattle.flat_design.specs.SourceTable.{AreNetRows}
use Rattle.flat_design.specs.Ends.{AreSettled, HaveEnds, IsSettled, WalksFrom, end_of, is_done, is_open, mark_of}
use Rattle.flat_design.proofs.DistinctFacts.{get_map}
use Rattle.flat_design.proofs.EndFacts.{driven_past, none_returns}
use Rattle.flat_design.proofs.MarkFacts.{all_new}

-- ---- marks

-- what is marked so is marked so where the net was marked, or was so before
pub marked_as : (marks : List Mark) (i : ℕ) (mk : Mark) → i < length marks → (P : Mark → Type 0) (j : ℕ) → P (mark_of (set marks i mk) j)
    → ((i ≡ j) × P mk) ⊎ ((i ≡ j → ⊥) × P (mark_of marks j))
marked_as marks i mk inside P j is =
    elim (cases_eq i j) [
      | inl same ↦ inl (same, subst P (subst (λ (n : ℕ). mark_of (set marks i mk) n ≡ mk) same (get_or-set_same marks i mk mark.New inside)) is)
      | inr distinct ↦ inr (distinct, subst P (get_or-set_other marks i j mk mark.New (λ e. distinct (sym e))) is)
    ]

pub open_within : (marks : List Mark) (i : ℕ) → is_open (mark_of marks i) ≡ true → i < length marks
open_within marks i h =
    elim (cases_lt i (length marks)) [
      | inl inside ↦ inside
      | inr past ↦ absurd (false≢true (sym (ap is_open (get_or_past marks i mark.New past)) ∙ h))
    ]

abbrev pub weight : Mark → ℕ
weight mark.New = 2
weight mark.Open = 1
weight (mark.Done end) = 0

abbrev pub to_follow : List Mark → ℕ
to_follow marks = sum_by weight marks

pub open_weight : (mk : Mark) → is_open mk ≡ true → weight mk ≡ 1
open_weight mark.New h = absurd (false≢true h)
open_weight mark.Open h = refl
open_weight (mark.Done end) h = absurd (false≢true h)

-- ---- all nets

pub mark_here : (marks : List Mark) (net : ℕ) (mk : Mark) → net < length marks → mk ≡ get_or marks net mk → mark_of marks net ≡ mk
mark_here marks net mk inside is = sym (get_or_read marks net mk inside is mark.New)

known_as : (mk : Mark) → is_open mk ≡ false → (mk ≡ mark.New → ⊥) → is_done mk ≡ true
known_as mark.New quiet distinct = absurd (distinct refl)
known_as mark.Open quiet distinct = absurd (true≢false quiet)
known_as (mark.Done end) quiet distinct = refl

pub known_done : (rows : List DriverEdge) (nets : ℕ) (marks : List Mark) (net : ℕ) (mk : Mark) → AreSettled rows nets marks → net < nets
    → mk ≡ get_or marks net mk → (mk ≡ mark.New → ⊥) → WalksFrom rows nets net marks marks true
known_done rows nets marks net mk settled inside is distinct =
    let here : mark_of marks net ≡ mk = mark_here marks net mk (omega (arith, inside, settled.count)) is in
    (settled, λ m h. h, known_as (mark_of marks net) (settled.quiet net) (λ e. distinct (sym here ∙ e)))

-- one net more is done
same_place : (net k n : ℕ) → n ≡ net + 1 → k < n → net ≤ k → net ≡ k
same_place net k n is low last = omega arith

pub done_more : (rows : List DriverEdge) (nets net n : ℕ) (old new : List Mark) → n ≡ net + 1 → WalksFrom rows nets net old new true
    → ((k : ℕ) → k < net → is_done (mark_of old k) ≡ true) → (k : ℕ) → k < n → is_done (mark_of new k) ≡ true
done_more rows nets net n old new is walks done k low =
    elim (cases_lt k net) [
      | inl earlier ↦ walks.1 k (done k earlier)
      | inr last ↦ subst (λ (m : ℕ). is_done (mark_of new m) ≡ true) (same_place net k n is low last) walks.2
    ]

pub walks_as : (rows : List DriverEdge) (nets net : ℕ) (old new : List Mark) (answer wanted : Bool) → answer ≡ wanted → WalksFrom rows nets net old new answer
    → WalksFrom rows nets net old new wanted
walks_as rows nets net old new answer wanted is walks = subst (WalksFrom rows nets net old new) is walks

new_not_done : (end : Source) → mark.New ≡ mark.Done end → ⊥
new_not_done end is = cc

pub settled_start : (rows : List DriverEdge) (nets : ℕ) → AreSettled rows nets (replicate nets mark.New)
settled_start rows nets = record {
  count = length-replicate nets mark.New;
  quiet = λ net. ap is_open (all_new nets net mark.New);
  settled = λ net end is. absurd (new_not_done end (sym (all_new nets net mark.New) ∙ is));
}

done_end : (mk : Mark) → is_done mk ≡ true → mk ≡ mark.Done (end_of mk)
done_end mark.New h = absurd (false≢true h)
done_end mark.Open h = absurd (false≢true h)
done_end (mark.Done end) h = refl

pub have_ends : (rows : List DriverEdge) (nets : ℕ) (marks : List Mark) (ends : List Source) → AreNetRows nets rows → AreSettled rows nets marks
    → ((net : ℕ) → net < nets → is_done (mark_of marks net) ≡ true) → ends ≡ map end_of marks → HaveEnds rows nets ends
have_ends rows nets marks ends within settled done same =
    let own : (net : ℕ) → net < nets → IsSettled rows net (end_of (mark_of marks net)) =
    λ net inside. settled.settled net (end_of (mark_of marks net)) (done_end (mark_of marks net) (done net inside)) in
    record {
      count = ap length same ∙ (length-map marks end_of ∙ settled.count);
      each = λ net end there.
          let r = get_map end_of marks net end (ap (λ (es : List Source). slice_get es net) (sym same) ∙ there) in
          let low = slice_get_within marks net r.0 r.1 in
          let inside : net < nets = omega (arith, low, settled.count) in
          let is : end_of (mark_of marks net) ≡ end = ap end_of (get_or_from_slice_get marks net r.0 mark.New r.1) ∙ sym r.2 in
          (subst (IsSettled rows net) is (own net inside)).0;
      none = λ net.
          elim (cases_lt net nets) [
            | inl inside ↦ (own net inside).1
            | inr past ↦ none_returns rows net (driven_past nets rows net within past)
          ];
    }
