-- Gaps between words, step by step.
use Rattle.std.proofs.Common.{◌≡◌, ◌<◌, ◌≤◌, ◌+◌, ◌==◌, ◌&&◌, inl, inr, ℕ, true, false, List, [], ◌∷◌, drop, length, get_or, refl, sym, ap, subst, ◌∙◌, arith}
use Rattle.std.proofs.Math.Bool.{and-false}
use Rattle.std.proofs.lemmas.Bool.{cases_Bool, both_ways, eqb-true, and_parts}
use Rattle.std.proofs.lemmas.Bool.Decides.{nat_tests}
use Rattle.std.proofs.lemmas.List.{drop_more, length-drop}
use Rattle.std.proofs.lemmas.Str.{IsCharBoundary-after_ascii}
use Rattle.std.specs.Str.{IsCharBoundary}
use Rattle.text_model.specs.Bytes.{begins_with, after, is_end, is_space}
use Rattle.text_model.specs.Continued.{after_continued, after_gap, after_newline, continues}
use Rattle.tcl_words.specs.Spans.{Keeps, LeadsTo, Moves, StepsTo}
use Rattle.tcl_words.proofs.RunFacts.{drop_all, keeps_one, space_ascii}

-- ---- continued lines

-- a continued line begins in one of two ways
pub continues_as : (P : List ℕ → Type 0) → ((bs : List ℕ) → P (10 ∷ bs)) → ((bs : List ℕ) → P (13 ∷ (10 ∷ bs))) → (text : List ℕ) → continues text ≡ true → P text
continues_as P newline two [] h = absurd (both_ways false refl h)
continues_as P newline two (b ∷ bs) h =
    elim (cases_Bool (b == 10)) [
      | inl e ↦ subst (λ (c : ℕ). P (c ∷ bs)) (sym (eqb-true b 10 e)) (newline bs)
      | inr e ↦
          let pair : (b == 13 && begins_with 10 bs) ≡ true = rw e at h in
          let parts = and_parts (b == 13) (begins_with 10 bs) pair in
          subst (λ (c : ℕ). P (c ∷ bs)) (sym (eqb-true b 13 parts.0)) (second bs parts.1)
    ] where
      second : (cs : List ℕ) → begins_with 10 cs ≡ true → P (13 ∷ cs)
      second [] h = absurd (both_ways false refl h)
      second (c ∷ cs) h = subst (λ (d : ℕ). P (13 ∷ (d ∷ cs))) (sym (eqb-true c 10 h)) (two cs)

gap_newline : (text : List ℕ) → continues text ≡ true → after_gap true text ≡ after_gap false (after_newline text)
unfolding after_gap after_newline
gap_newline text h = continues_as (λ (t : List ℕ). after_gap true t ≡ after_gap false (after_newline t)) (λ bs. refl) (λ bs. refl) text h

newline_one : (bs : List ℕ) → after_newline (10 ∷ bs) ≡ bs
unfolding after_newline
newline_one bs = refl

newline_two : (bs : List ℕ) → after_newline (13 ∷ (10 ∷ bs)) ≡ bs
unfolding after_newline
newline_two bs = refl

-- what stands at two places where no newline stands at the first
pub record Second (text : List ℕ) (at : ℕ) : Type 0 where
  pub within : at + 1 < length text
  pub first : get_or text at 0 ≡ 13
  pub newline : get_or text (at + 1) 0 ≡ 10

pub second_newline : (text : List ℕ) (at : ℕ) → at < length text → (get_or text at 0 == 13 && begins_with 10 (drop (at + 1) text)) ≡ true → Second text at
second_newline text at within h =
    let parts = and_parts (get_or text at 0 == 13) (begins_with 10 (drop (at + 1) text)) h in
    let more = begins (drop (at + 1) text) refl parts.1 in
    record { within = more.0; first = eqb-true (get_or text at 0) 13 parts.0; newline = more.1 } where
      begins : (rest : List ℕ) → drop (at + 1) text ≡ rest → begins_with 10 rest ≡ true → (at + 1 < length text) × (get_or text (at + 1) 0 ≡ 10)
      begins [] e h = absurd (both_ways false refl h)
      begins (c ∷ cs) e h =
          let inside : at + 1 < length text = omega (arith, ap length e, length-drop (at + 1) text) in
          let same : get_or text (at + 1) 0 ∷ drop (at + 1 + 1) text ≡ c ∷ cs = sym (drop_more text (at + 1) 0 inside) ∙ e in
          let head : get_or text (at + 1) 0 ≡ c = cc in
          (inside, head ∙ eqb-true c 10 h)

pub continues_second : (text : List ℕ) (at : ℕ) → at < length text → continues (drop at text) ≡ true → (get_or text at 0 ≡ 10 → ⊥) → Second text at
continues_second text at within h other =
    let here : continues (get_or text at 0 ∷ drop (at + 1) text) ≡ true = subst (λ (t : List ℕ). continues t ≡ true) (drop_more text at 0 within) h in
    elim (cases_Bool (get_or text at 0 == 10)) [
      | inl e ↦ absurd (other (eqb-true (get_or text at 0) 10 e))
      | inr e ↦ second_newline text at within (rw e at here)
    ]

pub two_places : (text : List ℕ) (at : ℕ) → Second text at → drop at text ≡ 13 ∷ (10 ∷ drop (at + 2) text)
two_places text at s =
    let place : at + 1 + 1 ≡ at + 2 = omega arith in
    drop_more text at 0 (omega (arith, s.within))
    ∙ (ap (λ (b : ℕ). b ∷ drop (at + 1) text) s.first
    ∙ ap (λ (t : List ℕ). 13 ∷ t) (drop_more text (at + 1) 0 s.within ∙ (ap (λ (b : ℕ). b ∷ drop (at + 1 + 1) text) s.newline ∙ ap (λ (i : ℕ). 10 ∷ drop i text) place)))

pub newline_leads : (text : List ℕ) (at : ℕ) → at < length text → get_or text at 0 ≡ 10 → LeadsTo text at (at + 1) (after_newline (drop at text))
newline_leads text at within e = record {
  is = ap after_newline (drop_more text at 0 within ∙ ap (λ (b : ℕ). b ∷ drop (at + 1) text) e) ∙ newline_one (drop (at + 1) text);
  forward = omega arith;
  within = omega (arith, within);
  keeps = keeps_one text at within (omega (arith, e));
}

pub second_leads : (text : List ℕ) (at : ℕ) → Second text at → LeadsTo text at (at + 2) (after_newline (drop at text))
second_leads text at s =
    let place : at + 1 + 1 ≡ at + 2 = omega arith in
    record {
      is = ap after_newline (two_places text at s) ∙ newline_two (drop (at + 2) text);
      forward = omega arith;
      within = omega (arith, s.within);
      keeps = λ utf8 cuts. subst (λ (i : ℕ). IsCharBoundary text i) place (IsCharBoundary-after_ascii text (at + 1) utf8 s.within (omega (arith, s.newline)));
    }

-- and the spaces after it
pub continued_leads : (text : List ℕ) (at newline to : ℕ) → LeadsTo text at newline (after_newline (drop at text)) → LeadsTo text newline to (after is_space (drop newline text)) → LeadsTo text at to (after_continued (drop at text))
continued_leads text at newline to first second = record {
  is = ap (after is_space) first.is ∙ second.is;
  forward = omega (arith, first.forward, second.forward);
  within = second.within;
  keeps = λ utf8 cuts. second.keeps utf8 (first.keeps utf8 cuts);
}

-- ---- gaps

gap_space : (b : ℕ) (bs : List ℕ) → is_space b ≡ true → after_gap false (b ∷ bs) ≡ after_gap false bs
unfolding after_gap
gap_space b bs p = rw p refl

gap_backslash : (bs : List ℕ) → continues bs ≡ true → after_gap false (92 ∷ bs) ≡ after_gap true bs
unfolding after_gap
gap_backslash bs h = rw h refl

gap_continued : (b : ℕ) (bs : List ℕ) → b ≡ 92 → continues bs ≡ true → after_gap false (b ∷ bs) ≡ after_gap false (after_newline bs)
gap_continued b bs e h = subst (λ (c : ℕ). after_gap false (c ∷ bs) ≡ after_gap false (after_newline bs)) (sym e) (gap_backslash bs h ∙ gap_newline bs h)

gap_other : (b : ℕ) (bs : List ℕ) → is_space b ≡ false → (b == 92 && continues bs) ≡ false → after_gap false (b ∷ bs) ≡ b ∷ bs
unfolding after_gap
gap_other b bs p q = rw (p, q, and-false (b == 10)) refl

end_small : (b : ℕ) → is_end b ≡ true → b < 128
end_small b p = grind (arith, nat_tests)

pub gap_steps_space : (text : List ℕ) (at : ℕ) → at < length text → is_space (get_or text at 0) ≡ true → StepsTo (after_gap false) text at (at + 1)
gap_steps_space text at within p = record {
  moves = record { same = ap (after_gap false) (drop_more text at 0 within) ∙ gap_space (get_or text at 0) (drop (at + 1) text) p; forward = omega arith; within = omega (arith, within) };
  stays = λ e. absurd (omega (arith, e));
  keeps = keeps_one text at within (space_ascii (get_or text at 0) p);
}

pub gap_steps_continued : (text : List ℕ) (at next : ℕ) → at < length text → get_or text at 0 ≡ 92 → continues (drop (at + 1) text) ≡ true → LeadsTo text (at + 1) next (after_newline (drop (at + 1) text)) → StepsTo (after_gap false) text at next
gap_steps_continued text at next within e h leads = record {
  moves = record {
    same = ap (after_gap false) (drop_more text at 0 within) ∙ (gap_continued (get_or text at 0) (drop (at + 1) text) e h ∙ ap (after_gap false) leads.is);
    forward = omega (arith, leads.forward);
    within = leads.within;
  };
  stays = λ same. absurd (omega (arith, same, leads.forward));
  keeps = λ utf8 cuts. leads.keeps utf8 (keeps_one text at within (omega (arith, e)) utf8 cuts);
}

pub gap_steps_none : (text : List ℕ) (at : ℕ) → at < length text → is_space (get_or text at 0) ≡ false → (get_or text at 0 == 92 && continues (drop (at + 1) text)) ≡ false → StepsTo (after_gap false) text at at
gap_steps_none text at within p q = record {
  moves = record { same = refl; forward = omega arith; within = omega (arith, within) };
  stays = λ e. ap (after_gap false) (drop_more text at 0 within) ∙ (gap_other (get_or text at 0) (drop (at + 1) text) p q ∙ sym (drop_more text at 0 within));
  keeps = λ utf8 cuts. cuts;
}

-- ---- steps one after the other

-- a place that steps have come to
pub record Reached (rest_of : List ℕ → List ℕ) (text : List ℕ) (from at : ℕ) : Type 0 where
  pub moves : Moves rest_of rest_of text from at
  pub keeps : Keeps text from at

pub reached_none : (rest_of : List ℕ → List ℕ) (text : List ℕ) (from : ℕ) → from ≤ length text → Reached rest_of text from from
reached_none rest_of text from within = record { moves = record { same = refl; forward = omega arith; within = within }; keeps = λ utf8 cuts. cuts }

pub reached_more : (rest_of : List ℕ → List ℕ) (text : List ℕ) (from at next : ℕ) → Reached rest_of text from at → StepsTo rest_of text at next → Reached rest_of text from next
reached_more rest_of text from at next r s = record {
  moves = record { same = r.moves.same ∙ s.moves.same; forward = omega (arith, r.moves.forward, s.moves.forward); within = s.moves.within };
  keeps = λ utf8 cuts. s.keeps utf8 (r.keeps utf8 cuts);
}

pub reached_stays : (rest_of : List ℕ → List ℕ) (text : List ℕ) (from at next : ℕ) → Reached rest_of text from at → StepsTo rest_of text at next → next ≡ at → LeadsTo text from at (rest_of (drop from text))
reached_stays rest_of text from at next r s e = record {
  is = r.moves.same ∙ s.stays e;
  forward = r.moves.forward;
  within = r.moves.within;
  keeps = r.keeps;
}

pub reached_end : (rest_of : List ℕ → List ℕ) (text : List ℕ) (from at : ℕ) → rest_of [] ≡ [] → Reached rest_of text from at → length text ≤ at → LeadsTo text from at (rest_of (drop from text))
reached_end rest_of text from at none r ends =
    let same : at ≡ length text = omega (arith, r.moves.within, ends) in
    record {
      is = r.moves.same ∙ (ap rest_of (drop_all text at same) ∙ (none ∙ sym (drop_all text at same)));
      forward = r.moves.forward;
      within = r.moves.within;
      keeps = r.keeps;
    }
