-- Comments and what parts commands, step by step.
use Rattle.std.proofs.Common.{◌≡◌, ◌<◌, ◌≤◌, ◌+◌, ◌==◌, ◌&&◌, ◌||◌, inl, inr, ℕ, true, false, List, [], ◌∷◌, drop, length, get_or, refl, sym, ap, subst, ◌∙◌, arith}
use Rattle.std.proofs.lemmas.Bool.{cases_Bool, eqb-true}
use Rattle.std.proofs.lemmas.Bool.Decides.{nat_tests}
use Rattle.std.proofs.lemmas.List.{drop_more}
use Rattle.std.proofs.lemmas.Str.{IsCharBoundary-before_ascii, IsCharBoundary-end}
use Rattle.std.specs.Str.{IsCharBoundary}
use Rattle.text_model.specs.Bytes.{begins_with, is_end, is_space}
use Rattle.text_model.specs.Continued.{Between, comment, continues, from_command, parting, taken}
use Rattle.tcl_words.specs.Spans.{Keeps, Moves, StepsTo}
use Rattle.tcl_words.proofs.RunFacts.{drop_all, keeps_one}
use Rattle.tcl_words.proofs.GapFacts.{Second, two_places}

-- ---- the end of a text

pub from_command_nil : (state : Between) → from_command state [] ≡ []
unfolding from_command
from_command_nil parting = refl
from_command_nil comment = refl
from_command_nil taken = refl

-- ---- comments

taken_pair : (bs : List ℕ) → from_command taken (13 ∷ (10 ∷ bs)) ≡ from_command comment bs
unfolding from_command
taken_pair bs = refl

taken_one : (b : ℕ) (bs : List ℕ) → (b == 13 && begins_with 10 bs) ≡ false → from_command taken (b ∷ bs) ≡ from_command comment bs
unfolding from_command
taken_one b bs p = rw p refl

pub taken_end_moves : (text : List ℕ) (at : ℕ) → at ≡ length text → Moves (from_command taken) (from_command comment) text at at
taken_end_moves text at e = record {
  same = ap (from_command taken) (drop_all text at e) ∙ (from_command_nil taken ∙ (sym (from_command_nil comment) ∙ ap (from_command comment) (sym (drop_all text at e))));
  forward = omega arith;
  within = omega (arith, e);
}

pub taken_pair_moves : (text : List ℕ) (at : ℕ) → Second text at → Moves (from_command taken) (from_command comment) text at (at + 2)
taken_pair_moves text at s = record {
  same = ap (from_command taken) (two_places text at s) ∙ taken_pair (drop (at + 2) text);
  forward = omega arith;
  within = omega (arith, s.within);
}

pub taken_one_moves : (text : List ℕ) (at : ℕ) → at < length text → (get_or text at 0 == 13 && begins_with 10 (drop (at + 1) text)) ≡ false → Moves (from_command taken) (from_command comment) text at (at + 1)
taken_one_moves text at within p = record {
  same = ap (from_command taken) (drop_more text at 0 within) ∙ taken_one (get_or text at 0) (drop (at + 1) text) p;
  forward = omega arith;
  within = omega (arith, within);
}

comment_backslash : (bs : List ℕ) → from_command comment (92 ∷ bs) ≡ from_command taken bs
unfolding from_command
comment_backslash bs = refl

comment_other : (b : ℕ) (bs : List ℕ) → (b == 10) ≡ false → (b == 92) ≡ false → from_command comment (b ∷ bs) ≡ from_command comment bs
unfolding from_command
comment_other b bs p q = rw (p, q) refl

comment_newline : (bs : List ℕ) → from_command comment (10 ∷ bs) ≡ from_command parting (10 ∷ bs)
unfolding from_command
comment_newline bs = refl

pub comment_taken_moves : (text : List ℕ) (at next : ℕ) → at < length text → get_or text at 0 ≡ 92 → Moves (from_command taken) (from_command comment) text (at + 1) next → Moves (from_command comment) (from_command comment) text at next
comment_taken_moves text at next within e moves = record {
  same = ap (from_command comment) (drop_more text at 0 within ∙ ap (λ (b : ℕ). b ∷ drop (at + 1) text) e) ∙ (comment_backslash (drop (at + 1) text) ∙ moves.same);
  forward = omega (arith, moves.forward);
  within = moves.within;
}

pub comment_one_moves : (text : List ℕ) (at : ℕ) → at < length text → (get_or text at 0 == 10) ≡ false → (get_or text at 0 == 92) ≡ false → Moves (from_command comment) (from_command comment) text at (at + 1)
comment_one_moves text at within p q = record {
  same = ap (from_command comment) (drop_more text at 0 within) ∙ comment_other (get_or text at 0) (drop (at + 1) text) p q;
  forward = omega arith;
  within = omega (arith, within);
}

pub moves_none : (rest_of : List ℕ → List ℕ) (text : List ℕ) (at : ℕ) → at ≤ length text → Moves rest_of rest_of text at at
moves_none rest_of text at within = record { same = refl; forward = omega arith; within = within }

pub moves_more : (first second third : List ℕ → List ℕ) (text : List ℕ) (from at next : ℕ) → Moves first second text from at → Moves second third text at next → Moves first third text from next
moves_more first second third text from at next r s = record { same = r.same ∙ s.same; forward = omega (arith, r.forward, s.forward); within = s.within }

-- the newline of a comment, or the end of the text
pub comment_ends : (text : List ℕ) (from at : ℕ) → Moves (from_command comment) (from_command comment) text from at → (at < length text → get_or text at 0 ≡ 10) → Moves (from_command comment) (from_command parting) text from at
comment_ends text from at m newline =
    record { same = m.same ∙ ends; forward = m.forward; within = m.within } where
      ends : from_command comment (drop at text) ≡ from_command parting (drop at text)
      ends = elim (cases_Bool (at == length text)) [
        | inl e ↦
            let same : at ≡ length text = eqb-true at (length text) e in
            ap (from_command comment) (drop_all text at same) ∙ (from_command_nil comment ∙ (sym (from_command_nil parting) ∙ ap (from_command parting) (sym (drop_all text at same))))
        | inr e ↦
            let within : at < length text = grind (arith, nat_tests, m.within) in
            let here : drop at text ≡ 10 ∷ drop (at + 1) text = drop_more text at 0 within ∙ ap (λ (b : ℕ). b ∷ drop (at + 1) text) (newline within) in
            ap (from_command comment) here ∙ (comment_newline (drop (at + 1) text) ∙ ap (from_command parting) (sym here))
      ]

pub comment_keeps : (text : List ℕ) (from at : ℕ) → at ≤ length text → (at < length text → get_or text at 0 ≡ 10) → Keeps text from at
comment_keeps text from at inside newline =
    λ utf8 cuts. elim (cases_Bool (at == length text)) [
      | inl e ↦ subst (λ (i : ℕ). IsCharBoundary text i) (sym (eqb-true at (length text) e)) (IsCharBoundary-end text)
      | inr e ↦
          let within : at < length text = grind (arith, nat_tests, inside) in
          IsCharBoundary-before_ascii text at within (omega (arith, newline within))
    ]

-- ---- between commands

parting_one : (b : ℕ) (bs : List ℕ) → (is_space b || is_end b) ≡ true → from_command parting (b ∷ bs) ≡ from_command parting bs
unfolding from_command
parting_one b bs p = rw p refl

parting_comment : (bs : List ℕ) → from_command parting (35 ∷ bs) ≡ from_command comment bs
unfolding from_command
parting_comment bs = refl

parting_continued : (bs : List ℕ) → continues bs ≡ true → from_command parting (92 ∷ bs) ≡ from_command parting bs
unfolding from_command
parting_continued bs h = rw h refl

parting_other : (b : ℕ) (bs : List ℕ) → (is_space b || is_end b) ≡ false → (b == 35) ≡ false → (b == 92 && continues bs) ≡ false → from_command parting (b ∷ bs) ≡ b ∷ bs
unfolding from_command
parting_other b bs p q r = rw (p, q, r) refl

parts_small : (b : ℕ) → (is_space b || is_end b) ≡ true → b < 128
parts_small b p = grind (arith, nat_tests)

pub parting_steps_one : (text : List ℕ) (at : ℕ) → at < length text → (is_space (get_or text at 0) || is_end (get_or text at 0)) ≡ true → StepsTo (from_command parting) text at (at + 1)
parting_steps_one text at within p = record {
  moves = record { same = ap (from_command parting) (drop_more text at 0 within) ∙ parting_one (get_or text at 0) (drop (at + 1) text) p; forward = omega arith; within = omega (arith, within) };
  stays = λ e. absurd (omega (arith, e));
  keeps = keeps_one text at within (parts_small (get_or text at 0) p);
}

pub parting_steps_comment : (text : List ℕ) (at next : ℕ) → at < length text → get_or text at 0 ≡ 35 → Moves (from_command comment) (from_command parting) text (at + 1) next → Keeps text (at + 1) next → StepsTo (from_command parting) text at next
parting_steps_comment text at next within e moves keeps = record {
  moves = record {
    same = ap (from_command parting) (drop_more text at 0 within ∙ ap (λ (b : ℕ). b ∷ drop (at + 1) text) e) ∙ (parting_comment (drop (at + 1) text) ∙ moves.same);
    forward = omega (arith, moves.forward);
    within = moves.within;
  };
  stays = λ same. absurd (omega (arith, same, moves.forward));
  keeps = λ utf8 cuts. keeps utf8 (keeps_one text at within (omega (arith, e)) utf8 cuts);
}

pub parting_steps_continued : (text : List ℕ) (at : ℕ) → at < length text → get_or text at 0 ≡ 92 → continues (drop (at + 1) text) ≡ true → StepsTo (from_command parting) text at (at + 1)
parting_steps_continued text at within e h = record {
  moves = record {
    same = ap (from_command parting) (drop_more text at 0 within ∙ ap (λ (b : ℕ). b ∷ drop (at + 1) text) e) ∙ parting_continued (drop (at + 1) text) h;
    forward = omega arith;
    within = omega (arith, within);
  };
  stays = λ same. absurd (omega (arith, same));
  keeps = keeps_one text at within (omega (arith, e));
}

pub parting_steps_none : (text : List ℕ) (at : ℕ) → at < length text → (is_space (get_or text at 0) || is_end (get_or text at 0)) ≡ false → (get_or text at 0 == 35) ≡ false → (get_or text at 0 == 92 && continues (drop (at + 1) text)) ≡ false → StepsTo (from_command parting) text at at
parting_steps_none text at within p q r = record {
  moves = record { same = refl; forward = omega arith; within = omega (arith, within) };
  stays = λ e. ap (from_command parting) (drop_more text at 0 within) ∙ (parting_other (get_or text at 0) (drop (at + 1) text) p q r ∙ sym (drop_more text at 0 within));
  keeps = λ utf8 cuts. cuts;
}
