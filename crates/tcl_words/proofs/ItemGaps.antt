-- What parts items of a list, step by step.
use Rattle.std.proofs.Common.{◌≡◌, ◌<◌, ◌+◌, ◌==◌, ◌&&◌, inl, inr, ◌⊎◌, ℕ, true, false, List, [], ◌∷◌, drop, length, get_or, refl, sym, ap, subst, ◌∙◌, arith}
use Rattle.std.proofs.lemmas.Bool.{cases_Bool}
use Rattle.std.proofs.lemmas.Bool.Decides.{nat_tests}
use Rattle.std.proofs.lemmas.List.{drop_more, length-drop}
use Rattle.text_model.specs.Continued.{continues}
use Rattle.tcl_model.specs.ListItems.{after_parting, parts_items}
use Rattle.tcl_words.specs.ItemReads.{starts_item}
use Rattle.tcl_words.specs.Spans.{LeadsTo, StepsTo}
use Rattle.tcl_words.proofs.RunFacts.{keeps_one}

pub parting_nil : after_parting [] ≡ []
unfolding after_parting
parting_nil = refl

parting_byte : (b : ℕ) (bs : List ℕ) → parts_items b ≡ true → after_parting (b ∷ bs) ≡ after_parting bs
unfolding after_parting
parting_byte b bs p = rw p refl

parting_backslash : (bs : List ℕ) → continues bs ≡ true → after_parting (92 ∷ bs) ≡ after_parting bs
unfolding after_parting
parting_backslash bs h = rw h refl

pub parting_other : (b : ℕ) (bs : List ℕ) → parts_items b ≡ false → (b == 92 && continues bs) ≡ false → after_parting (b ∷ bs) ≡ b ∷ bs
unfolding after_parting
parting_other b bs p q = rw (p, q) refl

parts_small : (b : ℕ) → parts_items b ≡ true → b < 128
parts_small b p = grind (arith, nat_tests)

pub steps_byte : (text : List ℕ) (at : ℕ) → at < length text → parts_items (get_or text at 0) ≡ true → StepsTo after_parting text at (at + 1)
steps_byte text at within p = record {
  moves = record { same = ap after_parting (drop_more text at 0 within) ∙ parting_byte (get_or text at 0) (drop (at + 1) text) p; forward = omega arith; within = omega (arith, within) };
  stays = λ e. absurd (omega (arith, e));
  keeps = keeps_one text at within (parts_small (get_or text at 0) p);
}

pub steps_continued : (text : List ℕ) (at : ℕ) → at < length text → get_or text at 0 ≡ 92 → continues (drop (at + 1) text) ≡ true → StepsTo after_parting text at (at + 1)
steps_continued text at within e h = record {
  moves = record {
    same =
        ap after_parting (drop_more text at 0 within ∙ ap (λ (b : ℕ). b ∷ drop (at + 1) text) e) ∙ parting_backslash (drop (at + 1) text) h;
    forward = omega arith;
    within = omega (arith, within);
  };
  stays = λ same. absurd (omega (arith, same));
  keeps = keeps_one text at within (omega (arith, e));
}

pub steps_none : (text : List ℕ) (at : ℕ) → at < length text → parts_items (get_or text at 0) ≡ false → (get_or text at 0 == 92 && continues (drop (at + 1) text)) ≡ false → StepsTo after_parting text at at
steps_none text at within p q = record {
  moves = record { same = refl; forward = omega arith; within = omega (arith, within) };
  stays = λ e. ap after_parting (drop_more text at 0 within) ∙ (parting_other (get_or text at 0) (drop (at + 1) text) p q ∙ sym (drop_more text at 0 within));
  keeps = λ utf8 cuts. cuts;
}

-- ---- where items begin

item_starts : (b : ℕ) (bs : List ℕ) → parts_items b ≡ false → (b == 92 && continues bs) ≡ false → starts_item (b ∷ bs) ≡ true
item_starts b bs p r = rw (p, r) refl

pub parting_starts : (xs : List ℕ) → (after_parting xs ≡ []) ⊎ (starts_item (after_parting xs) ≡ true)
unfolding after_parting
parting_starts [] = inl refl
parting_starts (b ∷ bs) = elim (cases_Bool (parts_items b)) [
  | inl p ↦ rw p (parting_starts bs)
  | inr p ↦ elim (cases_Bool (b == 92 && continues bs)) [
    | inl r ↦ rw (p, r) (parting_starts bs)
    | inr r ↦ rw (p, r) (inr (item_starts b bs p r))
  ]
]

-- an item begins after what parts items, where the text does not end
pub begins_item : (text : List ℕ) (at begin : ℕ) → LeadsTo text at begin (after_parting (drop at text)) → (begin ≡ length text → ⊥) → starts_item (drop begin text) ≡ true
begins_item text at begin leads other = one (parting_starts (drop at text)) where
  one : (after_parting (drop at text) ≡ []) ⊎ (starts_item (after_parting (drop at text)) ≡ true) → starts_item (drop begin text) ≡ true
  one (inl none) = absurd (other (omega (arith, ap length (sym leads.is ∙ none), length-drop begin text, leads.within)))
  one (inr s) = subst (λ (t : List ℕ). starts_item t ≡ true) leads.is s
