-- Pieces that begin with a backslash, at their places.
use Rattle.std.proofs.Common.{◌≡◌, ◌<◌, ◌+◌, ◌==◌, inl, inr, ℕ, true, false, List, [], ◌∷◌, Ok, drop, length, get_or, refl, sym, ap, subst, ◌∙◌, arith}
use Rattle.std.proofs.lemmas.Bool.{both_ways, cases_Bool}
use Rattle.std.proofs.lemmas.List.{drop_more}
use Rattle.std.proofs.lemmas.Str.{IsCharBoundary-after_ascii}
use Rattle.std.specs.Str.{IsCharBoundary}
use Rattle.text_model.specs.Bytes.{after}
use Rattle.text_model.specs.Continued.{after_continued, continues}
use Rattle.tcl_model.specs.Pieces as grammar
use Rattle.text_model.specs.Row.{found, stops}
use Rattle.tcl_words.specs.declared.pieces.Kind.{Kind}
use Rattle.tcl_words.specs.declared.pieces.Kind.TheVariants.{Blank, Newline, Tab}
use Rattle.tcl_words.specs.declared.pieces.Step.{Step}
use Rattle.tcl_words.specs.declared.pieces.Step.TheVariants.{Ends}
use Rattle.tcl_words.specs.declared.runs.Form.{Form}
use Rattle.tcl_words.specs.Forms.{form_of}
use Rattle.tcl_words.specs.Spans.{LeadsTo}
use Rattle.tcl_words.specs.Steps.{StepAt, escaped_outside, of_kind}
use Rattle.tcl_words.proofs.RunFacts.{drop_all, keeps_one}
use Rattle.tcl_words.proofs.PieceFacts.{byte_at, here, itself, one, one_at, taken_at}

pub backslash_ends : (form : grammar.Form) (text : List ℕ) (at : ℕ) → at < length text → get_or text at 0 ≡ 92 → at + 1 ≡ length text → StepAt (grammar.after_backslash form (drop (at + 1) text)) text at (Ok (itself at (at + 1)))
backslash_ends form text at within e ends =
    byte_at (grammar.after_backslash form (drop (at + 1) text)) text at 92 within e (omega arith)
    (ap (grammar.after_backslash form) (drop_all text (at + 1) ends) ∙ ap (λ (t : List ℕ). found (grammar.text (92 ∷ [])) t) (sym (drop_all text (at + 1) ends)))

backslash_continued : (form : grammar.Form) (rest : List ℕ) → continues rest ≡ true → grammar.after_backslash form rest ≡ grammar.continued form rest
backslash_continued form [] h = absurd (both_ways false refl h)
backslash_continued form (b ∷ bs) h = rw h refl

backslash_escaped : (form : grammar.Form) (b : ℕ) (bs : List ℕ) → continues (b ∷ bs) ≡ false → grammar.after_backslash form (b ∷ bs) ≡ grammar.escaped form b bs
backslash_escaped form b bs h = rw h refl

pub on_continued : (form : Form) (text : List ℕ) (at : ℕ) (s : Step) → continues (drop (at + 1) text) ≡ true → StepAt (grammar.continued (form_of form) (drop (at + 1) text)) text at (Ok s) → StepAt (grammar.after_backslash (form_of form) (drop (at + 1) text)) text at (Ok s)
on_continued form text at s h m =
    subst (λ (f : grammar.PieceFront). StepAt f text at (Ok s)) (sym (backslash_continued (form_of form) (drop (at + 1) text) h)) m

pub on_escaped : (form : Form) (text : List ℕ) (at : ℕ) (s : Step) → at + 1 < length text → continues (drop (at + 1) text) ≡ false → StepAt (grammar.escaped (form_of form) (get_or text (at + 1) 0) (drop (at + 2) text)) text at (Ok s) → StepAt (grammar.after_backslash (form_of form) (drop (at + 1) text)) text at (Ok s)
on_escaped form text at s within h m =
    let place : at + 1 + 1 ≡ at + 2 = omega arith in
    let two : drop (at + 1) text ≡ get_or text (at + 1) 0 ∷ drop (at + 2) text = drop_more text (at + 1) 0 within ∙ ap (λ (i : ℕ). get_or text (at + 1) 0 ∷ drop i text) place in
    let h_two : continues (get_or text (at + 1) 0 ∷ drop (at + 2) text) ≡ false = subst (λ (t : List ℕ). continues t ≡ false) two h in
    subst (λ (f : grammar.PieceFront). StepAt f text at (Ok s))
    (sym (ap (grammar.after_backslash (form_of form)) two ∙ backslash_escaped (form_of form) (get_or text (at + 1) 0) (drop (at + 2) text) h_two)) m

pub continued_bare : (text : List ℕ) (at : ℕ) → at < length text → get_or text at 0 ≡ 92 → StepAt (grammar.continued grammar.bare (drop (at + 1) text)) text at (Ok (Ends at))
continued_bare text at within e = (ap (λ (t : List ℕ). stops (Ok t)) (sym (here text at 92 within e)), omega arith, omega (arith, within), λ utf8 cuts. cuts)

blank_at : (front_ : grammar.PieceFront) (text : List ℕ) (at next : ℕ) → at < length text → get_or text at 0 ≡ 92 → front_ ≡ found (grammar.text (32 ∷ [])) (after_continued (drop (at + 1) text)) → LeadsTo text (at + 1) next (after_continued (drop (at + 1) text)) → StepAt front_ text at (Ok (one Blank next))
blank_at front_ text at next within e f leads =
    one_at front_ text at next Blank (f ∙ ap (λ (t : List ℕ). found (grammar.text (32 ∷ [])) t) leads.is) (omega (arith, leads.forward)) leads.within
    (λ utf8 cuts. leads.keeps utf8 (keeps_one text at within (omega (arith, e)) utf8 cuts))

pub continued_braced : (text : List ℕ) (at next : ℕ) → at < length text → get_or text at 0 ≡ 92 → LeadsTo text (at + 1) next (after_continued (drop (at + 1) text)) → StepAt (grammar.continued grammar.braced (drop (at + 1) text)) text at (Ok (one Blank next))
continued_braced text at next within e leads = blank_at (grammar.continued grammar.braced (drop (at + 1) text)) text at next within e refl leads

pub continued_quoted : (text : List ℕ) (at next : ℕ) → at < length text → get_or text at 0 ≡ 92 → LeadsTo text (at + 1) next (after_continued (drop (at + 1) text)) → StepAt (grammar.continued grammar.quoted (drop (at + 1) text)) text at (Ok (one Blank next))
continued_quoted text at next within e leads = blank_at (grammar.continued grammar.quoted (drop (at + 1) text)) text at next within e refl leads

letter_at : (front_ : grammar.PieceFront) (text : List ℕ) (at : ℕ) (kind : Kind) → at + 1 < length text → get_or text (at + 1) 0 < 128 → front_ ≡ found (of_kind kind []) (drop (at + 2) text) → StepAt front_ text at (Ok (one kind (at + 2)))
letter_at front_ text at kind within small f =
    let place : at + 1 + 1 ≡ at + 2 = omega arith in
    one_at front_ text at (at + 2) kind f (omega arith) (omega (arith, within))
    (λ utf8 cuts. subst (λ (i : ℕ). IsCharBoundary text i) place (IsCharBoundary-after_ascii text (at + 1) utf8 within small))

pub escaped_newline : (form : Form) (text : List ℕ) (at : ℕ) → at + 1 < length text → get_or text (at + 1) 0 ≡ 110 → StepAt (escaped_outside (form_of form) (get_or text (at + 1) 0) (drop (at + 2) text)) text at (Ok (one Newline (at + 2)))
escaped_newline form text at within e =
    letter_at (escaped_outside (form_of form) (get_or text (at + 1) 0) (drop (at + 2) text)) text at Newline within (omega (arith, e))
    (ap (λ (b : ℕ). escaped_outside (form_of form) b (drop (at + 2) text)) e)

pub escaped_tab : (form : Form) (text : List ℕ) (at : ℕ) → at + 1 < length text → get_or text (at + 1) 0 ≡ 116 → StepAt (escaped_outside (form_of form) (get_or text (at + 1) 0) (drop (at + 2) text)) text at (Ok (one Tab (at + 2)))
escaped_tab form text at within e =
    letter_at (escaped_outside (form_of form) (get_or text (at + 1) 0) (drop (at + 2) text)) text at Tab within (omega (arith, e))
    (ap (λ (b : ℕ). escaped_outside (form_of form) b (drop (at + 2) text)) e)

outside_other : (form : grammar.Form) (b : ℕ) (rest : List ℕ) → (b == 110) ≡ false → (b == 116) ≡ false → escaped_outside form b rest ≡ grammar.with_run form (b ∷ []) rest
outside_other form b rest p q = rw (p, q) refl

pub escaped_other : (form : Form) (text : List ℕ) (at to : ℕ) → at + 1 < length text → get_or text at 0 ≡ 92 → (get_or text (at + 1) 0 == 110) ≡ false → (get_or text (at + 1) 0 == 116) ≡ false → LeadsTo text (at + 2) to (after (grammar.is_itself (form_of form)) (drop (at + 2) text)) → IsCharBoundary text to → StepAt (escaped_outside (form_of form) (get_or text (at + 1) 0) (drop (at + 2) text)) text at (Ok (itself (at + 1) to))
escaped_other form text at to within e p q leads cuts =
    subst (λ (f : grammar.PieceFront). StepAt f text at (Ok (itself (at + 1) to)))
    (sym (outside_other (form_of form) (get_or text (at + 1) 0) (drop (at + 2) text) p q))
    (taken_at (form_of form) text at to within e leads cuts)

-- ---- a backslash ends no bare word

escaped_goes : (b : ℕ) (rest later : List ℕ) → grammar.escaped grammar.bare b rest ≡ stops (Ok later) → ⊥
escaped_goes b rest later e = elim (cases_Bool (b == 110)) [
  | inl p ↦ let f : found (grammar.text (10 ∷ [])) rest ≡ stops (Ok later) = rw p at e in cc
  | inr p ↦ elim (cases_Bool (b == 116)) [
    | inl q ↦ let f : found (grammar.text (9 ∷ [])) rest ≡ stops (Ok later) = rw (p, q) at e in cc
    | inr q ↦ let f : grammar.with_run grammar.bare (b ∷ []) rest ≡ stops (Ok later) = rw (p, q) at e in cc
  ]
]

pub backslash_goes : (rest later : List ℕ) → continues rest ≡ false → grammar.after_backslash grammar.bare rest ≡ stops (Ok later) → ⊥
backslash_goes [] later h e = cc
backslash_goes (b ∷ bs) later h e = let f : grammar.escaped grammar.bare b bs ≡ stops (Ok later) = rw h at e in escaped_goes b bs later f
