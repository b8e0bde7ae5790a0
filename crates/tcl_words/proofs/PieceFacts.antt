-- Pieces of a word at their places.
use Rattle.std.proofs.Common.{◌≡◌, ◌<◌, ◌≤◌, ◌+◌, ◌-◌, ◌==◌, ◌++◌, inl, inr, ℕ, suc, Bool, true, false, List, [], ◌∷◌, Result, Ok, drop, take, length, get_or, refl, sym, ap, subst, ◌∙◌, arith}
use Rattle.std.proofs.lemmas.Bool.{cases_Bool, both_ways, eqb-true}
use Rattle.std.proofs.lemmas.Bool.Decides.{nat_tests}
use Rattle.std.proofs.lemmas.List.{drop_more, length-drop}
use Rattle.std.specs.Str.{IsCharBoundary}
use Rattle.sdc_base.specs.Gives.{Meets}
use Rattle.sdc_base.specs.declared.memory.Stop.{Stop}
use Rattle.source_types.specs.declared.kinds.TclKind.{TclKind}
use Rattle.text_model.specs.Bytes.{before, after, front}
use Rattle.tcl_model.specs.Pieces as grammar
use Rattle.text_model.specs.Row.{found, stops}
use Rattle.tcl_words.specs.declared.pieces.Kind.{Kind}
use Rattle.tcl_words.specs.declared.pieces.Kind.TheVariants.{Text}
use Rattle.tcl_words.specs.declared.pieces.Step.{Step}
use Rattle.tcl_words.specs.declared.pieces.Step.TheVariants.{Ends, Found}
use Rattle.tcl_words.specs.declared.runs.Form.{Form}
use Rattle.tcl_words.specs.declared.runs.Form.TheVariants.{Bare, Braced, Quoted}
use Rattle.tcl_words.specs.Forms.{form_of}
use Rattle.tcl_words.specs.Spans.{Keeps, LeadsTo}
use Rattle.tcl_words.specs.Steps.{StepAt, between, end_of, of_kind}
use Rattle.tcl_words.proofs.RunFacts.{drop_all, keeps_one}

-- ---- bytes between places

take_cons : (n b : ℕ) (bs : List ℕ) → take (n + 1) (b ∷ bs) ≡ b ∷ take n bs
take_cons n b bs = let e : n + 1 ≡ suc n = omega arith in rw e refl

pub after_short : (test : ℕ → Bool) (xs : List ℕ) → length (after test xs) ≤ length xs
unfolding after
after_short test [] = omega arith
after_short test (b ∷ bs) = elim (cases_Bool (test b)) [
  | inl p ↦ rw p (omega (arith, after_short test bs))
  | inr p ↦ rw p (omega arith)
]

front_before : (test : ℕ → Bool) (xs : List ℕ) → front test xs ≡ before xs (after test xs)
unfolding front after
front_before test [] = refl
front_before test (b ∷ bs) = elim (cases_Bool (test b)) [
  | inl p ↦
      let more : length (b ∷ bs) - length (after test bs) ≡ length bs - length (after test bs) + 1 = omega (arith, after_short test bs) in
      rw p (ap (λ (t : List ℕ). b ∷ t) (front_before test bs) ∙ (sym (take_cons (length bs - length (after test bs)) b bs) ∙ ap (λ (n : ℕ). take n (b ∷ bs)) (sym more)))
  | inr p ↦
      let none : length (b ∷ bs) - length (b ∷ bs) ≡ 0 = omega arith in
      rw (p, none) refl
]

pub before_between : (text : List ℕ) (from to : ℕ) → from ≤ to → to ≤ length text → before (drop from text) (drop to text) ≡ between text from to
before_between text from to forward within =
    let n : length (drop from text) - length (drop to text) ≡ to - from = omega (arith, forward, within, length-drop from text, length-drop to text) in
    ap (λ (k : ℕ). take k (drop from text)) n

-- inside what a brace closes
pub inner_is : (text : List ℕ) (from to : ℕ) → from + 1 < to → to ≤ length text → before (drop (from + 1) text) (125 ∷ drop to text) ≡ between text (from + 1) (to - 1)
inner_is text from to less within =
    let n : length (drop (from + 1) text) - length (125 ∷ drop to text) ≡ to - 1 - (from + 1) = omega (arith, less, within, length-drop (from + 1) text, length-drop to text) in
    ap (λ (k : ℕ). take k (drop (from + 1) text)) n

pub front_between : (test : ℕ → Bool) (text : List ℕ) (from to : ℕ) → LeadsTo text from to (after test (drop from text)) → front test (drop from text) ≡ between text from to
front_between test text from to leads =
    front_before test (drop from text) ∙ (ap (before (drop from text)) leads.is ∙ before_between text from to leads.forward leads.within)

pub between_more : (text : List ℕ) (from to : ℕ) → from < to → to ≤ length text → between text from to ≡ get_or text from 0 ∷ between text (from + 1) to
between_more text from to less within =
    let n : to - from ≡ to - (from + 1) + 1 = omega (arith, less) in
    ap (λ (k : ℕ). take k (drop from text)) n
    ∙ (ap (take (to - (from + 1) + 1)) (drop_more text from 0 (omega (arith, less, within))) ∙ take_cons (to - (from + 1)) (get_or text from 0) (drop (from + 1) text))

pub between_none : (text : List ℕ) (from : ℕ) → between text from from ≡ []
between_none text from = let n : from - from ≡ 0 = omega arith in ap (λ (k : ℕ). take k (drop from text)) n

between_one : (text : List ℕ) (at : ℕ) → at < length text → between text at (at + 1) ≡ get_or text at 0 ∷ []
between_one text at within = between_more text at (at + 1) (omega arith) (omega (arith, within)) ∙ ap (λ (t : List ℕ). get_or text at 0 ∷ t) (between_none text (at + 1))

-- ---- steps

abbrev pub itself : ℕ → ℕ → Step
itself from to = Found (record { kind = Text; from = from; to = to; next = to })

abbrev pub one : Kind → ℕ → Step
one kind next = Found (record { kind = kind; from = next; to = next; next = next })

-- a piece of the bytes between two places
pub itself_at : (front_ : grammar.PieceFront) (text : List ℕ) (at from to : ℕ) → front_ ≡ found (grammar.text (between text from to)) (drop to text) → at < to → from ≤ to → to ≤ length text → Keeps text at from → Keeps text at to → StepAt front_ text at (Ok (itself from to))
itself_at front_ text at from to e forward order within keeps_from keeps_to =
    (e, record { forward = forward; within = within; order = order; inside = within; keeps_from = keeps_from; keeps_to = keeps_to; keeps_next = keeps_to })

-- after these bytes those that stand for themselves
pub run_found : (form : grammar.Form) (text bytes : List ℕ) (from run to : ℕ) → LeadsTo text run to (after (grammar.is_itself form) (drop run text)) → between text from to ≡ bytes ++ between text run to → grammar.with_run form bytes (drop run text) ≡ found (grammar.text (between text from to)) (drop to text)
run_found form text bytes from run to leads e =
    ap (λ (t : List ℕ). found (grammar.text (bytes ++ t)) (after (grammar.is_itself form) (drop run text))) (front_between (grammar.is_itself form) text run to leads)
    ∙ (ap (λ (t : List ℕ). found (grammar.text (bytes ++ between text run to)) t) leads.is ∙ ap (λ (t : List ℕ). found (grammar.text t) (drop to text)) (sym e))

-- a byte and the run after it
pub run_at : (form : grammar.Form) (text : List ℕ) (at to : ℕ) → at < length text → LeadsTo text (at + 1) to (after (grammar.is_itself form) (drop (at + 1) text)) → IsCharBoundary text to → StepAt (grammar.with_run form (get_or text at 0 ∷ []) (drop (at + 1) text)) text at (Ok (itself at to))
run_at form text at to within leads cuts =
    itself_at (grammar.with_run form (get_or text at 0 ∷ []) (drop (at + 1) text)) text at at to
    (run_found form text (get_or text at 0 ∷ []) at (at + 1) to leads (between_more text at to (omega (arith, leads.forward)) leads.within))
    (omega (arith, leads.forward)) (omega (arith, leads.forward)) leads.within (λ utf8 here. here) (λ utf8 here. cuts)

-- a byte after a backslash and the run after it
pub taken_at : (form : grammar.Form) (text : List ℕ) (at to : ℕ) → at + 1 < length text → get_or text at 0 ≡ 92 → LeadsTo text (at + 2) to (after (grammar.is_itself form) (drop (at + 2) text)) → IsCharBoundary text to → StepAt (grammar.with_run form (get_or text (at + 1) 0 ∷ []) (drop (at + 2) text)) text at (Ok (itself (at + 1) to))
taken_at form text at to within e leads cuts =
    let place : at + 1 + 1 ≡ at + 2 = omega arith in
    let bytes : between text (at + 1) to ≡ get_or text (at + 1) 0 ∷ between text (at + 2) to =
    between_more text (at + 1) to (omega (arith, leads.forward)) leads.within ∙ ap (λ (i : ℕ). get_or text (at + 1) 0 ∷ between text i to) place in
    itself_at (grammar.with_run form (get_or text (at + 1) 0 ∷ []) (drop (at + 2) text)) text at (at + 1) to
    (run_found form text (get_or text (at + 1) 0 ∷ []) (at + 1) (at + 2) to leads bytes)
    (omega (arith, leads.forward)) (omega (arith, leads.forward)) leads.within (keeps_one text at (omega (arith, within)) (omega (arith, e))) (λ utf8 here. cuts)

-- a backslash that stays, with a byte and the run after it
pub kept_at : (text : List ℕ) (at to : ℕ) → at + 1 < length text → get_or text at 0 ≡ 92 → LeadsTo text (at + 2) to (after (grammar.is_itself grammar.braced) (drop (at + 2) text)) → IsCharBoundary text to → StepAt (grammar.escaped grammar.braced (get_or text (at + 1) 0) (drop (at + 2) text)) text at (Ok (itself at to))
kept_at text at to within e leads cuts =
    let place : at + 1 + 1 ≡ at + 2 = omega arith in
    let bytes : between text at to ≡ 92 ∷ (get_or text (at + 1) 0 ∷ between text (at + 2) to) =
    between_more text at to (omega (arith, leads.forward)) leads.within
    ∙ (ap (λ (b : ℕ). b ∷ between text (at + 1) to) e
    ∙ ap (λ (t : List ℕ). 92 ∷ t) (between_more text (at + 1) to (omega (arith, leads.forward)) leads.within ∙ ap (λ (i : ℕ). get_or text (at + 1) 0 ∷ between text i to) place)) in
    itself_at (grammar.escaped grammar.braced (get_or text (at + 1) 0) (drop (at + 2) text)) text at at to
    (run_found grammar.braced text (92 ∷ (get_or text (at + 1) 0 ∷ [])) at (at + 2) to leads bytes)
    (omega (arith, leads.forward)) (omega (arith, leads.forward)) leads.within (λ utf8 here. here) (λ utf8 here. cuts)

-- one byte for a sequence
pub one_at : (front_ : grammar.PieceFront) (text : List ℕ) (at next : ℕ) (kind : Kind) → front_ ≡ found (of_kind kind []) (drop next text) → at < next → next ≤ length text → Keeps text at next → StepAt front_ text at (Ok (one kind next))
one_at front_ text at next kind e forward within keeps = (
  e ∙ ap (λ (t : List ℕ). found (of_kind kind t) (drop next text)) (sym (between_none text next)),
  record { forward = forward; within = within; order = omega arith; inside = within; keeps_from = keeps; keeps_to = keeps; keeps_next = keeps },
)

-- a byte of the grammar's own: an ASCII byte as it is
pub byte_at : (front_ : grammar.PieceFront) (text : List ℕ) (at b : ℕ) → at < length text → get_or text at 0 ≡ b → b < 128 → front_ ≡ found (grammar.text (b ∷ [])) (drop (at + 1) text) → StepAt front_ text at (Ok (itself at (at + 1)))
byte_at front_ text at b within e small f =
    itself_at front_ text at at (at + 1)
    (f ∙ ap (λ (t : List ℕ). found (grammar.text t) (drop (at + 1) text)) (sym (between_one text at within ∙ ap (λ (c : ℕ). c ∷ []) e)))
    (omega arith) (omega arith) (omega (arith, within)) (λ utf8 here. here) (keeps_one text at within (omega (arith, e, small)))

-- a text from a place of a byte on
pub here : (text : List ℕ) (at b : ℕ) → at < length text → get_or text at 0 ≡ b → drop at text ≡ b ∷ drop (at + 1) text
here text at b within e = drop_more text at 0 within ∙ ap (λ (c : ℕ). c ∷ drop (at + 1) text) e

-- ---- ends

pub text_ends : (text : List ℕ) (at : ℕ) → at ≡ length text → StepAt (stops (Ok [])) text at (Ok (Ends at))
text_ends text at e = (ap (λ (t : List ℕ). stops (Ok t)) (sym (drop_all text at e)), omega arith, omega (arith, e), λ utf8 cuts. cuts)

pub word_ends : (form : Form) (text : List ℕ) (at : ℕ) → at < length text → grammar.ends_word (form_of form) (get_or text at 0) ≡ true → StepAt (grammar.at_word_end (form_of form) (get_or text at 0) (drop (at + 1) text)) text at (Ok (Ends (end_of form at)))
word_ends Braced text at within p = absurd (both_ways false refl p)
word_ends Quoted text at within p =
    (refl, omega arith, omega (arith, within), keeps_one text at within (omega (arith, eqb-true (get_or text at 0) 34 p)))
word_ends Bare text at within p = (ap (λ (t : List ℕ). stops (Ok t)) (sym (drop_more text at 0 within)), omega arith, omega (arith, within), λ utf8 cuts. cuts)

-- ---- what the grammar has, by the first byte

pub piece_none : (form : grammar.Form) (text : List ℕ) (at : ℕ) → at ≡ length text → grammar.piece_at form (drop at text) ≡ grammar.at_text_end form
unfolding grammar.piece_at
piece_none form text at e = ap (grammar.piece_at form) (drop_all text at e)

piece_first : (form : grammar.Form) (b : ℕ) (bs : List ℕ) → grammar.ends_word form b ≡ true → grammar.piece_at form (b ∷ bs) ≡ grammar.at_word_end form b bs
unfolding grammar.piece_at
piece_first form b bs p = rw p refl

piece_second : (form : grammar.Form) (bs : List ℕ) → grammar.ends_word form 92 ≡ false → grammar.piece_at form (92 ∷ bs) ≡ grammar.after_backslash form bs
unfolding grammar.piece_at
piece_second form bs p = rw p refl

piece_third : (form : grammar.Form) (b : ℕ) (bs : List ℕ) → grammar.ends_word form b ≡ false → (b == 92) ≡ false → grammar.substitutes form b ≡ true → grammar.piece_at form (b ∷ bs) ≡ grammar.substituted b bs
unfolding grammar.piece_at
piece_third form b bs p q r = rw (p, q, r) refl

piece_last : (form : grammar.Form) (b : ℕ) (bs : List ℕ) → grammar.ends_word form b ≡ false → (b == 92) ≡ false → grammar.substitutes form b ≡ false → grammar.piece_at form (b ∷ bs) ≡ grammar.with_run form (b ∷ []) bs
unfolding grammar.piece_at
piece_last form b bs p q r = rw (p, q, r) refl

no_backslash : (form : Form) → grammar.ends_word (form_of form) 92 ≡ false
no_backslash Braced = refl
no_backslash Quoted = refl
no_backslash Bare = refl

pub at_none : (form : Form) (text : List ℕ) (at : ℕ) (r : Result Step (Stop TclKind)) → at ≡ length text → Meets r (StepAt (grammar.at_text_end (form_of form)) text at) → Meets r (StepAt (grammar.piece_at (form_of form) (drop at text)) text at)
at_none form text at r e m = subst (λ (f : grammar.PieceFront). Meets r (StepAt f text at)) (sym (piece_none (form_of form) text at e)) m

pub at_end : (form : Form) (text : List ℕ) (at : ℕ) → at < length text → grammar.ends_word (form_of form) (get_or text at 0) ≡ true → StepAt (grammar.piece_at (form_of form) (drop at text)) text at (Ok (Ends (end_of form at)))
at_end form text at within p =
    subst (λ (f : grammar.PieceFront). StepAt f text at (Ok (Ends (end_of form at))))
    (sym (ap (grammar.piece_at (form_of form)) (drop_more text at 0 within) ∙ piece_first (form_of form) (get_or text at 0) (drop (at + 1) text) p))
    (word_ends form text at within p)

pub at_end_is : (form : Form) (text : List ℕ) (at to : ℕ) → at < length text → grammar.ends_word (form_of form) (get_or text at 0) ≡ true → to ≡ end_of form at → StepAt (grammar.piece_at (form_of form) (drop at text)) text at (Ok (Ends to))
at_end_is form text at to within p e = subst (λ (i : ℕ). StepAt (grammar.piece_at (form_of form) (drop at text)) text at (Ok (Ends i))) (sym e) (at_end form text at within p)

pub at_within : (text : List ℕ) (at : ℕ) → at ≤ length text → (at ≡ length text → ⊥) → at < length text
at_within text at inside other = omega (arith, inside, other)

pub at_backslash : (form : Form) (text : List ℕ) (at : ℕ) (s : Step) → at < length text → get_or text at 0 ≡ 92 → StepAt (grammar.after_backslash (form_of form) (drop (at + 1) text)) text at (Ok s) → StepAt (grammar.piece_at (form_of form) (drop at text)) text at (Ok s)
at_backslash form text at s within e m =
    subst (λ (f : grammar.PieceFront). StepAt f text at (Ok s))
    (sym (ap (grammar.piece_at (form_of form)) (here text at 92 within e) ∙ piece_second (form_of form) (drop (at + 1) text) (no_backslash form))) m

pub at_substituted : (form : Form) (text : List ℕ) (at : ℕ) (r : Result Step (Stop TclKind)) → at < length text → grammar.ends_word (form_of form) (get_or text at 0) ≡ false → (get_or text at 0 == 92) ≡ false → grammar.substitutes (form_of form) (get_or text at 0) ≡ true → Meets r (StepAt (grammar.substituted (get_or text at 0) (drop (at + 1) text)) text at) → Meets r (StepAt (grammar.piece_at (form_of form) (drop at text)) text at)
at_substituted form text at r within p q s m =
    subst (λ (f : grammar.PieceFront). Meets r (StepAt f text at))
    (sym (ap (grammar.piece_at (form_of form)) (drop_more text at 0 within) ∙ piece_third (form_of form) (get_or text at 0) (drop (at + 1) text) p q s)) m

pub at_run : (form : Form) (text : List ℕ) (at to : ℕ) → at < length text → grammar.ends_word (form_of form) (get_or text at 0) ≡ false → (get_or text at 0 == 92) ≡ false → grammar.substitutes (form_of form) (get_or text at 0) ≡ false → LeadsTo text (at + 1) to (after (grammar.is_itself (form_of form)) (drop (at + 1) text)) → IsCharBoundary text to → StepAt (grammar.piece_at (form_of form) (drop at text)) text at (Ok (itself at to))
at_run form text at to within p q r leads cuts =
    subst (λ (f : grammar.PieceFront). StepAt f text at (Ok (itself at to)))
    (sym (ap (grammar.piece_at (form_of form)) (drop_more text at 0 within) ∙ piece_last (form_of form) (get_or text at 0) (drop (at + 1) text) p q r))
    (run_at (form_of form) text at to within leads cuts)

pub substitutes_small : (form : Form) (b : ℕ) → grammar.substitutes (form_of form) b ≡ true → b < 128
substitutes_small Braced b p = absurd (both_ways false refl p)
substitutes_small Quoted b p = grind (arith, nat_tests)
substitutes_small Bare b p = grind (arith, nat_tests)
