-- Pieces of an item of a list at their places.
use Rattle.std.proofs.Common.{◌≡◌, ◌<◌, ◌+◌, ◌==◌, ℕ, true, false, List, [], ◌∷◌, Result, Ok, drop, length, get_or, refl, sym, ap, subst, ◌∙◌, arith}
use Rattle.std.proofs.lemmas.Bool.{both_ways}
use Rattle.std.proofs.lemmas.Bool.Decides.{nat_tests}
use Rattle.std.proofs.lemmas.List.{drop_more}
use Rattle.std.specs.Str.{IsCharBoundary}
use Rattle.source_types.specs.declared.kinds.TclKind.{TclKind}
use Rattle.text_model.specs.Bytes.{after}
use Rattle.tcl_model.specs.ListItems.{ends_item, item_piece_at}
use Rattle.tcl_model.specs.Pieces as grammar
use Rattle.tcl_words.specs.declared.pieces.Step.{Step}
use Rattle.tcl_words.specs.declared.pieces.Step.TheVariants.{Ends}
use Rattle.tcl_words.specs.declared.runs.Form.{Form}
use Rattle.tcl_words.specs.declared.runs.Form.TheVariants.{Bare, Braced, Quoted}
use Rattle.tcl_words.specs.Forms.{form_of}
use Rattle.tcl_words.specs.Spans.{LeadsTo}
use Rattle.tcl_words.specs.Steps.{StepAt, end_of}
use Rattle.tcl_words.proofs.PieceFacts.{here, itself, run_at, word_ends}
use Rattle.tcl_words.proofs.RunFacts.{drop_all}

-- ---- what the grammar has, by the first byte

item_none : (form : grammar.Form) (text : List ℕ) (at : ℕ) → at ≡ length text → item_piece_at form (drop at text) ≡ grammar.at_text_end form
unfolding item_piece_at
item_none form text at e = ap (item_piece_at form) (drop_all text at e)

item_first : (form : grammar.Form) (b : ℕ) (bs : List ℕ) → ends_item form b ≡ true → item_piece_at form (b ∷ bs) ≡ grammar.at_word_end form b bs
unfolding item_piece_at
item_first form b bs p = rw p refl

item_second : (form : grammar.Form) (bs : List ℕ) → ends_item form 92 ≡ false → item_piece_at form (92 ∷ bs) ≡ grammar.after_backslash form bs
unfolding item_piece_at
item_second form bs p = rw p refl

item_last : (form : grammar.Form) (b : ℕ) (bs : List ℕ) → ends_item form b ≡ false → (b == 92) ≡ false → item_piece_at form (b ∷ bs) ≡ grammar.with_run form (b ∷ []) bs
unfolding item_piece_at
item_last form b bs p q = rw (p, q) refl

no_backslash : (form : Form) → ends_item (form_of form) 92 ≡ false
no_backslash Braced = refl
no_backslash Quoted = refl
no_backslash Bare = refl

-- a byte that ends an item ends a word
ends_both : (form : Form) (b : ℕ) → ends_item (form_of form) b ≡ true → grammar.ends_word (form_of form) b ≡ true
ends_both Braced b p = absurd (both_ways false refl p)
ends_both Quoted b p = p
ends_both Bare b p = grind (arith, nat_tests)

-- ---- what stands at a place

pub at_none : (form : Form) (text : List ℕ) (at : ℕ) (r : Result Step TclKind) → at ≡ length text → StepAt (grammar.at_text_end (form_of form)) text at r → StepAt (item_piece_at (form_of form) (drop at text)) text at r
at_none form text at r e m = subst (λ (f : grammar.PieceFront). StepAt f text at r) (sym (item_none (form_of form) text at e)) m

pub at_end : (form : Form) (text : List ℕ) (at to : ℕ) → at < length text → ends_item (form_of form) (get_or text at 0) ≡ true → to ≡ end_of form at → StepAt (item_piece_at (form_of form) (drop at text)) text at (Ok (Ends to))
at_end form text at to within p e =
    let front : item_piece_at (form_of form) (drop at text) ≡ grammar.at_word_end (form_of form) (get_or text at 0) (drop (at + 1) text) =
    ap (item_piece_at (form_of form)) (drop_more text at 0 within) ∙ item_first (form_of form) (get_or text at 0) (drop (at + 1) text) p in
    subst (λ (i : ℕ). StepAt (item_piece_at (form_of form) (drop at text)) text at (Ok (Ends i))) (sym e)
    (subst (λ (f : grammar.PieceFront). StepAt f text at (Ok (Ends (end_of form at)))) (sym front)
    (word_ends form text at within (ends_both form (get_or text at 0) p)))

pub at_backslash : (form : Form) (text : List ℕ) (at : ℕ) (s : Step) → at < length text → get_or text at 0 ≡ 92 → StepAt (grammar.after_backslash (form_of form) (drop (at + 1) text)) text at (Ok s) → StepAt (item_piece_at (form_of form) (drop at text)) text at (Ok s)
at_backslash form text at s within e m =
    subst (λ (f : grammar.PieceFront). StepAt f text at (Ok s))
    (sym (ap (item_piece_at (form_of form)) (here text at 92 within e) ∙ item_second (form_of form) (drop (at + 1) text) (no_backslash form))) m

pub at_run : (form : Form) (text : List ℕ) (at to : ℕ) → at < length text → ends_item (form_of form) (get_or text at 0) ≡ false → (get_or text at 0 == 92) ≡ false → LeadsTo text (at + 1) to (after (grammar.is_itself (form_of form)) (drop (at + 1) text)) → IsCharBoundary text to → StepAt (item_piece_at (form_of form) (drop at text)) text at (Ok (itself at to))
at_run form text at to within p q leads cuts =
    subst (λ (f : grammar.PieceFront). StepAt f text at (Ok (itself at to)))
    (sym (ap (item_piece_at (form_of form)) (drop_more text at 0 within) ∙ item_last (form_of form) (get_or text at 0) (drop (at + 1) text) p q))
    (run_at (form_of form) text at to within leads cuts)
