-- Runs of bytes that pass a test: how they are scanned, and that they cut no character.
use Rattle.std.proofs.Common.{◌≡◌, ◌<◌, ◌≤◌, ◌+◌, ◌-◌, ◌==◌, inl, inr, ◌⊎◌, ℕ, Bool, true, false, not, List, [], ◌∷◌, drop, length, get_or, refl, sym, ap, subst, ◌∙◌, arith}
use Rattle.std.proofs.lemmas.Bool.{cases_Bool}
use Rattle.std.proofs.lemmas.Bool.Decides.{nat_tests}
use Rattle.std.proofs.lemmas.List.{drop_more, length-drop}
use Rattle.std.proofs.lemmas.Str.{IsCharBoundary-after_ascii, IsCharBoundary-before_ascii, IsCharBoundary-end}
use Rattle.std.specs.Str.{IsCharBoundary}
use Rattle.text_model.specs.Bytes.{after, is_name_byte, is_space}
use Rattle.tcl_model.specs.Pieces as grammar
use Rattle.tcl_words.specs.declared.runs.Run.{Run}
use Rattle.tcl_words.specs.declared.runs.Run.TheVariants.{BeforeBrace, Name, Plain, Spaces}
use Rattle.tcl_words.specs.declared.runs.Form.{Form}
use Rattle.tcl_words.specs.declared.runs.Form.TheVariants.{Bare, Braced, Quoted}
use Rattle.tcl_words.specs.Forms.{CutsAfter, form_of, test_of}
use Rattle.tcl_words.specs.Spans.{Keeps, LeadsTo}

-- the bytes between two places pass a test
pub record RunTo (test : ℕ → Bool) (text : List ℕ) (from at : ℕ) : Type 0 where
  pub same : after test (drop from text) ≡ after test (drop at text)
  pub forward : from ≤ at
  pub within : at ≤ length text
  pub last : from < at → test (get_or text (at - 1) 0) ≡ true

-- a text from its end on
pub drop_all : (text : List ℕ) (at : ℕ) → at ≡ length text → drop at text ≡ []
drop_all text at e = nothing (drop at text) (omega (arith, length-drop at text)) where
  nothing : (rest : List ℕ) → length rest ≡ 0 → rest ≡ []
  nothing [] e = refl
  nothing (b ∷ bs) e = absurd (omega arith)

pub run_none : (test : ℕ → Bool) (text : List ℕ) (from : ℕ) → from ≤ length text → RunTo test text from from
run_none test text from within = record { same = refl; forward = omega arith; within = within; last = λ h. absurd (omega arith) }

after_pass : (test : ℕ → Bool) (b : ℕ) (bs : List ℕ) → test b ≡ true → after test (b ∷ bs) ≡ after test bs
unfolding after
after_pass test b bs p = rw p refl

after_fail : (test : ℕ → Bool) (b : ℕ) (bs : List ℕ) → test b ≡ false → after test (b ∷ bs) ≡ b ∷ bs
unfolding after
after_fail test b bs p = rw p refl

after_nil : (test : ℕ → Bool) → after test [] ≡ []
unfolding after
after_nil test = refl

pub run_more : (test : ℕ → Bool) (text : List ℕ) (from at : ℕ) → RunTo test text from at → at < length text → test (get_or text at 0) ≡ true → RunTo test text from (at + 1)
run_more test text from at run within p = record {
  same = run.same ∙ (ap (after test) (drop_more text at 0 within) ∙ after_pass test (get_or text at 0) (drop (at + 1) text) p);
  forward = omega (arith, run.forward);
  within = omega (arith, within);
  last = λ h. let e : at + 1 - 1 ≡ at = omega arith in rw e p;
}

-- a run ends at the end of the text or before a byte that fails
pub run_stops : (test : ℕ → Bool) (text : List ℕ) (from at : ℕ) → RunTo test text from at → (at < length text → test (get_or text at 0) ≡ false) → after test (drop from text) ≡ drop at text
run_stops test text from at run fails =
    run.same ∙ ends (drop at text) (λ b bs e. first b bs e) where
      ends : (rest : List ℕ) → ((b : ℕ) (bs : List ℕ) → rest ≡ b ∷ bs → test b ≡ false) → after test rest ≡ rest
      ends [] h = after_nil test
      ends (b ∷ bs) h = after_fail test b bs (h b bs refl)

      first : (b : ℕ) (bs : List ℕ) → drop at text ≡ b ∷ bs → test b ≡ false
      first b bs e =
          let within : at < length text = omega (arith, ap length e, length-drop at text) in
          let same : get_or text at 0 ∷ drop (at + 1) text ≡ b ∷ bs = sym (drop_more text at 0 within) ∙ e in
          let head : get_or text at 0 ≡ b = cc in
          subst (λ (c : ℕ). test c ≡ false) head (fails within)

-- ---- characters

-- right after an ASCII byte
pub keeps_one : (text : List ℕ) (at : ℕ) → at < length text → get_or text at 0 < 128 → Keeps text at (at + 1)
keeps_one text at within small = λ utf8 cuts. IsCharBoundary-after_ascii text at utf8 within small

pub space_ascii : (b : ℕ) → is_space b ≡ true → b < 128
space_ascii b p = grind (arith, nat_tests)

name_ascii : (b : ℕ) → is_name_byte b ≡ true → b < 128
name_ascii b p = grind (arith, nat_tests)

brace_ascii : (b : ℕ) → not (b == 125) ≡ false → b < 128
brace_ascii b p = grind (arith, nat_tests)

plain_ascii : (form : Form) (b : ℕ) → grammar.is_itself (form_of form) b ≡ false → b < 128
plain_ascii Braced b p = grind (arith, nat_tests)
plain_ascii Quoted b p = grind (arith, nat_tests)
plain_ascii Bare b p = grind (arith, nat_tests)

-- the bytes of a kind are ASCII, or those of no other
ascii_inside : (test : ℕ → Bool) (text : List ℕ) (from at : ℕ) → ((b : ℕ) → test b ≡ true → b < 128) → RunTo test text from at → Keeps text from at
ascii_inside test text from at small run =
    λ utf8 cuts. elim (same_or_less from at run.forward) [
      | inl e ↦ subst (λ (i : ℕ). IsCharBoundary text i) e cuts
      | inr less ↦
          let e : at - 1 + 1 ≡ at = omega arith in
          subst (λ (i : ℕ). IsCharBoundary text i) e (IsCharBoundary-after_ascii text (at - 1) utf8 (omega (arith, run.within)) (small _ (run.last less)))
    ] where
      same_or_less : (i j : ℕ) → i ≤ j → (i ≡ j) ⊎ (i < j)
      same_or_less i j h = elim (cases_Bool (i == j)) [ inl e ↦ inl (grind (arith, nat_tests)) | inr e ↦ inr (grind (arith, nat_tests)) ]

ascii_outside : (test : ℕ → Bool) (text : List ℕ) (at : ℕ) → ((b : ℕ) → test b ≡ false → b < 128) → at ≤ length text → (at < length text → test (get_or text at 0) ≡ false) → IsCharBoundary text at
ascii_outside test text at small inside fails =
    elim (cases_Bool (at == length text)) [
      | inl e ↦ let same : at ≡ length text = grind (arith, nat_tests) in subst (λ (i : ℕ). IsCharBoundary text i) (sym same) (IsCharBoundary-end text)
      | inr e ↦
          let within : at < length text = grind (arith, nat_tests, inside) in
          IsCharBoundary-before_ascii text at within (small _ (fails within))
    ]

pub run_cuts : (run : Run) (text : List ℕ) (from at : ℕ) → RunTo (test_of run) text from at → (at < length text → test_of run (get_or text at 0) ≡ false) → CutsAfter run text at
run_cuts Spaces text from at r fails = tt
run_cuts Name text from at r fails = tt
run_cuts BeforeBrace text from at r fails = ascii_outside (λ b. not (b == 125)) text at brace_ascii r.within fails
run_cuts (Plain form) text from at r fails = ascii_outside (grammar.is_itself (form_of form)) text at (plain_ascii form) r.within fails

run_keeps : (run : Run) (text : List ℕ) (from at : ℕ) → RunTo (test_of run) text from at → (at < length text → test_of run (get_or text at 0) ≡ false) → Keeps text from at
run_keeps Spaces text from at r fails = ascii_inside is_space text from at space_ascii r
run_keeps Name text from at r fails = ascii_inside is_name_byte text from at name_ascii r
run_keeps BeforeBrace text from at r fails = λ utf8 cuts. ascii_outside (λ b. not (b == 125)) text at brace_ascii r.within fails
run_keeps (Plain form) text from at r fails = λ utf8 cuts. ascii_outside (grammar.is_itself (form_of form)) text at (plain_ascii form) r.within fails

pub run_leads : (run : Run) (text : List ℕ) (from at : ℕ) → RunTo (test_of run) text from at → (at < length text → test_of run (get_or text at 0) ≡ false) → LeadsTo text from at (after (test_of run) (drop from text))
run_leads run text from at r fails = record {
  is = run_stops (test_of run) text from at r fails;
  forward = r.forward;
  within = r.within;
  keeps = run_keeps run text from at r fails;
}
