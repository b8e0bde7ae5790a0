-- Pieces that begin with `$` or `[`, at their places.
use Rattle.std.proofs.Common.{◌≡◌, ◌<◌, ◌≤◌, ◌+◌, ◌-◌, ◌==◌, inl, inr, ℕ, Bool, true, false, not, List, [], ◌∷◌, None, Result, Ok, Err, drop, take, length, get_or, refl, sym, ap, subst, ◌∙◌, arith}
use Rattle.std.proofs.lemmas.Bool.{cases_Bool, both_ways, eqb-true}
use Rattle.std.proofs.lemmas.Bool.Decides.{nat_tests}
use Rattle.std.proofs.lemmas.List.{drop_more, length-drop}
use Rattle.std.proofs.lemmas.Str.{IsCharBoundary-after_ascii}
use Rattle.std.specs.Str.{IsCharBoundary}
use Rattle.source_types.specs.declared.commands.Part.TheVariants as part
use Rattle.source_types.specs.declared.kinds.TclKind.{TclKind}
use Rattle.source_types.specs.declared.kinds.TclKind.TheVariants.{BadWord, Unclosed}
use Rattle.text_model.specs.Bytes.{before, begins_with, after, front, is_name_byte}
use Rattle.text_model.specs.Enclosed.{after_bracket}
use Rattle.tcl_model.specs.Pieces as grammar
use Rattle.text_model.specs.Row.{found, stops}
use Rattle.tcl_words.specs.declared.pieces.Kind.TheVariants.{Script, Variable}
use Rattle.tcl_words.specs.declared.pieces.Step.{Step}
use Rattle.tcl_words.specs.declared.pieces.Step.TheVariants.{Found}
use Rattle.tcl_words.specs.Nests.{ClosesAt}
use Rattle.tcl_words.specs.Spans.{Keeps, LeadsTo}
use Rattle.tcl_words.specs.Steps.{StepAt, between}
use Rattle.tcl_words.proofs.RunFacts.{drop_all, keeps_one}
use Rattle.tcl_words.proofs.PieceFacts.{between_more, between_none, byte_at, front_between, here, itself}

-- ---- a variable

abbrev pub dollar_front : List ℕ → ℕ → grammar.PieceFront
dollar_front text at = grammar.after_dollar (front is_name_byte (drop (at + 1) text)) (after is_name_byte (drop (at + 1) text))

dollar_is : (text : List ℕ) (at to : ℕ) → LeadsTo text (at + 1) to (after is_name_byte (drop (at + 1) text)) → dollar_front text at ≡ grammar.after_dollar (between text (at + 1) to) (drop to text)
dollar_is text at to leads =
    ap (λ (t : List ℕ). grammar.after_dollar t (after is_name_byte (drop (at + 1) text))) (front_between is_name_byte text (at + 1) to leads)
    ∙ ap (grammar.after_dollar (between text (at + 1) to)) leads.is

pub dollar_plain : (text : List ℕ) (at to : ℕ) (r : Result Step TclKind) → LeadsTo text (at + 1) to (after is_name_byte (drop (at + 1) text)) → to ≡ at + 1 → StepAt (grammar.plain_dollar (drop (at + 1) text)) text at r → StepAt (dollar_front text at) text at r
dollar_plain text at to r leads e m =
    subst (λ (f : grammar.PieceFront). StepAt f text at r)
    (sym (dollar_is text at to leads ∙ (ap (λ (i : ℕ). grammar.after_dollar (between text (at + 1) i) (drop i text)) e ∙ ap (λ (t : List ℕ). grammar.after_dollar t (drop (at + 1) text)) (between_none text (at + 1))))) m

named : (b : ℕ) (bs rest : List ℕ) → begins_with 40 rest ≡ false → grammar.after_dollar (b ∷ bs) rest ≡ found (grammar.other (part.Variable (b ∷ bs))) rest
named b bs rest p = rw p refl

element : (b : ℕ) (bs rest : List ℕ) → begins_with 40 rest ≡ true → grammar.after_dollar (b ∷ bs) rest ≡ stops (Err BadWord)
element b bs rest p = rw p refl

later : (to at : ℕ) → at + 1 ≤ to → (to ≡ at + 1 → ⊥) → at + 1 < to
later to at forward other = omega (arith, forward, other)

pub dollar_element : (text : List ℕ) (at to : ℕ) → LeadsTo text (at + 1) to (after is_name_byte (drop (at + 1) text)) → (to ≡ at + 1 → ⊥) → begins_with 40 (drop to text) ≡ true → StepAt (dollar_front text at) text at (Err BadWord)
dollar_element text at to leads other p =
    let name = between_more text (at + 1) to (later to at leads.forward other) leads.within in
    dollar_is text at to leads
    ∙ (ap (λ (t : List ℕ). grammar.after_dollar t (drop to text)) name ∙ element (get_or text (at + 1) 0) (between text (at + 1 + 1) to) (drop to text) p)

pub dollar_named : (text : List ℕ) (at to : ℕ) → at < length text → get_or text at 0 ≡ 36 → LeadsTo text (at + 1) to (after is_name_byte (drop (at + 1) text)) → (to ≡ at + 1 → ⊥) → begins_with 40 (drop to text) ≡ false → StepAt (dollar_front text at) text at (Ok (Found (record { kind = Variable; from = at + 1; to = to; next = to })))
dollar_named text at to within e leads other p =
    let name = between_more text (at + 1) to (later to at leads.forward other) leads.within in
    let after_first = keeps_one text at within (omega (arith, e)) in
    let keeps : Keeps text at to = λ utf8 cuts. leads.keeps utf8 (after_first utf8 cuts) in (
      dollar_is text at to leads
          ∙ (ap (λ (t : List ℕ). grammar.after_dollar t (drop to text)) name
          ∙ (named (get_or text (at + 1) 0) (between text (at + 1 + 1) to) (drop to text) p ∙ ap (λ (t : List ℕ). found (grammar.other (part.Variable t)) (drop to text)) (sym name))),
      record { forward = omega (arith, leads.forward); within = leads.within; order = leads.forward; inside = leads.within; keeps_from = after_first; keeps_to = keeps; keeps_next = keeps },
    )

-- ---- a plain dollar, and a name in braces

plain_is : (rest : List ℕ) → begins_with 123 rest ≡ false → grammar.plain_dollar rest ≡ found (grammar.text (36 ∷ [])) rest
plain_is [] p = refl
plain_is (b ∷ bs) p = rw p refl

pub plain_itself : (text : List ℕ) (at : ℕ) → at < length text → get_or text at 0 ≡ 36 → begins_with 123 (drop (at + 1) text) ≡ false → StepAt (grammar.plain_dollar (drop (at + 1) text)) text at (Ok (itself at (at + 1)))
plain_itself text at within e p = byte_at (grammar.plain_dollar (drop (at + 1) text)) text at 36 within e (omega arith) (plain_is (drop (at + 1) text) p)

-- what stands at the place of the brace
pub record Brace (text : List ℕ) (at : ℕ) : Type 0 where
  pub within : at + 1 < length text
  pub opens : get_or text (at + 1) 0 ≡ 123

pub brace_at : (text : List ℕ) (at : ℕ) → begins_with 123 (drop (at + 1) text) ≡ true → Brace text at
brace_at text at p = begins (drop (at + 1) text) refl p where
  begins : (rest : List ℕ) → drop (at + 1) text ≡ rest → begins_with 123 rest ≡ true → Brace text at
  begins [] e h = absurd (both_ways false refl h)
  begins (c ∷ cs) e h =
      let inside : at + 1 < length text = omega (arith, ap length e, length-drop (at + 1) text) in
      let same : get_or text (at + 1) 0 ∷ drop (at + 1 + 1) text ≡ c ∷ cs = sym (drop_more text (at + 1) 0 inside) ∙ e in
      let head : get_or text (at + 1) 0 ≡ c = cc in
      record { within = inside; opens = head ∙ eqb-true c 123 h }

abbrev pub in_name : ℕ → Bool
in_name b = not (b == 125)

braced_is : (text : List ℕ) (at to : ℕ) → Brace text at → LeadsTo text (at + 2) to (after in_name (drop (at + 2) text)) → grammar.plain_dollar (drop (at + 1) text) ≡ grammar.braced_variable (between text (at + 2) to) (drop to text)
braced_is text at to b leads =
    let place : at + 1 + 1 ≡ at + 2 = omega arith in
    let two : drop (at + 1) text ≡ 123 ∷ drop (at + 2) text = here text (at + 1) 123 b.within b.opens ∙ ap (λ (i : ℕ). 123 ∷ drop i text) place in
    ap grammar.plain_dollar two
    ∙ (ap (λ (t : List ℕ). grammar.braced_variable t (after in_name (drop (at + 2) text))) (front_between in_name text (at + 2) to leads)
    ∙ ap (grammar.braced_variable (between text (at + 2) to)) leads.is)

pub name_unclosed : (text : List ℕ) (at to : ℕ) → begins_with 123 (drop (at + 1) text) ≡ true → LeadsTo text (at + 2) to (after in_name (drop (at + 2) text)) → to ≡ length text → StepAt (grammar.plain_dollar (drop (at + 1) text)) text at (Err Unclosed)
name_unclosed text at to p leads e =
    braced_is text at to (brace_at text at p) leads ∙ ap (grammar.braced_variable (between text (at + 2) to)) (drop_all text to e)

after_head : (test : ℕ → Bool) (xs : List ℕ) (b : ℕ) (bs : List ℕ) → after test xs ≡ b ∷ bs → test b ≡ false
unfolding after
after_head test [] b bs e = absurd (omega (arith, ap length e))
after_head test (x ∷ xs) b bs e = elim (cases_Bool (test x)) [
  | inl p ↦ let f : after test xs ≡ b ∷ bs = rw p at e in after_head test xs b bs f
  | inr p ↦
      let f : x ∷ xs ≡ b ∷ bs = rw p at e in
      let same : x ≡ b = cc in
      subst (λ (c : ℕ). test c ≡ false) same p
]

closing_small : (b : ℕ) → in_name b ≡ false → b < 128
closing_small b p = grind (arith, nat_tests)

pub name_closed : (text : List ℕ) (at to : ℕ) → begins_with 123 (drop (at + 1) text) ≡ true → LeadsTo text (at + 2) to (after in_name (drop (at + 2) text)) → IsCharBoundary text to → (to ≡ length text → ⊥) → StepAt (grammar.plain_dollar (drop (at + 1) text)) text at (Ok (Found (record { kind = Variable; from = at + 2; to = to; next = to + 1 })))
name_closed text at to p leads cuts other =
    let b = brace_at text at p in
    let place : at + 1 + 1 ≡ at + 2 = omega arith in
    let within : to < length text = omega (arith, leads.within, other) in
    let closes : in_name (get_or text to 0) ≡ false = after_head in_name (drop (at + 2) text) (get_or text to 0) (drop (to + 1) text) (leads.is ∙ drop_more text to 0 within) in (
      braced_is text at to b leads ∙ ap (grammar.braced_variable (between text (at + 2) to)) (drop_more text to 0 within),
      record {
        forward = omega (arith, leads.forward);
        within = omega (arith, within);
        order = leads.forward;
        inside = leads.within;
        keeps_from = λ utf8 here. subst (λ (i : ℕ). IsCharBoundary text i) place (IsCharBoundary-after_ascii text (at + 1) utf8 b.within (omega (arith, b.opens)));
        keeps_to = λ utf8 here. cuts;
        keeps_next = λ utf8 here. IsCharBoundary-after_ascii text to utf8 within (closing_small (get_or text to 0) closes);
      },
    )

-- ---- a script

pub script_unclosed : (text : List ℕ) (at : ℕ) → after_bracket (drop (at + 1) text) ≡ None → StepAt (grammar.after_opening (drop (at + 1) text) (after_bracket (drop (at + 1) text))) text at (Err Unclosed)
script_unclosed text at e = ap (grammar.after_opening (drop (at + 1) text)) e

inside_is : (text : List ℕ) (from next : ℕ) → from < next → next ≤ length text → before (drop from text) (93 ∷ drop next text) ≡ between text from (next - 1)
inside_is text from next less within =
    let n : length (drop from text) - length (93 ∷ drop next text) ≡ next - 1 - from = omega (arith, less, within, length-drop from text, length-drop next text) in
    ap (λ (k : ℕ). take k (drop from text)) n

pub script_closed : (text : List ℕ) (at next : ℕ) → at < length text → get_or text at 0 < 128 → ClosesAt text (at + 1) next (after_bracket (drop (at + 1) text)) → StepAt (grammar.after_opening (drop (at + 1) text) (after_bracket (drop (at + 1) text))) text at (Ok (Found (record { kind = Script; from = at + 1; to = next - 1; next = next })))
script_closed text at next within small c = (
  ap (grammar.after_opening (drop (at + 1) text)) c.is
      ∙ ap (λ (script : List ℕ). found (grammar.other (part.Script script)) (drop next text)) (inside_is text (at + 1) next c.forward c.within),
  record {
    forward = omega (arith, c.forward);
    within = c.within;
    order = omega (arith, c.forward);
    inside = omega (arith, c.within);
    keeps_from = keeps_one text at within small;
    keeps_to = λ utf8 here. c.before utf8;
    keeps_next = λ utf8 here. c.after utf8;
  },
)
