-- What is read of a function's text, byte by byte, is spelled by the grammar: at each place of a text, what is read so
-- far is made of texts that complete to expressions of the grammar with any operand that follows.
use Rattle.std.proofs.Common.{◌≡◌, ℕ, List, [], ◌∷◌, ◌++◌, Option, Some, None, refl, sym, ap, subst, ◌∙◌, inl, inr}
use Rattle.std.specs.Prelude.{option_and_then, option_map}
use Rattle.std.proofs.lemmas.Option.{none-some, same_Some}
use Rattle.std.proofs.lemmas.List.{append_assoc, append-nil}
use Rattle.source_types.specs.declared.function_texts.Operand.{Operand}
use Rattle.source_types.specs.declared.function_texts.Operand.TheVariants as operand
use Rattle.source_types.specs.declared.function_texts.Pending.{Pending}
use Rattle.source_types.specs.declared.function_texts.Sign.{Sign}
use Rattle.source_types.specs.declared.function_texts.Sign.TheVariants as sign
use Rattle.pin_types.specs.declared.functions.Expr.{Expr}
use Rattle.pin_types.specs.declared.functions.Expr.TheVariants as expr
use Rattle.function_model.specs.FunctionText as reading
use Rattle.function_model.specs.FunctionText.{Reading, apart, begins, after, after_and, after_not, after_or, after_xor, chain_with, closed, ended, expression, joined_and, joined_or, joined_xor, negated, nothing_open, nothing_read, opened, operand_in, product_with, sign_of, step, steps, sum_with, whole, with_letter, word_from, word_meaning}
use Rattle.function_model.specs.FunctionGrammar.{AreLetters, IsAnd, IsWord, Spells, a_chain, a_negation, a_product, a_sum, an_operand, before_blank, after_blank, both, denied, either, enclosed, one_chain, one_negation, one_operand, one_product, primed, some, word}
use Rattle.library_laws.proofs.SpelledIsRead.{negated_more}

-- where a step of an optional value gives one, the value is there
mapped : {A B : Type 0} → (f : A → B) (o : Option A) (y : B) → option_map f o ≡ Some y → (x : A) × (o ≡ Some x) × (f x ≡ y)
mapped f None y is = absurd (none-some y is)
mapped f (Some x) y is = (x, refl, same_Some (f x) y is)

bound : {A B : Type 0} → (f : A → Option B) (o : Option A) (y : B) → option_and_then f o ≡ Some y → (x : A) × (o ≡ Some x) × (f x ≡ Some y)
bound f None y is = absurd (none-some y is)
bound f (Some x) y is = (x, refl, is)

-- the text before an operand in its parentheses, in four parts: up to an or, then up to an and, then up to a `^`, and
-- the `!` of the operand; with what completes each part, an expression of its level comes about
record Before (names : List (List ℕ)) (p : Pending) : Type 0 where
  sums : List ℕ
  products : List ℕ
  chains : List ℕ
  denials : List ℕ
  sum : (text : List ℕ) (e : Expr) → Spells names a_product text e → Spells names a_sum (sums ++ text) (joined_or p.sum e)
  product : (text : List ℕ) (e : Expr) → Spells names a_chain text e → Spells names a_product (products ++ text) (joined_and p.product e)
  chain : (text : List ℕ) (e : Expr) → Spells names a_negation text e → Spells names a_chain (chains ++ text) (joined_xor p.chain e)
  negation : (text : List ℕ) (e : Expr) → Spells names a_negation text e → Spells names a_negation (denials ++ text) (negated p.negations e)

abbrev before_text : {names : List (List ℕ)} {p : Pending} → Before names p → List ℕ
before_text before = before.sums ++ (before.products ++ (before.chains ++ before.denials))

-- the text of an operand
abbrev Shown : List (List ℕ) → Operand → Type 0
Shown names operand.Due = Unit {0}
Shown names (operand.Word bytes) = IsWord bytes
Shown names (operand.Stands e) = (text : List ℕ) × Spells names an_operand text e
Shown names (operand.Apart e) = (text : List ℕ) × (b : ℕ) × Spells names an_operand text e × (sign_of b ≡ sign.Blank)

abbrev shown_text : (names : List (List ℕ)) (o : Operand) → Shown names o → List ℕ
shown_text names operand.Due shown = []
shown_text names (operand.Word bytes) shown = bytes
shown_text names (operand.Stands e) shown = shown.0
shown_text names (operand.Apart e) shown = shown.0 ++ shown.1 ∷ []

-- the text around the innermost parentheses that are open
abbrev Around : List (List ℕ) → List Pending → Type 0
Around names [] = Unit {0}
Around names (p ∷ outer) = Around names outer × Before names p × ((b : ℕ) × (sign_of b ≡ sign.Open))

abbrev around_text : (names : List (List ℕ)) (outer : List Pending) → Around names outer → List ℕ
around_text names [] around = []
around_text names (p ∷ outer) around = around_text names outer around.0 ++ (before_text around.1 ++ around.2.0 ∷ [])

-- a text is one of which this is read
record Shows (names : List (List ℕ)) (text : List ℕ) (o : Operand) (p : Pending) (outer : List Pending) : Type 0 where
  around : Around names outer
  before : Before names p
  shown : Shown names o
  whole : text ≡ around_text names outer around ++ (before_text before ++ shown_text names o shown)

abbrev ShowsReading : List (List ℕ) → List ℕ → Reading → Type 0
ShowsReading names text r = Shows names text r.operand r.pending r.outer

-- ---- what an operand completes

operand_spelled : (names : List (List ℕ)) (o : Operand) (shown : Shown names o) (v : Expr) → operand_in names o ≡ Some v → Spells names an_operand (shown_text names o shown) v
operand_spelled names operand.Due shown v is = absurd (none-some v is)
operand_spelled names (operand.Word bytes) shown v is = subst (λ e. Spells names an_operand bytes e) (same_Some (word_meaning names bytes) v is) (word bytes shown)
operand_spelled names (operand.Stands e) shown v is = subst (λ d. Spells names an_operand shown.0 d) (same_Some e v is) shown.1
operand_spelled names (operand.Apart e) shown v is = subst (λ d. Spells names an_operand (shown.0 ++ shown.1 ∷ []) d) (same_Some e v is) (before_blank an_operand (shown.0 ++ shown.1 ∷ []) shown.0 shown.1 e shown.2 shown.3 refl)

negation_of : (names : List (List ℕ)) (p : Pending) (before : Before names p) (text : List ℕ) (v : Expr) → Spells names an_operand text v → Spells names a_negation (before.denials ++ text) (negated p.negations v)
negation_of names p before text v h = before.negation text v (one_operand text v h)

chain_of : (names : List (List ℕ)) (p : Pending) (before : Before names p) (text : List ℕ) (v : Expr) → Spells names an_operand text v → Spells names a_chain (before.chains ++ (before.denials ++ text)) (chain_with p v)
chain_of names p before text v h = before.chain (before.denials ++ text) (negated p.negations v) (negation_of names p before text v h)

product_of : (names : List (List ℕ)) (p : Pending) (before : Before names p) (text : List ℕ) (v : Expr) → Spells names an_operand text v → Spells names a_product (before.products ++ (before.chains ++ (before.denials ++ text))) (product_with p v)
product_of names p before text v h =
    before.product (before.chains ++ (before.denials ++ text)) (chain_with p v) (chain_of names p before text v h)

sum_of : (names : List (List ℕ)) (p : Pending) (before : Before names p) (text : List ℕ) (v : Expr) → Spells names an_operand text v → Spells names a_sum (before.sums ++ (before.products ++ (before.chains ++ (before.denials ++ text)))) (sum_with p v)
sum_of names p before text v h =
    before.sum (before.products ++ (before.chains ++ (before.denials ++ text))) (product_with p v) (product_of names p before text v h)

-- ---- what stands before the next operand

abbrev nothing_before : (names : List (List ℕ)) → Before names nothing_open
nothing_before names = record {
  sums = [];
  products = [];
  chains = [];
  denials = [];
  sum = λ text e h. one_product text e h;
  product = λ text e h. one_chain text e h;
  chain = λ text e h. one_negation text e h;
  negation = λ text e h. h;
}

abbrev xor_before : (names : List (List ℕ)) (p : Pending) (before : Before names p) (text : List ℕ) (v : Expr) (b : ℕ) → Spells names an_operand text v → sign_of b ≡ sign.Xor → Before names (after_xor p v)
xor_before names p before text v b h is =
    let left = before.chains ++ (before.denials ++ text) in
    record {
      sums = before.sums;
      products = before.products;
      chains = left ++ b ∷ [];
      denials = [];
      sum = before.sum;
      product = before.product;
      chain = λ right e k. either ((left ++ b ∷ []) ++ right) left right b (chain_with p v) e (chain_of names p before text v h) is k (append_assoc left (b ∷ []) right);
      negation = λ right e k. k;
    }

abbrev and_before : (names : List (List ℕ)) (p : Pending) (before : Before names p) (text : List ℕ) (v : Expr) (b : ℕ) → Spells names an_operand text v → IsAnd b → Before names (after_and p v)
and_before names p before text v b h is =
    let left = before.products ++ (before.chains ++ (before.denials ++ text)) in
    record {
      sums = before.sums;
      products = left ++ b ∷ [];
      chains = [];
      denials = [];
      sum = before.sum;
      product = λ right e k. both ((left ++ b ∷ []) ++ right) left right b (product_with p v) e (product_of names p before text v h) is k (append_assoc left (b ∷ []) right);
      chain = λ right e k. one_negation right e k;
      negation = λ right e k. k;
    }

abbrev or_before : (names : List (List ℕ)) (p : Pending) (before : Before names p) (text : List ℕ) (v : Expr) (b : ℕ) → Spells names an_operand text v → sign_of b ≡ sign.Or → Before names (after_or p v)
or_before names p before text v b h is =
    let left = before.sums ++ (before.products ++ (before.chains ++ (before.denials ++ text))) in
    record {
      sums = left ++ b ∷ [];
      products = [];
      chains = [];
      denials = [];
      sum = λ right e k. some ((left ++ b ∷ []) ++ right) left right b (sum_with p v) e (sum_of names p before text v h) is k (append_assoc left (b ∷ []) right);
      product = λ right e k. one_chain right e k;
      chain = λ right e k. one_negation right e k;
      negation = λ right e k. k;
    }

abbrev not_before : (names : List (List ℕ)) (p : Pending) (before : Before names p) (b : ℕ) → sign_of b ≡ sign.Not → Before names (after_not p)
not_before names p before b is = record {
  sums = before.sums;
  products = before.products;
  chains = before.chains;
  denials = before.denials ++ b ∷ [];
  sum = before.sum;
  product = before.product;
  chain = before.chain;
  negation = λ text e h.
      subst (λ t. Spells names a_negation t (negated (p.negations ++ 33 ∷ []) e)) (sym (append_assoc before.denials (b ∷ []) text))
      (subst (λ d. Spells names a_negation (before.denials ++ b ∷ text) d) (sym (negated_more p.negations e))
      (before.negation (b ∷ text) (expr.Not e) (denied (b ∷ text) text b e is h refl)));
}

abbrev blank_before : (names : List (List ℕ)) (p : Pending) (before : Before names p) (b : ℕ) → sign_of b ≡ sign.Blank → Before names p
blank_before names p before b is = record {
  sums = before.sums;
  products = before.products;
  chains = before.chains;
  denials = before.denials ++ b ∷ [];
  sum = before.sum;
  product = before.product;
  chain = before.chain;
  negation = λ text e h.
      subst (λ t. Spells names a_negation t (negated p.negations e)) (sym (append_assoc before.denials (b ∷ []) text))
      (before.negation (b ∷ text) e (after_blank a_negation (b ∷ text) text b e is h refl));
}

-- ---- texts in other parts

regroup_xor : (a s p c d t : List ℕ) (b : ℕ) → (a ++ ((s ++ (p ++ (c ++ d))) ++ t)) ++ b ∷ [] ≡ a ++ ((s ++ (p ++ (((c ++ (d ++ t)) ++ b ∷ []) ++ []))) ++ [])
regroup_xor a s p c d t b = simp (append_assoc, append-nil)

regroup_and : (a s p c d t : List ℕ) (b : ℕ) → (a ++ ((s ++ (p ++ (c ++ d))) ++ t)) ++ b ∷ [] ≡ a ++ ((s ++ (((p ++ (c ++ (d ++ t))) ++ b ∷ []) ++ [])) ++ [])
regroup_and a s p c d t b = simp (append_assoc, append-nil)

regroup_or : (a s p c d t : List ℕ) (b : ℕ) → (a ++ ((s ++ (p ++ (c ++ d))) ++ t)) ++ b ∷ [] ≡ a ++ ((((s ++ (p ++ (c ++ (d ++ t)))) ++ b ∷ []) ++ []) ++ [])
regroup_or a s p c d t b = simp (append_assoc, append-nil)

regroup_denial : (a s p c d : List ℕ) (b : ℕ) → (a ++ ((s ++ (p ++ (c ++ d))) ++ [])) ++ b ∷ [] ≡ a ++ ((s ++ (p ++ (c ++ (d ++ b ∷ [])))) ++ [])
regroup_denial a s p c d b = simp (append_assoc, append-nil)

regroup_open : (a f : List ℕ) (b : ℕ) → (a ++ (f ++ [])) ++ b ∷ [] ≡ (a ++ (f ++ b ∷ [])) ++ []
regroup_open a f b = simp (append_assoc, append-nil)

regroup_close : (a f s p c d t : List ℕ) (o b : ℕ) → ((a ++ (f ++ o ∷ [])) ++ ((s ++ (p ++ (c ++ d))) ++ t)) ++ b ∷ [] ≡ a ++ (f ++ (o ∷ (s ++ (p ++ (c ++ (d ++ t)))) ++ b ∷ []))
regroup_close a f s p c d t o b = simp append_assoc

regroup_whole : (s p c d t : List ℕ) → (s ++ (p ++ (c ++ d))) ++ t ≡ s ++ (p ++ (c ++ (d ++ t)))
regroup_whole s p c d t = simp append_assoc

regroup_operand : (a f t : List ℕ) (b : ℕ) → (a ++ (f ++ t)) ++ b ∷ [] ≡ a ++ (f ++ (t ++ b ∷ []))
regroup_operand a f t b = simp append_assoc

-- ---- one byte

-- an operand that goes on to another one, with the same before it
goes_on : (names : List (List ℕ)) (text : List ℕ) (o : Operand) (p : Pending) (outer : List Pending) (b : ℕ) (h : Shows names text o p outer) (n : Operand) (shown : Shown names n) → shown_text names n shown ≡ shown_text names o h.shown ++ b ∷ [] → Shows names (text ++ b ∷ []) n p outer
goes_on names text o p outer b h n shown same = record {
  around = h.around;
  before = h.before;
  shown = shown;
  whole = ap (λ t. t ++ b ∷ []) h.whole
      ∙ (regroup_operand (around_text names outer h.around) (before_text h.before) (shown_text names o h.shown) b
      ∙ ap (λ t. around_text names outer h.around ++ (before_text h.before ++ t)) (sym same));
}

-- an operand that has ended, and an operator
xor_shows : (names : List (List ℕ)) (text : List ℕ) (o : Operand) (p : Pending) (outer : List Pending) (b : ℕ) (v : Expr) → Shows names text o p outer → operand_in names o ≡ Some v → sign_of b ≡ sign.Xor → Shows names (text ++ b ∷ []) operand.Due (after_xor p v) outer
xor_shows names text o p outer b v h stands is = record {
  around = h.around;
  before = xor_before names p h.before (shown_text names o h.shown) v b (operand_spelled names o h.shown v stands) is;
  shown = tt;
  whole = ap (λ t. t ++ b ∷ []) h.whole ∙ regroup_xor (around_text names outer h.around) h.before.sums h.before.products h.before.chains h.before.denials (shown_text names o h.shown) b;
}

and_shows : (names : List (List ℕ)) (text : List ℕ) (o : Operand) (p : Pending) (outer : List Pending) (b : ℕ) (v : Expr) → Shows names text o p outer → operand_in names o ≡ Some v → IsAnd b → Shows names (text ++ b ∷ []) operand.Due (after_and p v) outer
and_shows names text o p outer b v h stands is = record {
  around = h.around;
  before = and_before names p h.before (shown_text names o h.shown) v b (operand_spelled names o h.shown v stands) is;
  shown = tt;
  whole = ap (λ t. t ++ b ∷ []) h.whole ∙ regroup_and (around_text names outer h.around) h.before.sums h.before.products h.before.chains h.before.denials (shown_text names o h.shown) b;
}

or_shows : (names : List (List ℕ)) (text : List ℕ) (o : Operand) (p : Pending) (outer : List Pending) (b : ℕ) (v : Expr) → Shows names text o p outer → operand_in names o ≡ Some v → sign_of b ≡ sign.Or → Shows names (text ++ b ∷ []) operand.Due (after_or p v) outer
or_shows names text o p outer b v h stands is = record {
  around = h.around;
  before = or_before names p h.before (shown_text names o h.shown) v b (operand_spelled names o h.shown v stands) is;
  shown = tt;
  whole = ap (λ t. t ++ b ∷ []) h.whole ∙ regroup_or (around_text names outer h.around) h.before.sums h.before.products h.before.chains h.before.denials (shown_text names o h.shown) b;
}

-- where an operand may begin, one is due there, after an and where blanks stand
begins_shows : (names : List (List ℕ)) (text : List ℕ) (o : Operand) (p : Pending) (outer : List Pending) (s : Reading) → Shows names text o p outer → begins o p outer ≡ Some s → (q : Pending) × (s ≡ record { operand = operand.Due; pending = q; outer = outer }) × Shows names text operand.Due q outer
begins_shows names text operand.Due p outer s h is = (p, sym (same_Some (record { operand = operand.Due; pending = p; outer = outer }) s is), h)
begins_shows names text (operand.Word w) p outer s h is = absurd (none-some s is)
begins_shows names text (operand.Stands e) p outer s h is = absurd (none-some s is)
begins_shows names text (operand.Apart e) p outer s h is =
    let plain : Shows names (around_text names outer h.around ++ (before_text h.before ++ h.shown.0)) (operand.Stands e) p outer = record { around = h.around; before = h.before; shown = (h.shown.0, h.shown.2); whole = refl } in
    let k = and_shows names (around_text names outer h.around ++ (before_text h.before ++ h.shown.0)) (operand.Stands e) p outer h.shown.1 e plain refl (inr h.shown.3) in (
      after_and p e,
      sym (same_Some (record { operand = operand.Due; pending = after_and p e; outer = outer }) s is),
      subst (λ t. Shows names t operand.Due (after_and p e) outer) (regroup_operand (around_text names outer h.around) (before_text h.before) h.shown.0 h.shown.1 ∙ sym h.whole) k,
    )

word_shows : (names : List (List ℕ)) (text : List ℕ) (p : Pending) (outer : List Pending) (b : ℕ) → Shows names text operand.Due p outer → sign_of b ≡ sign.Letter → Shows names (text ++ b ∷ []) (operand.Word (b ∷ [])) p outer
word_shows names text p outer b h is = goes_on names text operand.Due p outer b h (operand.Word (b ∷ [])) (is, tt) refl

letters_more : (bytes : List ℕ) (b : ℕ) → AreLetters bytes → sign_of b ≡ sign.Letter → AreLetters (bytes ++ b ∷ [])
letters_more [] b all is = (is, tt)
letters_more (c ∷ bytes) b all is = (all.0, letters_more bytes b all.1 is)

word_more : (bytes : List ℕ) (b : ℕ) → IsWord bytes → sign_of b ≡ sign.Letter → IsWord (bytes ++ b ∷ [])
word_more [] b all is = absurd all
word_more (c ∷ bytes) b all is = letters_more (c ∷ bytes) b all is

letter_begins : (names : List (List ℕ)) (text : List ℕ) (o : Operand) (p : Pending) (outer : List Pending) (b : ℕ) (s : Reading) → Shows names text o p outer → sign_of b ≡ sign.Letter → option_map (word_from b) (begins o p outer) ≡ Some s → ShowsReading names (text ++ b ∷ []) s
letter_begins names text o p outer b s h is by =
    let m = mapped (word_from b) (begins o p outer) s by in
    let k = begins_shows names text o p outer m.0 h m.1 in
    subst (λ r. ShowsReading names (text ++ b ∷ []) r) (ap (word_from b) (sym k.1) ∙ m.2) (word_shows names text k.0 outer b k.2 is)

letter_shows : (names : List (List ℕ)) (text : List ℕ) (o : Operand) (p : Pending) (outer : List Pending) (b : ℕ) (s : Reading) → Shows names text o p outer → sign_of b ≡ sign.Letter → with_letter b o p outer ≡ Some s → ShowsReading names (text ++ b ∷ []) s
letter_shows names text operand.Due p outer b s h is by = letter_begins names text operand.Due p outer b s h is by
letter_shows names text (operand.Apart e) p outer b s h is by = letter_begins names text (operand.Apart e) p outer b s h is by
letter_shows names text (operand.Stands e) p outer b s h is by = absurd (none-some s by)
letter_shows names text (operand.Word w) p outer b s h is by =
    subst (λ r. ShowsReading names (text ++ b ∷ []) r) (same_Some (record { operand = operand.Word (w ++ b ∷ []); pending = p; outer = outer }) s by)
    (goes_on names text (operand.Word w) p outer b h (operand.Word (w ++ b ∷ [])) (word_more w b h.shown is) refl)

due_blank : (names : List (List ℕ)) (text : List ℕ) (p : Pending) (outer : List Pending) (b : ℕ) → Shows names text operand.Due p outer → sign_of b ≡ sign.Blank → Shows names (text ++ b ∷ []) operand.Due p outer
due_blank names text p outer b h is = record {
  around = h.around;
  before = blank_before names p h.before b is;
  shown = tt;
  whole = ap (λ t. t ++ b ∷ []) h.whole ∙ regroup_denial (around_text names outer h.around) h.before.sums h.before.products h.before.chains h.before.denials b;
}

operand_blank : (names : List (List ℕ)) (text : List ℕ) (o : Operand) (p : Pending) (outer : List Pending) (b : ℕ) (v : Expr) → Shows names text o p outer → operand_in names o ≡ Some v → sign_of b ≡ sign.Blank → Shows names (text ++ b ∷ []) (operand.Apart v) p outer
operand_blank names text o p outer b v h stands is =
    goes_on names text o p outer b h (operand.Apart v) (shown_text names o h.shown, b, operand_spelled names o h.shown v stands, is) refl

blank_shows : (names : List (List ℕ)) (text : List ℕ) (o : Operand) (p : Pending) (outer : List Pending) (b : ℕ) → Shows names text o p outer → sign_of b ≡ sign.Blank → Shows names (text ++ b ∷ []) (apart (operand_in names o)) p outer
blank_shows names text operand.Due p outer b h is = due_blank names text p outer b h is
blank_shows names text (operand.Word w) p outer b h is = operand_blank names text (operand.Word w) p outer b (word_meaning names w) h refl is
blank_shows names text (operand.Stands e) p outer b h is = operand_blank names text (operand.Stands e) p outer b e h refl is
blank_shows names text (operand.Apart e) p outer b h is = operand_blank names text (operand.Apart e) p outer b e h refl is

open_shows : (names : List (List ℕ)) (text : List ℕ) (p : Pending) (outer : List Pending) (b : ℕ) → Shows names text operand.Due p outer → sign_of b ≡ sign.Open → Shows names (text ++ b ∷ []) operand.Due nothing_open (p ∷ outer)
open_shows names text p outer b h is = record {
  around = (h.around, h.before, (b, is));
  before = nothing_before names;
  shown = tt;
  whole = ap (λ t. t ++ b ∷ []) h.whole ∙ regroup_open (around_text names outer h.around) (before_text h.before) b;
}

not_shows : (names : List (List ℕ)) (text : List ℕ) (p : Pending) (outer : List Pending) (b : ℕ) → Shows names text operand.Due p outer → sign_of b ≡ sign.Not → Shows names (text ++ b ∷ []) operand.Due (after_not p) outer
not_shows names text p outer b h is = record {
  around = h.around;
  before = not_before names p h.before b is;
  shown = tt;
  whole = ap (λ t. t ++ b ∷ []) h.whole ∙ regroup_denial (around_text names outer h.around) h.before.sums h.before.products h.before.chains h.before.denials b;
}

prime_shows : (names : List (List ℕ)) (text : List ℕ) (o : Operand) (p : Pending) (outer : List Pending) (b : ℕ) (v : Expr) → Shows names text o p outer → operand_in names o ≡ Some v → sign_of b ≡ sign.Prime → Shows names (text ++ b ∷ []) (operand.Stands (expr.Not v)) p outer
prime_shows names text o p outer b v h stands is =
    goes_on names text o p outer b h (operand.Stands (expr.Not v))
    (shown_text names o h.shown ++ b ∷ [], primed (shown_text names o h.shown ++ b ∷ []) (shown_text names o h.shown) b v (operand_spelled names o h.shown v stands) is refl) refl

close_shows : (names : List (List ℕ)) (text : List ℕ) (o : Operand) (p : Pending) (outer : List Pending) (b : ℕ) (v : Expr) (s : Reading) → Shows names text o p outer → operand_in names o ≡ Some v → sign_of b ≡ sign.Close → closed p outer v ≡ Some s → ShowsReading names (text ++ b ∷ []) s
close_shows names text o p [] b v s h stands is by = absurd (none-some s by)
close_shows names text o p (q ∷ outer) b v s h stands is by =
    let inner = h.before.sums ++ (h.before.products ++ (h.before.chains ++ (h.before.denials ++ shown_text names o h.shown))) in
    let shows : Shows names (text ++ b ∷ []) (operand.Stands (sum_with p v)) q outer = record {
      around = h.around.0;
      before = h.around.1;
      shown = (h.around.2.0 ∷ inner ++ b ∷ [], enclosed (h.around.2.0 ∷ inner ++ b ∷ []) inner h.around.2.0 b (sum_with p v) h.around.2.1 (sum_of names p h.before (shown_text names o h.shown) v (operand_spelled names o h.shown v stands)) is refl);
      whole = ap (λ t. t ++ b ∷ []) h.whole ∙ regroup_close (around_text names outer h.around.0) (before_text h.around.1) h.before.sums h.before.products h.before.chains h.before.denials (shown_text names o h.shown) h.around.2.0 b;
    } in
    subst (λ r. ShowsReading names (text ++ b ∷ []) r) (same_Some (record { operand = operand.Stands (sum_with p v); pending = q; outer = outer }) s by) shows

step_shows : (names : List (List ℕ)) (text : List ℕ) (o : Operand) (p : Pending) (outer : List Pending) (kind : Sign) (b : ℕ) (s : Reading) → Shows names text o p outer → sign_of b ≡ kind → step names (record { operand = o; pending = p; outer = outer }) kind b ≡ Some s → ShowsReading names (text ++ b ∷ []) s
step_shows names text o p outer sign.Letter b s h is by = letter_shows names text o p outer b s h is by
step_shows names text o p outer sign.Blank b s h is by =
    subst (λ r. ShowsReading names (text ++ b ∷ []) r) (same_Some (record { operand = apart (operand_in names o); pending = p; outer = outer }) s by) (blank_shows names text o p outer b h is)
step_shows names text o p outer sign.Open b s h is by =
    let m = mapped opened (begins o p outer) s by in
    let k = begins_shows names text o p outer m.0 h m.1 in
    subst (λ r. ShowsReading names (text ++ b ∷ []) r) (ap opened (sym k.1) ∙ m.2) (open_shows names text k.0 outer b k.2 is)
step_shows names text o p outer sign.Not b s h is by =
    let m = mapped reading.denied (begins o p outer) s by in
    let k = begins_shows names text o p outer m.0 h m.1 in
    subst (λ r. ShowsReading names (text ++ b ∷ []) r) (ap reading.denied (sym k.1) ∙ m.2) (not_shows names text k.0 outer b k.2 is)
step_shows names text o p outer sign.Close b s h is by =
    let m = bound (closed p outer) (operand_in names o) s by in
    close_shows names text o p outer b m.0 s h m.1 is m.2
step_shows names text o p outer sign.Prime b s h is by =
    let m = mapped (reading.primed p outer) (operand_in names o) s by in
    subst (λ r. ShowsReading names (text ++ b ∷ []) r) m.2 (prime_shows names text o p outer b m.0 h m.1 is)
step_shows names text o p outer sign.Xor b s h is by =
    let m = mapped (after after_xor p outer) (operand_in names o) s by in
    subst (λ r. ShowsReading names (text ++ b ∷ []) r) m.2 (xor_shows names text o p outer b m.0 h m.1 is)
step_shows names text o p outer sign.And b s h is by =
    let m = mapped (after after_and p outer) (operand_in names o) s by in
    subst (λ r. ShowsReading names (text ++ b ∷ []) r) m.2 (and_shows names text o p outer b m.0 h m.1 (inl is))
step_shows names text o p outer sign.Or b s h is by =
    let m = mapped (after after_or p outer) (operand_in names o) s by in
    subst (λ r. ShowsReading names (text ++ b ∷ []) r) m.2 (or_shows names text o p outer b m.0 h m.1 is)

-- ---- a text, and a whole text

steps_show : (names : List (List ℕ)) (bytes text : List ℕ) (r s : Reading) → ShowsReading names text r → steps names bytes r ≡ Some s → ShowsReading names (text ++ bytes) s
steps_show names [] text r s h by = subst (λ t. ShowsReading names t s) (sym (append-nil text)) (subst (λ x. ShowsReading names text x) (same_Some r s by) h)
steps_show names (b ∷ bytes) text r s h by =
    let m = bound (steps names bytes) (step names r (sign_of b) b) s by in
    let k = step_shows names text r.operand r.pending r.outer (sign_of b) b m.0 h refl m.1 in
    subst (λ t. ShowsReading names t s) (append_assoc text (b ∷ []) bytes) (steps_show names bytes (text ++ b ∷ []) m.0 s k m.2)

whole_spelled : (names : List (List ℕ)) (text : List ℕ) (o : Operand) (p : Pending) (outer : List Pending) (v e : Expr) → Shows names text o p outer → operand_in names o ≡ Some v → whole p outer v ≡ Some e → Spells names a_sum text e
whole_spelled names text o p [] v e h stands by =
    subst (λ t. Spells names a_sum t e) (sym (h.whole ∙ regroup_whole h.before.sums h.before.products h.before.chains h.before.denials (shown_text names o h.shown)))
    (subst (λ x. Spells names a_sum (h.before.sums ++ (h.before.products ++ (h.before.chains ++ (h.before.denials ++ shown_text names o h.shown)))) x) (same_Some (sum_with p v) e by)
    (sum_of names p h.before (shown_text names o h.shown) v (operand_spelled names o h.shown v stands)))
whole_spelled names text o p (q ∷ outer) v e h stands by = absurd (none-some e by)

pub read_is_spelled : (names : List (List ℕ)) (text : List ℕ) (e : Expr) → expression names text ≡ Some e → Spells names a_sum text e
read_is_spelled names text e by =
    let m = bound (ended names) (steps names text nothing_read) e by in
    let start : ShowsReading names [] nothing_read = record { around = tt; before = nothing_before names; shown = tt; whole = refl } in
    let k = steps_show names text [] nothing_read m.0 start m.1 in
    let last = bound (whole m.0.pending m.0.outer) (operand_in names m.0.operand) e m.2 in
    whole_spelled names text m.0.operand m.0.pending m.0.outer last.0 e k last.1 last.2
