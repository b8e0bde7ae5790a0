-- What is spelled by the grammar of a function's text is read, byte by byte, as the expression that it spells.
use Rattle.std.proofs.Common.{◌≡◌, ℕ, List, [], ◌∷◌, ◌++◌, Option, Some, None, refl, sym, ap, subst, ◌∙◌, inl, inr}
use Rattle.std.specs.Prelude.{option_and_then, option_map}
use Rattle.std.proofs.lemmas.Option.{same_Some}
use Rattle.std.proofs.lemmas.List.{append_assoc, append-nil}
use Rattle.source_types.specs.declared.function_texts.Operand.{Operand}
use Rattle.source_types.specs.declared.function_texts.Operand.TheVariants as operand
use Rattle.source_types.specs.declared.function_texts.Pending.{Pending}
use Rattle.source_types.specs.declared.function_texts.Sign.{Sign}
use Rattle.source_types.specs.declared.function_texts.Sign.TheVariants as sign
use Rattle.pin_types.specs.declared.functions.Expr.{Expr}
use Rattle.pin_types.specs.declared.functions.Expr.TheVariants as expr
use Rattle.function_model.specs.FunctionText as reading
use Rattle.function_model.specs.FunctionText.{Reading, apart, after, after_and, after_not, after_or, after_xor, chain_with, closed, ended, expression, joined_and, joined_or, joined_xor, negated, nothing_open, nothing_read, operand_in, product_with, sign_of, step, steps, sum_with, whole, word_meaning}
use Rattle.function_model.specs.FunctionGrammar.{AreLetters, IsAnd, IsWord, Level, Spells, a_chain, a_negation, a_product, a_sum, an_operand, before_blank, after_blank, both, denied, either, enclosed, one_chain, one_negation, one_operand, one_product, primed, some, word}

-- what stands before an expression of a level where one begins
abbrev start : Level → Pending → Pending
start an_operand p = p
start a_negation p = p
start a_chain p = record { sum = p.sum; product = p.product; chain = None; negations = [] }
start a_product p = record { sum = p.sum; product = None; chain = None; negations = [] }
start a_sum p = nothing_open

-- an expression of a level began after `p`, and has been read up to an operand `v` after `q`
abbrev Means : Level → Pending → Pending → Expr → Expr → Type 0
Means an_operand p q v e = (q ≡ p) × (v ≡ e)
Means a_negation p q v e = (q.sum ≡ p.sum) × (q.product ≡ p.product) × (q.chain ≡ p.chain) × (negated q.negations v ≡ negated p.negations e)
Means a_chain p q v e = (q.sum ≡ p.sum) × (q.product ≡ p.product) × (chain_with q v ≡ e)
Means a_product p q v e = (q.sum ≡ p.sum) × (product_with q v ≡ e)
Means a_sum p q v e = sum_with q v ≡ e

abbrev at : Operand → Pending → List Pending → Reading
at o p outer = record { operand = o; pending = p; outer = outer }

-- a text is read from one place to another
abbrev Goes : List (List ℕ) → List ℕ → Reading → Reading → Type 0
Goes names text r s = (rest : List ℕ) → steps names (text ++ rest) r ≡ steps names rest s

-- an expression is read, up to an operand at its end
record Ends (names : List (List ℕ)) (level : Level) (text : List ℕ) (e : Expr) (p : Pending) (outer : List Pending) : Type 0 where
  last : Operand
  value : Expr
  before : Pending
  stands : operand_in names last ≡ Some value
  goes : Goes names text (at operand.Due p outer) (at last before outer)
  means : Means level p before value e

abbrev Reads : List (List ℕ) → Level → List ℕ → Expr → Type 0
Reads names level text e = (p : Pending) (outer : List Pending) → Ends names level text e (start level p) outer

-- one byte
one : (names : List (List ℕ)) (r s : Reading) (b : ℕ) (kind : Sign) → sign_of b ≡ kind → step names r kind b ≡ Some s → Goes names (b ∷ []) r s
one names r s b kind is goes rest = subst (λ k. option_and_then (steps names rest) (step names r k b) ≡ steps names rest s) (sym is) (ap (option_and_then (steps names rest)) goes)

-- a text and one after it
then : (names : List (List ℕ)) (r s t : Reading) (front back : List ℕ) → Goes names front r s → Goes names back s t → Goes names (front ++ back) r t
then names r s t front back one two rest =
    subst (λ x. steps names x r ≡ steps names rest t) (sym (append_assoc front back rest)) (one (back ++ rest) ∙ two rest)

letters : (names : List (List ℕ)) (front bytes : List ℕ) (p : Pending) (outer : List Pending) → AreLetters bytes → Goes names bytes (at (operand.Word front) p outer) (at (operand.Word (front ++ bytes)) p outer)
letters names front [] p outer all rest = ap (λ w. steps names rest (at (operand.Word w) p outer)) (sym (append-nil front))
letters names front (b ∷ bytes) p outer all rest =
    one names (at (operand.Word front) p outer) (at (operand.Word (front ++ b ∷ [])) p outer) b sign.Letter all.0 refl (bytes ++ rest)
    ∙ (letters names (front ++ b ∷ []) bytes p outer all.1 rest ∙ ap (λ w. steps names rest (at (operand.Word w) p outer)) (append_assoc front (b ∷ []) bytes))

-- a byte after an operand
after_operand : (names : List (List ℕ)) (o : Operand) (p : Pending) (outer : List Pending) (v : Expr) (b : ℕ) (kind : Sign) (s : Reading) (f : Option Expr → Option Reading) → sign_of b ≡ kind → operand_in names o ≡ Some v → step names (at o p outer) kind b ≡ f (operand_in names o) → f (Some v) ≡ Some s → Goes names (b ∷ []) (at o p outer) s
after_operand names o p outer v b kind s f is stands by gives =
    one names (at o p outer) s b kind is (by ∙ (ap f stands ∙ gives))

-- one `!` more before an operand
pub negated_more : (negations : List ℕ) (e : Expr) → negated (negations ++ 33 ∷ []) e ≡ negated negations (expr.Not e)
negated_more [] e = refl
negated_more (n ∷ negations) e = negated_more negations (expr.Not e)

-- ---- an expression after blanks: they mean and, as its first sign shows

-- a text is read after an operand and blanks as it is read after an and
abbrev Joins : List (List ℕ) → List ℕ → Type 0
Joins names text = (e : Expr) (p : Pending) (outer : List Pending) (rest : List ℕ) → steps names (text ++ rest) (at (operand.Apart e) p outer) ≡ steps names (text ++ rest) (at operand.Due (after_and p e) outer)

-- so it is with any text that begins so
joins_more : (names : List (List ℕ)) (front back : List ℕ) → Joins names front → Joins names (front ++ back)
joins_more names front back joins e p outer rest =
    subst (λ text. steps names text (at (operand.Apart e) p outer) ≡ steps names text (at operand.Due (after_and p e) outer)) (sym (append_assoc front back rest)) (joins e p outer (back ++ rest))

joins_at : (names : List (List ℕ)) (b : ℕ) (bytes : List ℕ) (kind : Sign) → sign_of b ≡ kind → ((e : Expr) (p : Pending) (outer : List Pending) → step names (at (operand.Apart e) p outer) kind b ≡ step names (at operand.Due (after_and p e) outer) kind b) → Joins names (b ∷ bytes)
joins_at names b bytes kind is same e p outer rest =
    subst (λ k. option_and_then (steps names (bytes ++ rest)) (step names (at (operand.Apart e) p outer) k b) ≡ option_and_then (steps names (bytes ++ rest)) (step names (at operand.Due (after_and p e) outer) k b)) (sym is)
    (ap (option_and_then (steps names (bytes ++ rest))) (same e p outer))

joins_word : (names : List (List ℕ)) (text : List ℕ) → IsWord text → Joins names text
joins_word names [] all = absurd all
joins_word names (b ∷ bytes) all = joins_at names b bytes sign.Letter all.0 (λ e p outer. refl)

joins_blank : (names : List (List ℕ)) (b : ℕ) (inner : List ℕ) → sign_of b ≡ sign.Blank → Joins names inner → Joins names (b ∷ inner)
joins_blank names b inner is joins e p outer rest =
    one names (at (operand.Apart e) p outer) (at (operand.Apart e) p outer) b sign.Blank is refl (inner ++ rest)
    ∙ (joins e p outer rest ∙ sym (one names (at operand.Due (after_and p e) outer) (at operand.Due (after_and p e) outer) b sign.Blank is refl (inner ++ rest)))

joins_text : (names : List (List ℕ)) (text other : List ℕ) → text ≡ other → Joins names other → Joins names text
joins_text names text other same joins = subst (λ t. Joins names t) (sym same) joins

joins : (names : List (List ℕ)) (level : Level) (text : List ℕ) (e : Expr) → Spells names level text e → Joins names text
joins names level text e (word t all) = joins_word names t all
joins names level text e (enclosed t inner b c d opens h closes same) = joins_text names t (b ∷ inner ++ c ∷ []) same (joins_at names b (inner ++ c ∷ []) sign.Open opens (λ x p outer. refl))
joins names level text e (primed t inner b d h is same) = joins_text names t (inner ++ b ∷ []) same (joins_more names inner (b ∷ []) (joins names an_operand inner d h))
joins names level text e (one_operand t d h) = joins names an_operand t d h
joins names level text e (denied t inner b d is h same) = joins_text names t (b ∷ inner) same (joins_at names b inner sign.Not is (λ x p outer. refl))
joins names level text e (one_negation t d h) = joins names a_negation t d h
joins names level text e (either t left right b d f h is k same) = joins_text names t (left ++ b ∷ right) same (joins_more names left (b ∷ right) (joins names a_chain left d h))
joins names level text e (one_chain t d h) = joins names a_chain t d h
joins names level text e (both t left right b d f h is k same) = joins_text names t (left ++ b ∷ right) same (joins_more names left (b ∷ right) (joins names a_product left d h))
joins names level text e (one_product t d h) = joins names a_product t d h
joins names level text e (some t left right b d f h is k same) = joins_text names t (left ++ b ∷ right) same (joins_more names left (b ∷ right) (joins names a_sum left d h))
joins names level text e (after_blank l t inner b d is h same) = joins_text names t (b ∷ inner) same (joins_blank names b inner is (joins names l inner d h))
joins names level text e (before_blank l t inner b d h is same) = joins_text names t (inner ++ b ∷ []) same (joins_more names inner (b ∷ []) (joins names l inner d h))

-- ---- each rule

read_word : (names : List (List ℕ)) (text : List ℕ) → IsWord text → Reads names an_operand text (word_meaning names text)
read_word names [] all p outer = absurd all
read_word names (b ∷ bytes) all p outer = record {
  last = operand.Word (b ∷ bytes);
  value = word_meaning names (b ∷ bytes);
  before = p;
  stands = refl;
  goes = then names (at operand.Due p outer) (at (operand.Word (b ∷ [])) p outer) (at (operand.Word (b ∷ bytes)) p outer) (b ∷ []) bytes
      (one names (at operand.Due p outer) (at (operand.Word (b ∷ [])) p outer) b sign.Letter all.0 refl)
      (letters names (b ∷ []) bytes p outer all.1);
  means = (refl, refl);
}

read_enclosed : (names : List (List ℕ)) (inner : List ℕ) (b c : ℕ) (e : Expr) → sign_of b ≡ sign.Open → Reads names a_sum inner e → sign_of c ≡ sign.Close → Reads names an_operand (b ∷ inner ++ c ∷ []) e
read_enclosed names inner b c e opens h closes p outer =
    let k = h p (p ∷ outer) in
    record {
      last = operand.Stands (sum_with k.before k.value);
      value = sum_with k.before k.value;
      before = p;
      stands = refl;
      goes = then names (at operand.Due p outer) (at operand.Due nothing_open (p ∷ outer)) (at (operand.Stands (sum_with k.before k.value)) p outer) (b ∷ []) (inner ++ c ∷ [])
          (one names (at operand.Due p outer) (at operand.Due nothing_open (p ∷ outer)) b sign.Open opens refl)
          (then names (at operand.Due nothing_open (p ∷ outer)) (at k.last k.before (p ∷ outer)) (at (operand.Stands (sum_with k.before k.value)) p outer) inner (c ∷ []) k.goes
          (after_operand names k.last k.before (p ∷ outer) k.value c sign.Close (at (operand.Stands (sum_with k.before k.value)) p outer) (option_and_then (closed k.before (p ∷ outer))) closes k.stands refl refl));
      means = (refl, k.means);
    }

read_primed : (names : List (List ℕ)) (inner : List ℕ) (b : ℕ) (e : Expr) → Reads names an_operand inner e → sign_of b ≡ sign.Prime → Reads names an_operand (inner ++ b ∷ []) (expr.Not e)
read_primed names inner b e h is p outer =
    let k = h p outer in
    record {
      last = operand.Stands (expr.Not k.value);
      value = expr.Not k.value;
      before = k.before;
      stands = refl;
      goes = then names (at operand.Due p outer) (at k.last k.before outer) (at (operand.Stands (expr.Not k.value)) k.before outer) inner (b ∷ []) k.goes
          (after_operand names k.last k.before outer k.value b sign.Prime (at (operand.Stands (expr.Not k.value)) k.before outer) (option_map (reading.primed k.before outer)) is k.stands refl refl);
      means = (k.means.0, ap (λ x. expr.Not x) k.means.1);
    }

-- the same reading, of which less is said
read_as : (names : List (List ℕ)) (l m : Level) (text : List ℕ) (d e : Expr) (p q : Pending) (outer : List Pending) → (h : Ends names l text d p outer) → p ≡ q → Means m q h.before h.value e → Ends names m text e q outer
read_as names l m text d e p q outer h same means = record {
  last = h.last;
  value = h.value;
  before = h.before;
  stands = h.stands;
  goes = subst (λ x. Goes names text (at operand.Due x outer) (at h.last h.before outer)) same h.goes;
  means = means;
}

read_operand : (names : List (List ℕ)) (text : List ℕ) (e : Expr) → Reads names an_operand text e → Reads names a_negation text e
read_operand names text e h p outer =
    let k = h p outer in
    read_as names an_operand a_negation text e e p p outer k refl
    (ap (λ (x : Pending). x.sum) k.means.0, ap (λ (x : Pending). x.product) k.means.0, ap (λ (x : Pending). x.chain) k.means.0, ap (λ (x : Pending). negated x.negations k.value) k.means.0 ∙ ap (negated p.negations) k.means.1)

read_denied : (names : List (List ℕ)) (inner : List ℕ) (b : ℕ) (e : Expr) → sign_of b ≡ sign.Not → Reads names a_negation inner e → Reads names a_negation (b ∷ inner) (expr.Not e)
read_denied names inner b e is h p outer =
    let k = h (after_not p) outer in
    record {
      last = k.last;
      value = k.value;
      before = k.before;
      stands = k.stands;
      goes = then names (at operand.Due p outer) (at operand.Due (after_not p) outer) (at k.last k.before outer) (b ∷ []) inner
          (one names (at operand.Due p outer) (at operand.Due (after_not p) outer) b sign.Not is refl) k.goes;
      means = (k.means.0, k.means.1, k.means.2, k.means.3 ∙ negated_more p.negations e);
    }

read_negation : (names : List (List ℕ)) (text : List ℕ) (e : Expr) → Reads names a_negation text e → Reads names a_chain text e
read_negation names text e h p outer =
    let k = h (start a_chain p) outer in
    read_as names a_negation a_chain text e e (start a_chain p) (start a_chain p) outer k refl
    (k.means.0, k.means.1, ap (λ c. joined_xor c (negated k.before.negations k.value)) k.means.2 ∙ k.means.3)

read_chain : (names : List (List ℕ)) (text : List ℕ) (e : Expr) → Reads names a_chain text e → Reads names a_product text e
read_chain names text e h p outer =
    let k = h (start a_product p) outer in
    read_as names a_chain a_product text e e (start a_product p) (start a_product p) outer k refl
    (k.means.0, ap (λ c. joined_and c (chain_with k.before k.value)) k.means.1 ∙ k.means.2)

read_product : (names : List (List ℕ)) (text : List ℕ) (e : Expr) → Reads names a_product text e → Reads names a_sum text e
read_product names text e h p outer =
    let k = h nothing_open outer in
    read_as names a_product a_sum text e e nothing_open nothing_open outer k refl
    (ap (λ c. joined_or c (product_with k.before k.value)) k.means.0 ∙ k.means.1)

-- ---- an operator between two sides

read_either : (names : List (List ℕ)) (left right : List ℕ) (b : ℕ) (d e : Expr) → Reads names a_chain left d → sign_of b ≡ sign.Xor → Reads names a_negation right e → Reads names a_chain (left ++ b ∷ right) (expr.Xor d e)
read_either names left right b d e h is k p outer =
    let f = h p outer in
    let q = after_xor f.before f.value in
    let r = k q outer in
    record {
      last = r.last;
      value = r.value;
      before = r.before;
      stands = r.stands;
      goes = then names (at operand.Due (start a_chain p) outer) (at f.last f.before outer) (at r.last r.before outer) left (b ∷ right) f.goes
          (then names (at f.last f.before outer) (at operand.Due q outer) (at r.last r.before outer) (b ∷ []) right
          (after_operand names f.last f.before outer f.value b sign.Xor (at operand.Due q outer) (option_map (after after_xor f.before outer)) is f.stands refl refl)
          r.goes);
      means = (r.means.0 ∙ f.means.0, r.means.1 ∙ f.means.1, ap (λ c. joined_xor c (negated r.before.negations r.value)) r.means.2 ∙ (ap (λ x. expr.Xor (chain_with f.before f.value) x) r.means.3 ∙ ap (λ x. expr.Xor x e) f.means.2));
    }

-- after an operand, a text goes on after `*`, `&` or a blank as after an and
and_goes : (names : List (List ℕ)) (o : Operand) (p : Pending) (outer : List Pending) (v : Expr) (b : ℕ) (right : List ℕ) (s : Reading) → operand_in names o ≡ Some v → IsAnd b → Joins names right → Goes names right (at operand.Due (after_and p v) outer) s → Goes names (b ∷ right) (at o p outer) s
and_goes names o p outer v b right s stands (inl is) joins goes =
    then names (at o p outer) (at operand.Due (after_and p v) outer) s (b ∷ []) right
    (after_operand names o p outer v b sign.And (at operand.Due (after_and p v) outer) (option_map (after after_and p outer)) is stands refl refl) goes
and_goes names o p outer v b right s stands (inr is) joins goes =
    then names (at o p outer) (at (operand.Apart v) p outer) s (b ∷ []) right
    (after_operand names o p outer v b sign.Blank (at (operand.Apart v) p outer) (λ x. Some (at (apart x) p outer)) is stands refl refl)
    (λ rest. joins v p outer rest ∙ goes rest)

read_both : (names : List (List ℕ)) (left right : List ℕ) (b : ℕ) (d e : Expr) → Reads names a_product left d → IsAnd b → Joins names right → Reads names a_chain right e → Reads names a_product (left ++ b ∷ right) (expr.And d e)
read_both names left right b d e h is joins k p outer =
    let f = h p outer in
    let q = after_and f.before f.value in
    let r = k q outer in
    record {
      last = r.last;
      value = r.value;
      before = r.before;
      stands = r.stands;
      goes = then names (at operand.Due (start a_product p) outer) (at f.last f.before outer) (at r.last r.before outer) left (b ∷ right) f.goes
          (and_goes names f.last f.before outer f.value b right (at r.last r.before outer) f.stands is joins r.goes);
      means = (r.means.0 ∙ f.means.0, ap (λ c. joined_and c (chain_with r.before r.value)) r.means.1 ∙ (ap (λ x. expr.And (product_with f.before f.value) x) r.means.2 ∙ ap (λ x. expr.And x e) f.means.1));
    }

read_some : (names : List (List ℕ)) (left right : List ℕ) (b : ℕ) (d e : Expr) → Reads names a_sum left d → sign_of b ≡ sign.Or → Reads names a_product right e → Reads names a_sum (left ++ b ∷ right) (expr.Or d e)
read_some names left right b d e h is k p outer =
    let f = h p outer in
    let q = after_or f.before f.value in
    let r = k q outer in
    record {
      last = r.last;
      value = r.value;
      before = r.before;
      stands = r.stands;
      goes = then names (at operand.Due nothing_open outer) (at f.last f.before outer) (at r.last r.before outer) left (b ∷ right) f.goes
          (then names (at f.last f.before outer) (at operand.Due q outer) (at r.last r.before outer) (b ∷ []) right
          (after_operand names f.last f.before outer f.value b sign.Or (at operand.Due q outer) (option_map (after after_or f.before outer)) is f.stands refl refl)
          r.goes);
      means = ap (λ c. joined_or c (product_with r.before r.value)) r.means.0 ∙ (ap (λ x. expr.Or (sum_with f.before f.value) x) r.means.1 ∙ ap (λ x. expr.Or x e) f.means);
    }

read_after_blank : (names : List (List ℕ)) (level : Level) (inner : List ℕ) (b : ℕ) (e : Expr) → sign_of b ≡ sign.Blank → Reads names level inner e → Reads names level (b ∷ inner) e
read_after_blank names level inner b e is h p outer =
    let k = h p outer in
    record {
      last = k.last;
      value = k.value;
      before = k.before;
      stands = k.stands;
      goes = then names (at operand.Due (start level p) outer) (at operand.Due (start level p) outer) (at k.last k.before outer) (b ∷ []) inner
          (one names (at operand.Due (start level p) outer) (at operand.Due (start level p) outer) b sign.Blank is refl) k.goes;
      means = k.means;
    }

read_before_blank : (names : List (List ℕ)) (level : Level) (inner : List ℕ) (b : ℕ) (e : Expr) → Reads names level inner e → sign_of b ≡ sign.Blank → Reads names level (inner ++ b ∷ []) e
read_before_blank names level inner b e h is p outer =
    let k = h p outer in
    record {
      last = operand.Apart k.value;
      value = k.value;
      before = k.before;
      stands = refl;
      goes = then names (at operand.Due (start level p) outer) (at k.last k.before outer) (at (operand.Apart k.value) k.before outer) inner (b ∷ []) k.goes
          (after_operand names k.last k.before outer k.value b sign.Blank (at (operand.Apart k.value) k.before outer) (λ x. Some (at (apart x) k.before outer)) is k.stands refl refl);
      means = k.means;
    }

-- ---- any expression, and a whole text

read_text : (names : List (List ℕ)) (level : Level) (text other : List ℕ) (e : Expr) → text ≡ other → Reads names level other e → Reads names level text e
read_text names level text other e same reads = subst (λ t. Reads names level t e) (sym same) reads

reads : (names : List (List ℕ)) (level : Level) (text : List ℕ) (e : Expr) → Spells names level text e → Reads names level text e
reads names level text e (word t all) = read_word names t all
reads names level text e (enclosed t inner b c d opens h closes same) = read_text names an_operand t (b ∷ inner ++ c ∷ []) d same (read_enclosed names inner b c d opens (reads names a_sum inner d h) closes)
reads names level text e (primed t inner b d h is same) = read_text names an_operand t (inner ++ b ∷ []) (expr.Not d) same (read_primed names inner b d (reads names an_operand inner d h) is)
reads names level text e (one_operand t d h) = read_operand names t d (reads names an_operand t d h)
reads names level text e (denied t inner b d is h same) = read_text names a_negation t (b ∷ inner) (expr.Not d) same (read_denied names inner b d is (reads names a_negation inner d h))
reads names level text e (one_negation t d h) = read_negation names t d (reads names a_negation t d h)
reads names level text e (either t left right b d f h is k same) = read_text names a_chain t (left ++ b ∷ right) (expr.Xor d f) same (read_either names left right b d f (reads names a_chain left d h) is (reads names a_negation right f k))
reads names level text e (one_chain t d h) = read_chain names t d (reads names a_chain t d h)
reads names level text e (both t left right b d f h is k same) = read_text names a_product t (left ++ b ∷ right) (expr.And d f) same (read_both names left right b d f (reads names a_product left d h) is (joins names a_chain right f k) (reads names a_chain right f k))
reads names level text e (one_product t d h) = read_product names t d (reads names a_product t d h)
reads names level text e (some t left right b d f h is k same) = read_text names a_sum t (left ++ b ∷ right) (expr.Or d f) same (read_some names left right b d f (reads names a_sum left d h) is (reads names a_product right f k))
reads names level text e (after_blank l t inner b d is h same) = read_text names l t (b ∷ inner) d same (read_after_blank names l inner b d is (reads names l inner d h))
reads names level text e (before_blank l t inner b d h is same) = read_text names l t (inner ++ b ∷ []) d same (read_before_blank names l inner b d (reads names l inner d h) is)

pub spelled_is_read : (names : List (List ℕ)) (text : List ℕ) (e : Expr) → Spells names a_sum text e → expression names text ≡ Some e
spelled_is_read names text e h =
    let k = reads names a_sum text e h nothing_open [] in
    let all : steps names text nothing_read ≡ Some (at k.last k.before []) = subst (λ t. steps names t nothing_read ≡ Some (at k.last k.before [])) (append-nil text) (k.goes []) in
    ap (option_and_then (ended names)) all ∙ (ap (option_and_then (whole k.before [])) k.stands ∙ ap (λ x. Some x) k.means)

pub spells_one : (names : List (List ℕ)) (text : List ℕ) (d e : Expr) → Spells names a_sum text d → Spells names a_sum text e → d ≡ e
spells_one names text d e h k = same_Some d e (sym (spelled_is_read names text d h) ∙ spelled_is_read names text e k)
