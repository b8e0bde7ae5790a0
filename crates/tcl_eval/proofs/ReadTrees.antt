-- The tokens of a tree that is grouped are read as its steps.
use Rattle.std.proofs.Common.{◌≡◌, ◌<◌, ◌≤◌, ◌+◌, ◌-◌, ◌++◌, ℕ, suc, max, true, false, List, [], ◌∷◌, Some, nat_le, refl, sym, ap, ◌∙◌, arith, append_assoc}
use Rattle.std.proofs.lemmas.Bool.Decides.{nat_tests}
use Rattle.std.proofs.lemmas.List.{append-nil}
use Rattle.std.specs.Prelude.{option_and_then}
use Rattle.source_types.specs.declared.expressions.BinaryOperator.{BinaryOperator}
use Rattle.source_types.specs.declared.expressions.BinaryOperator.TheVariants.{Add, And, Divide, Equal, Greater, GreaterEqual, Less, LessEqual, Multiply, NotEqual, Or, Remainder, Subtract, TextEqual, TextNotEqual}
use Rattle.source_types.specs.declared.expressions.ExpressionStep.{ExpressionStep}
use Rattle.source_types.specs.declared.expressions.ExpressionStep.TheVariants as made
use Rattle.source_types.specs.declared.expressions.ExpressionToken.{ExpressionToken}
use Rattle.source_types.specs.declared.expressions.ExpressionToken.TheVariants as token
use Rattle.source_types.specs.declared.expressions.UnaryOperator.{UnaryOperator}
use Rattle.source_types.specs.declared.expressions.UnaryOperator.TheVariants.{Minus, Not, Plus}
use Rattle.tcl_eval.specs.declared.expressions.waiting.Waiting.{Waiting}
use Rattle.tcl_eval.specs.declared.expressions.waiting.Waiting.TheVariants as waiting
use Rattle.tcl_model.specs.ExpressionForm.{IsGrouped, Tree, binary, binding, levels_of, number, parentheses, spelling, tightness, unary, unary_binding, unary_token, word}
use Rattle.tcl_eval.specs.ExpressionReading.{Settled, closed, ended, nothing_read, parsed, reading, settled, step, steps_on, whole}
use Rattle.tcl_model.specs.ExpressionSteps.{decision, kept, steps_of}

-- ---- what may stand after what waits

-- after what waits a tree may stand that is bound so tightly
abbrev pub Accepts : List Waiting → ℕ → Type 0
Accepts [] n = Unit {0}
Accepts (waiting.Open ∷ ws) n = Unit {0}
Accepts (waiting.Unary u ∷ ws) n = unary_binding ≤ n
Accepts (waiting.Binary op ∷ ws) n = binding op < n

pub accepts_more : (ws : List Waiting) (m n : ℕ) → m ≤ n → Accepts ws m → Accepts ws n
accepts_more [] m n h a = tt
accepts_more (waiting.Open ∷ ws) m n h a = tt
accepts_more (waiting.Unary u ∷ ws) m n h a = omega (arith, h, a)
accepts_more (waiting.Binary op ∷ ws) m n h a = omega (arith, h, a)

pub binding_low : (op : BinaryOperator) → binding op < unary_binding
binding_low Or = omega arith
binding_low And = omega arith
binding_low Equal = omega arith
binding_low NotEqual = omega arith
binding_low TextEqual = omega arith
binding_low TextNotEqual = omega arith
binding_low Less = omega arith
binding_low LessEqual = omega arith
binding_low Greater = omega arith
binding_low GreaterEqual = omega arith
binding_low Add = omega arith
binding_low Subtract = omega arith
binding_low Multiply = omega arith
binding_low Divide = omega arith
binding_low Remainder = omega arith

pub not_done : (b n : ℕ) → n < b → nat_le b n ≡ false
not_done b n h = grind (arith, nat_tests)

pub is_done_at : (b n : ℕ) → b ≤ n → nat_le b n ≡ true
is_done_at b n h = grind (arith, nat_tests)

-- what accepts a tree of this tightness is not done before an operator of the same
settled_stays : (b : ℕ) (steps : List ExpressionStep) (ws : List Waiting) → b < unary_binding → Accepts ws b → settled b steps ws ≡ record { steps = steps; waits = ws }
settled_stays b steps [] h a = refl
settled_stays b steps (waiting.Open ∷ ws) h a = refl
settled_stays b steps (waiting.Unary u ∷ ws) h a = absurd (omega (arith, h, a))
settled_stays b steps (waiting.Binary op ∷ ws) h a = rw (not_done b (binding op) a) refl

settled_binary : (op : BinaryOperator) (b : ℕ) → b ≤ binding op → (steps : List ExpressionStep) (ws : List Waiting) → settled b steps (waiting.Binary op ∷ ws) ≡ settled b (steps ++ made.Binary op ∷ []) ws
settled_binary op b h steps ws = rw (is_done_at b (binding op) h) refl

-- ---- numbers and lists

pub max_same : (k d : ℕ) → k ≤ d → d ≡ max d (k + 0)
max_same k d h = grind arith

pub max_parentheses : (d k m : ℕ) → max (max d (suc k)) (suc k + m) ≡ max d (k + suc m)
max_parentheses d k m = grind arith

pub max_sides : (d k m n : ℕ) → max (max d (k + m)) (k + n) ≡ max d (k + max m n)
max_sides d k m n = grind arith

pub one_less : (k : ℕ) → suc k - 1 ≡ k
one_less k = omega arith

pub max_first : (k d e : ℕ) → k ≤ d → k ≤ max d e
max_first k d e h = grind arith

pub max_second : (d e : ℕ) → e ≤ max d e
max_second d e = grind arith

pub of_four : {A : Type 0} (a b c d e : List A) → (((a ++ b) ++ c) ++ d) ++ e ≡ a ++ (b ++ (c ++ (d ++ e)))
of_four a b c d e = append_assoc ((a ++ b) ++ c) d e ∙ (append_assoc (a ++ b) c (d ++ e) ∙ append_assoc a b (c ++ (d ++ e)))

-- ---- a tree is read

-- the tokens of a tree were read where an operand was due: what comes is as if its steps were done
pub record Fed (steps : List ExpressionStep) (ws : List Waiting) (levels deepest : ℕ) (t : Tree) : Type 0 where
  pub steps_after : List ExpressionStep
  pub waits_after : List Waiting
  pub fed : (more : List ExpressionToken) → steps_on (spelling t ++ more) (reading steps ws levels deepest true)
      ≡ steps_on more (reading steps_after waits_after levels (max deepest (levels + levels_of t)) false)
  pub same : (b : ℕ) → b ≤ tightness t → settled b steps_after waits_after ≡ settled b (steps ++ steps_of levels t) ws

unary_step : (u : UnaryOperator) (steps : List ExpressionStep) (ws : List Waiting) (levels deepest : ℕ) → step (reading steps ws levels deepest true) (unary_token u) ≡ Some (reading steps (waiting.Unary u ∷ ws) levels deepest true)
unary_step Plus steps ws levels deepest = refl
unary_step Minus steps ws levels deepest = refl
unary_step Not steps ws levels deepest = refl

operand_fed : (t : Tree) (made_ : ExpressionStep) (steps : List ExpressionStep) (ws : List Waiting) (levels deepest : ℕ) → levels ≤ deepest → levels_of t ≡ 0 → steps_of levels t ≡ made_ ∷ []
    → ((more : List ExpressionToken) → steps_on (spelling t ++ more) (reading steps ws levels deepest true) ≡ steps_on more (reading (steps ++ made_ ∷ []) ws levels deepest false))
    → Fed steps ws levels deepest t
operand_fed t made_ steps ws levels deepest low none one h = record {
  steps_after = steps ++ made_ ∷ [];
  waits_after = ws;
  fed = λ more. h more ∙ ap (λ (d : ℕ). steps_on more (reading (steps ++ made_ ∷ []) ws levels d false))
      (max_same levels deepest low ∙ ap (λ (n : ℕ). max deepest (levels + n)) (sym none));
  same = λ b _. ap (λ (ss : List ExpressionStep). settled b (steps ++ ss) ws) (sym one);
}

pub fed_tree : (t : Tree) → IsGrouped t → (steps : List ExpressionStep) (ws : List Waiting) (levels deepest : ℕ) → levels ≤ deepest → Accepts ws (tightness t) → Fed steps ws levels deepest t
fed_tree (number n) g steps ws levels deepest low a = operand_fed (number n) (made.Number n) steps ws levels deepest low refl refl (λ more. refl)
fed_tree (word w) g steps ws levels deepest low a = operand_fed (word w) (made.Word w levels) steps ws levels deepest low refl refl (λ more. refl)
fed_tree (parentheses t) g steps ws levels deepest low a =
    let inner = fed_tree t g steps (waiting.Open ∷ ws) (suc levels) (max deepest (suc levels)) (max_second deepest (suc levels)) tt in
    let top : ℕ = max (max deepest (suc levels)) (suc levels + levels_of t) in
    record {
      steps_after = steps ++ steps_of (suc levels) t;
      waits_after = ws;
      fed = λ more.
          ap (λ (ts : List ExpressionToken). steps_on ts (reading steps (waiting.Open ∷ ws) (suc levels) (max deepest (suc levels)) true)) (append_assoc (spelling t) (token.Close ∷ []) more)
          ∙ (inner.fed (token.Close ∷ more)
          ∙ (ap (λ (s : Settled). option_and_then (steps_on more) (closed (suc levels) top s.steps s.waits)) (inner.same 0 (omega arith))
          ∙ (ap (λ (k : ℕ). steps_on more (reading (steps ++ steps_of (suc levels) t) ws k top false)) (one_less levels)
          ∙ ap (λ (d : ℕ). steps_on more (reading (steps ++ steps_of (suc levels) t) ws levels d false)) (max_parentheses deepest levels (levels_of t)))));
      same = λ b _. refl;
    }
fed_tree (unary u t) g steps ws levels deepest low a =
    let inner = fed_tree t g.0 steps (waiting.Unary u ∷ ws) levels deepest low g.1 in
    record {
      steps_after = inner.steps_after;
      waits_after = inner.waits_after;
      fed = λ more. ap (option_and_then (steps_on (spelling t ++ more))) (unary_step u steps ws levels deepest) ∙ inner.fed more;
      same = λ b h. inner.same b (omega (arith, h, g.1))
          ∙ ap (λ (ss : List ExpressionStep). settled b ss ws) (append_assoc steps (steps_of levels t) (made.Unary u ∷ []));
    }
fed_tree (binary op l r) g steps ws levels deepest low a =
    let left = fed_tree l g.0 steps ws levels deepest low (accepts_more ws (binding op) (tightness l) g.2 a) in
    let between : ℕ = max deepest (levels + levels_of l) in
    let mid : settled (binding op) left.steps_after left.waits_after ≡ record { steps = steps ++ steps_of levels l; waits = ws } =
    left.same (binding op) g.2 ∙ settled_stays (binding op) (steps ++ steps_of levels l) ws (binding_low op) a in
    let right = fed_tree r g.1 ((steps ++ steps_of levels l) ++ decision op) (waiting.Binary op ∷ ws) levels between (max_first levels deepest (levels + levels_of l) low) g.3 in
    record {
      steps_after = right.steps_after;
      waits_after = right.waits_after;
      fed = λ more.
          ap (λ (ts : List ExpressionToken). steps_on ts (reading steps ws levels deepest true)) (append_assoc (spelling l) (token.Operator op ∷ spelling r) more)
          ∙ (left.fed (token.Operator op ∷ (spelling r ++ more))
          ∙ (ap (λ (s : Settled). steps_on (spelling r ++ more) (reading (s.steps ++ decision op) (waiting.Binary op ∷ s.waits) levels between true)) mid
          ∙ (right.fed more
          ∙ ap (λ (d : ℕ). steps_on more (reading right.steps_after right.waits_after levels d false)) (max_sides deepest levels (levels_of l) (levels_of r)))));
      same = λ b h.
          right.same b (omega (arith, h, g.3))
          ∙ (settled_binary op b h (((steps ++ steps_of levels l) ++ decision op) ++ steps_of levels r) ws
          ∙ ap (λ (ss : List ExpressionStep). settled b ss ws) (of_four steps (steps_of levels l) (decision op) (steps_of levels r) (made.Binary op ∷ [])));
    }

-- the tokens of a tree give what is kept of it
pub tree_parsed : (t : Tree) → IsGrouped t → parsed (spelling t) ≡ Some (kept t)
tree_parsed t g =
    let f = fed_tree t g [] [] 0 0 (omega arith) tt in
    let top : ℕ = max 0 (0 + levels_of t) in
    let read : steps_on (spelling t) nothing_read ≡ Some (reading f.steps_after f.waits_after 0 top false) =
    ap (λ (ts : List ExpressionToken). steps_on ts nothing_read) (sym (append-nil (spelling t))) ∙ f.fed [] in
    ap (option_and_then ended) read
    ∙ (ap (λ (s : Settled). whole top s.steps s.waits) (f.same 0 (omega arith))
    ∙ ap (λ (d : ℕ). Some (record { steps = steps_of 0 t; levels = d })) (top_is (levels_of t))) where
      top_is : (n : ℕ) → max 0 (0 + n) ≡ n
      top_is n = grind arith
