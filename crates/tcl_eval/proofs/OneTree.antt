-- The tokens of a tree that is grouped are those of no other: read from the left, they give the tree back.
use Rattle.std.proofs.Common.{◌≡◌, ◌<◌, ◌≤◌, ◌++◌, ℕ, Bool, true, false, List, [], ◌∷◌, Option, Some, None, if◌then◌else◌, refl, sym, ap, ◌∙◌, arith, append_assoc}
use Rattle.std.proofs.lemmas.List.{append-nil}
use Rattle.std.specs.Prelude.{option_and_then}
use Rattle.source_types.specs.declared.expressions.BinaryOperator.{BinaryOperator}
use Rattle.source_types.specs.declared.expressions.ExpressionToken.{ExpressionToken}
use Rattle.source_types.specs.declared.expressions.ExpressionToken.TheVariants as token
use Rattle.source_types.specs.declared.expressions.UnaryOperator.{UnaryOperator}
use Rattle.source_types.specs.declared.expressions.UnaryOperator.TheVariants.{Minus, Not, Plus}
use Rattle.tcl_model.specs.ExpressionForm.{IsGrouped, Tree, binary, binding, number, parentheses, spelling, tightness, unary, unary_binding, unary_token, word}
use Rattle.tcl_eval.specs.declared.expressions.waiting.Waiting.{Waiting}
use Rattle.tcl_eval.specs.declared.expressions.waiting.Waiting.TheVariants as waiting
use Rattle.tcl_eval.specs.ExpressionReading.{is_done, sign_of}
use Rattle.tcl_eval.proofs.ReadTrees.{Accepts, accepts_more, binding_low, is_done_at, not_done}

-- ---- trees are read as steps are, but kept as trees

-- what waits, done on the trees so far, the last one first
abbrev done_on : Waiting → List Tree → List Tree
done_on (waiting.Unary u) [] = []
done_on (waiting.Unary u) (t ∷ ts) = unary u t ∷ ts
done_on (waiting.Binary op) [] = []
done_on (waiting.Binary op) (r ∷ []) = []
done_on (waiting.Binary op) (r ∷ l ∷ ts) = binary op l r ∷ ts
done_on waiting.Open ts = ts

record Grown : Type 0 where
  trees : List Tree
  waits : List Waiting

abbrev grown : ℕ → List Tree → List Waiting → Grown
grown b ts [] = record { trees = ts; waits = [] }
grown b ts (w ∷ ws) = if is_done b w then grown b (done_on w ts) ws else record { trees = ts; waits = w ∷ ws }

record Growing : Type 0 where
  trees : List Tree
  waits : List Waiting
  due : Bool

abbrev growing : List Tree → List Waiting → Bool → Growing
growing ts ws due = record { trees = ts; waits = ws; due = due }

abbrev with_prefix : Growing → UnaryOperator → Option Growing
with_prefix g u = if g.due then Some (growing g.trees (waiting.Unary u ∷ g.waits) true) else None

abbrev in_parentheses : List Tree → List Waiting → Option Growing
in_parentheses [] ws = None
in_parentheses (t ∷ ts) [] = None
in_parentheses (t ∷ ts) (waiting.Unary u ∷ ws) = None
in_parentheses (t ∷ ts) (waiting.Binary op ∷ ws) = None
in_parentheses (t ∷ ts) (waiting.Open ∷ ws) = Some (growing (parentheses t ∷ ts) ws false)

abbrev between : Growing → BinaryOperator → Growing
between g op = let s = grown (binding op) g.trees g.waits in growing s.trees (waiting.Binary op ∷ s.waits) true

abbrev grow : Growing → ExpressionToken → Option Growing
grow g (token.Number n) = if g.due then Some (growing (number n ∷ g.trees) g.waits false) else None
grow g (token.Word w) = if g.due then Some (growing (word w ∷ g.trees) g.waits false) else None
grow g token.Open = if g.due then Some (growing g.trees (waiting.Open ∷ g.waits) true) else None
grow g token.Close = let s = grown 0 g.trees g.waits in if g.due then None else in_parentheses s.trees s.waits
grow g token.Not = with_prefix g Not
grow g (token.Operator op) = if g.due then option_and_then (with_prefix g) (sign_of op) else Some (between g op)

abbrev grow_on : List ExpressionToken → Growing → Option Growing
grow_on [] g = Some g
grow_on (x ∷ xs) g = option_and_then (grow_on xs) (grow g x)

abbrev only_tree : List Tree → Option Tree
only_tree [] = None
only_tree (t ∷ ts) = Some t

abbrev tree_at_end : Growing → Option Tree
tree_at_end g = only_tree (grown 0 g.trees g.waits).trees

abbrev tree_of : List ExpressionToken → Option Tree
tree_of tokens = option_and_then tree_at_end (grow_on tokens (growing [] [] true))

-- ---- a tree grows back

grown_stays : (b : ℕ) (ts : List Tree) (ws : List Waiting) → b < unary_binding → Accepts ws b → grown b ts ws ≡ record { trees = ts; waits = ws }
grown_stays b ts [] h a = refl
grown_stays b ts (waiting.Open ∷ ws) h a = refl
grown_stays b ts (waiting.Unary u ∷ ws) h a = absurd (omega (arith, h, a))
grown_stays b ts (waiting.Binary op ∷ ws) h a = rw (not_done b (binding op) a) refl

grown_binary : (op : BinaryOperator) (b : ℕ) → b ≤ binding op → (l r : Tree) (ts : List Tree) (ws : List Waiting) → grown b (r ∷ (l ∷ ts)) (waiting.Binary op ∷ ws) ≡ grown b (binary op l r ∷ ts) ws
grown_binary op b h l r ts ws = rw (is_done_at b (binding op) h) refl

record Fed (ts : List Tree) (ws : List Waiting) (t : Tree) : Type 0 where
  trees : List Tree
  waits : List Waiting
  fed : (more : List ExpressionToken) → grow_on (spelling t ++ more) (growing ts ws true) ≡ grow_on more (growing trees waits false)
  same : (b : ℕ) → b ≤ tightness t → grown b trees waits ≡ grown b (t ∷ ts) ws

prefix_step : (u : UnaryOperator) (ts : List Tree) (ws : List Waiting) → grow (growing ts ws true) (unary_token u) ≡ Some (growing ts (waiting.Unary u ∷ ws) true)
prefix_step Plus ts ws = refl
prefix_step Minus ts ws = refl
prefix_step Not ts ws = refl

fed_tree : (t : Tree) → IsGrouped t → (ts : List Tree) (ws : List Waiting) → Accepts ws (tightness t) → Fed ts ws t
fed_tree (number n) g ts ws a = record { trees = number n ∷ ts; waits = ws; fed = λ more. refl; same = λ b h. refl }
fed_tree (word w) g ts ws a = record { trees = word w ∷ ts; waits = ws; fed = λ more. refl; same = λ b h. refl }
fed_tree (parentheses t) g ts ws a =
    let inner = fed_tree t g ts (waiting.Open ∷ ws) tt in
    record {
      trees = parentheses t ∷ ts;
      waits = ws;
      fed = λ more.
          ap (λ (xs : List ExpressionToken). grow_on xs (growing ts (waiting.Open ∷ ws) true)) (append_assoc (spelling t) (token.Close ∷ []) more)
          ∙ (inner.fed (token.Close ∷ more)
          ∙ ap (λ (s : Grown). option_and_then (grow_on more) (in_parentheses s.trees s.waits)) (inner.same 0 (omega arith)));
      same = λ b h. refl;
    }
fed_tree (unary u t) g ts ws a =
    let inner = fed_tree t g.0 ts (waiting.Unary u ∷ ws) g.1 in
    record {
      trees = inner.trees;
      waits = inner.waits;
      fed = λ more. ap (option_and_then (grow_on (spelling t ++ more))) (prefix_step u ts ws) ∙ inner.fed more;
      same = λ b h. inner.same b (omega (arith, h, g.1));
    }
fed_tree (binary op l r) g ts ws a =
    let left = fed_tree l g.0 ts ws (accepts_more ws (binding op) (tightness l) g.2 a) in
    let mid : grown (binding op) left.trees left.waits ≡ record { trees = l ∷ ts; waits = ws } =
    left.same (binding op) g.2 ∙ grown_stays (binding op) (l ∷ ts) ws (binding_low op) a in
    let right = fed_tree r g.1 (l ∷ ts) (waiting.Binary op ∷ ws) g.3 in
    record {
      trees = right.trees;
      waits = right.waits;
      fed = λ more.
          ap (λ (xs : List ExpressionToken). grow_on xs (growing ts ws true)) (append_assoc (spelling l) (token.Operator op ∷ spelling r) more)
          ∙ (left.fed (token.Operator op ∷ (spelling r ++ more))
          ∙ (ap (λ (s : Grown). grow_on (spelling r ++ more) (growing s.trees (waiting.Binary op ∷ s.waits) true)) mid
          ∙ right.fed more));
      same = λ b h. right.same b (omega (arith, h, g.3)) ∙ grown_binary op b h l r ts ws;
    }

grows_back : (t : Tree) → IsGrouped t → tree_of (spelling t) ≡ Some t
grows_back t g =
    let f = fed_tree t g [] [] tt in
    let read : grow_on (spelling t) (growing [] [] true) ≡ Some (growing f.trees f.waits false) =
    ap (λ (xs : List ExpressionToken). grow_on xs (growing [] [] true)) (sym (append-nil (spelling t))) ∙ f.fed [] in
    ap (option_and_then tree_at_end) read ∙ ap (λ (s : Grown). only_tree s.trees) (f.same 0 (omega arith))

same_tree : (t u : Tree) → Some t ≡ Some u → t ≡ u
same_tree t u e = cc

-- trees that are grouped and spelled alike are one
pub trees_once : (t u : Tree) → IsGrouped t → IsGrouped u → spelling t ≡ spelling u → t ≡ u
trees_once t u g h e = same_tree t u (sym (grows_back t g) ∙ (ap tree_of e ∙ grows_back u h))
