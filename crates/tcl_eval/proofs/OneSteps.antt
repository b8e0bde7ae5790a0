-- Steps of a run, over a host that gives one answer to each call, have one outcome: parts, words, expressions, and the
-- rules that only look. What a text's items and its tree are is one each; those facts are of the grammars.
use Rattle.std.proofs.Common.{◌≡◌, ◌<◌, ◌≤◌, inl, inr, ℕ, suc, Bool, true, false, List, [], ◌∷◌, ◌++◌, map, Option, Some, None, Result, Ok, Err, sym, ◌∙◌, ap, subst, arith}
use Rattle.source_types.specs.declared.commands.Part.{Part}
use Rattle.source_types.specs.declared.commands.Part.TheVariants as part
use Rattle.source_types.specs.declared.commands.Word.{Word}
use Rattle.source_types.specs.declared.expressions.BinaryOperator.{BinaryOperator}
use Rattle.source_types.specs.declared.expressions.Scalar.{Scalar}
use Rattle.source_types.specs.declared.kinds.Kind.{Kind}
use Rattle.source_types.specs.declared.kinds.TclKind.{TclKind}
use Rattle.timing_types.specs.declared.objects.Object.{Object}
use Rattle.timing_types.specs.declared.objects.Value.{Value}
use Rattle.timing_types.specs.declared.objects.Value.TheVariants as value
use Rattle.tcl_model.specs.BuiltIns.{Concatenates, Counts, HasItems, HaveItems, HaveMore, Indexes, Outcome, index_of, indexed, on_value}
use Rattle.tcl_model.specs.ExpressionForm.{Tree, binary, levels_of, number, parentheses, unary, word}
use Rattle.tcl_model.specs.ExpressionRun.{Evaluates, GoesOn, RunsExpression, RunsRight, RunsTree, RunStep, as_scalar, then_on}
use Rattle.tcl_model.specs.ExpressionValue.{changed, decided, joined, text_of}
use Rattle.tcl_model.specs.HostCalls.{AsText, Calls, Host, World, text_outcome}
use Rattle.tcl_model.specs.NamedCommands.{EvaluatesText, ReadsWord}
use Rattle.tcl_model.specs.RunSteps.{Answers, Chosen, Looks, OnWith, Then, tcl_outcome}
use Rattle.tcl_model.specs.WordValues.{Level, Opened, RunsJoined, RunsPart, RunsParts, RunsWord, RunsWords, in_bracket}
use Rattle.tcl_words.proofs.ItemsOnce.{lists_once}
use Rattle.tcl_eval.specs.Laws.{HostIsOne, IsOne}
use Rattle.tcl_eval.proofs.OneParse.{expressions_once}

pub record LevelIsOne {S : Type 0} (level : Level S) : Type 0 where
  pub host : HostIsOne level.host
  pub opens : (inside : ℕ) (opened : Opened) → IsOne (level.Opens inside opened)

-- ---- steps

pub both : {S A : Type 0} {a b o : A} {x y w : S} → a ≡ o → x ≡ w → b ≡ o → y ≡ w → (a ≡ b) × (x ≡ y)
both p q r s = (p ∙ sym r, q ∙ sym s)

pub answers_one : {S A : Type 0} (outcome : Result A Kind) → IsOne {S = S} (Answers outcome)
answers_one outcome before a b x y t u = both t.0 t.1 u.0 u.1

with_one : {S A B : Type 0} (Next : A → RunStep S B) → ((v : A) → IsOne (Next v)) → (outcome : Result A Kind) → IsOne (OnWith Next outcome)
with_one Next n (Ok v) before a b x y t u = n v before a b x y t u
with_one Next n (Err fault) before a b x y t u = both t.0 t.1 u.0 u.1

pub then_one : {S A B : Type 0} (First : RunStep S A) (Next : A → RunStep S B) → IsOne First → ((v : A) → IsOne (Next v)) → IsOne (Then First Next)
then_one {S = S} {A = A} First Next f n before a b x y t u =
    let same = f before t.0 u.0 t.1 u.1 t.2 u.2 in
    let here : OnWith Next t.0 u.1 b y = subst (λ (o : Result A Kind). OnWith Next o u.1 b y) (sym same.0) u.3 in
    let there : OnWith Next t.0 t.1 b y = subst (λ (w : S). OnWith Next t.0 w b y) (sym same.1) here in
    with_one Next n t.0 t.1 a b x y t.3 there

pub chosen_one : {S A : Type 0} (First Other : RunStep S A) → IsOne First → IsOne Other → (test : Bool) → IsOne (Chosen test First Other)
chosen_one First Other f o true before a b x y t u = f before a b x y t u
chosen_one First Other f o false before a b x y t u = o before a b x y t u

-- a rule of Tcl has one outcome
abbrev RuleIsOne : {A : Type 0} → (Result A TclKind → Type 0) → Type 0
RuleIsOne {A = A} Rule = (r s : Result A TclKind) → Rule r → Rule s → r ≡ s

pub looks_one : {S A : Type 0} (Rule : Result A TclKind → Type 0) → RuleIsOne Rule → IsOne {S = S} (Looks Rule)
looks_one Rule one before a b x y t u =
    (t.2.0 ∙ ap tcl_outcome (one t.0 u.0 t.1 u.1) ∙ sym u.2.0, t.2.1 ∙ sym u.2.1)

text_one : {S : Type 0} (host : Host S) (Gives : RunStep (World S) Value) → IsOne Gives → IsOne (AsText host Gives)
text_one {S = S} host Gives g before a b x y t u =
    let same = g before t.0 u.0 x y t.1 u.1 in
    (t.2 ∙ ap (text_outcome host x.host) same.0 ∙ ap (λ (w : World S). text_outcome host w.host u.0) same.1 ∙ sym u.2, same.1)

pub calls_one : {S : Type 0} (host : Host S) → HostIsOne host → (line : ℕ) (name : List ℕ) (words : List Value) → IsOne (Calls host line name words)
calls_one {S = S} host h line name words before a b x y t u =
    let same = h line name words before.host a b x.host y.host t.0 u.0 in
    (same.0, t.1 ∙ ap (λ (s : S). record before { host = s }) same.1 ∙ sym u.1)

-- ---- words

part_one : {S : Type 0} (level : Level S) → LevelIsOne level → (inside : ℕ) (one : Part) → IsOne (RunsPart level inside one)
part_one level l inside (part.Text text) before a b x y t u = both t.0 t.1 u.0 u.1
part_one level l inside (part.Variable name) before a b x y t u = both t.0 t.1 u.0 u.1
part_one level l inside (part.Script script) before a b x y t u = l.opens inside (in_bracket script) before a b x y t u

parts_one : {S : Type 0} (level : Level S) → LevelIsOne level → (inside : ℕ) (parts : List Part) → IsOne (RunsParts level inside parts)
parts_one level l inside [] before a b x y t u = both t.0 t.1 u.0 u.1
parts_one level l inside (first ∷ parts) before a b x y t u =
    then_one _ _ (text_one level.host _ (part_one level l inside first))
    (λ text. then_one _ _ (parts_one level l inside parts) (λ others. answers_one _)) before a b x y t u

joined_one : {S : Type 0} (level : Level S) → LevelIsOne level → (inside : ℕ) (parts : List Part) → IsOne (RunsJoined level inside parts)
joined_one level l inside parts = then_one _ _ (parts_one level l inside parts) (λ text. answers_one _)

word_one : {S : Type 0} (level : Level S) → LevelIsOne level → (inside : ℕ) (parts : List Part) → IsOne (RunsWord level inside parts)
word_one level l inside [] = joined_one level l inside []
word_one level l inside (only ∷ []) = part_one level l inside only
word_one level l inside (first ∷ second ∷ parts) = joined_one level l inside (first ∷ second ∷ parts)

pub words_one : {S : Type 0} (level : Level S) → LevelIsOne level → (words : List Word) → IsOne (RunsWords level words)
words_one level l [] before a b x y t u = both t.0 t.1 u.0 u.1
words_one level l (first ∷ words) before a b x y t u =
    then_one _ _ (word_one level l 0 first.parts)
    (λ one. then_one _ _ (words_one level l words) (λ others. answers_one _)) before a b x y t u

-- ---- expressions

right_one : {S : Type 0} (Right : RunStep S Scalar) → IsOne Right → (op : BinaryOperator) (left : Scalar) (outcome : Option (Result Scalar TclKind)) → IsOne (RunsRight Right op left outcome)
right_one Right r op left (Some outcome) before a b x y t u = both t.0 t.1 u.0 u.1
right_one Right r op left None before a b x y t u =
    let same = r before t.0 u.0 x y t.1 u.1 in
    (t.2 ∙ ap (λ o. then_on o (joined op left)) same.0 ∙ sym u.2, same.1)

goes_on_one : {S : Type 0} (Right : RunStep S Scalar) → IsOne Right → (op : BinaryOperator) (left : Result Scalar Kind) → IsOne (GoesOn Right op left)
goes_on_one Right r op (Ok left) before a b x y t u = right_one Right r op left (decided op left) before a b x y t u
goes_on_one Right r op (Err fault) before a b x y t u = both t.0 t.1 u.0 u.1

tree_one : {S : Type 0} (Reads : ℕ → Word → RunStep S (List ℕ)) → ((inside : ℕ) (w : Word) → IsOne (Reads inside w)) → (inside : ℕ) (tree : Tree) → IsOne (Evaluates Reads inside tree)
tree_one Reads r inside (number n) before a b x y t u = both t.0 t.1 u.0 u.1
tree_one Reads r inside (word w) before a b x y t u =
    let same = r inside w before t.0 u.0 x y t.1 u.1 in
    (t.2 ∙ ap as_scalar same.0 ∙ sym u.2, same.1)
tree_one Reads r inside (parentheses tree) before a b x y t u = tree_one Reads r (suc inside) tree before a b x y t u
tree_one Reads r inside (unary op tree) before a b x y t u =
    let same = tree_one Reads r inside tree before t.0 u.0 x y t.1 u.1 in
    (t.2 ∙ ap (λ o. then_on o (changed op)) same.0 ∙ sym u.2, same.1)
tree_one {S = S} Reads r inside (binary op left right) before a b x y t u =
    let same = tree_one Reads r inside left before t.0 u.0 t.1 u.1 t.2 u.2 in
    let Right : RunStep S Scalar = Evaluates Reads inside right in
    let here : GoesOn Right op t.0 u.1 b y = subst (λ (o : Result Scalar Kind). GoesOn Right op o u.1 b y) (sym same.0) u.3 in
    let there : GoesOn Right op t.0 t.1 b y = subst (λ (w : S). GoesOn Right op t.0 w b y) (sym same.1) here in
    goes_on_one Right (tree_one Reads r inside right) op t.0 t.1 a b x y t.3 there

pub apart : (m n : ℕ) → m ≤ n → n < m → ⊥
apart m n p q = omega (arith, p, q)

run_tree_one : {S : Type 0} (Reads : ℕ → Word → RunStep S (List ℕ)) → ((inside : ℕ) (w : Word) → IsOne (Reads inside w)) → (left : ℕ) (tree : Tree) → IsOne (RunsTree Reads left tree)
run_tree_one Reads r left tree before a b x y (inl t) (inl u) = tree_one Reads r 0 tree before a b x y t.1 u.1
run_tree_one Reads r left tree before a b x y (inl t) (inr u) = absurd (apart (levels_of tree) left t.0 u.0)
run_tree_one Reads r left tree before a b x y (inr t) (inl u) = absurd (apart (levels_of tree) left u.0 t.0)
run_tree_one Reads r left tree before a b x y (inr t) (inr u) = both t.1 t.2 u.1 u.2

expression_one : {S : Type 0} (Reads : ℕ → Word → RunStep S (List ℕ)) → ((inside : ℕ) (w : Word) → IsOne (Reads inside w)) → (left : ℕ) (text : List ℕ) → IsOne (RunsExpression Reads left text)
expression_one Reads r left text before a b x y (inl t) (inl u) =
    let same = expressions_once text t.0 u.0 t.1 u.1 in
    run_tree_one Reads r left t.0 before a b x y t.2 (subst (λ (tree : Tree). RunsTree Reads left tree before b y) (sym same) u.2)
expression_one Reads r left text before a b x y (inl t) (inr u) = absurd (u.0 t.0 t.1)
expression_one Reads r left text before a b x y (inr t) (inl u) = absurd (t.0 u.0 u.1)
expression_one Reads r left text before a b x y (inr t) (inr u) = both t.1 t.2 u.1 u.2

pub evaluates_one : {S : Type 0} (level : Level S) → LevelIsOne level → (text : List ℕ) → IsOne (EvaluatesText level text)
evaluates_one level l text = expression_one (ReadsWord level) (λ inside w. text_one level.host _ (word_one level l inside w.parts)) level.left text

-- ---- rules that only look

pub items_one : (given : Value) → RuleIsOne (HasItems given)
items_one (value.Text text) r s p q = p.2 ∙ ap (on_value (λ texts. Ok (map value.Text texts))) (lists_once text p.0 q.0 p.1 q.1) ∙ sym q.2
items_one (value.Objects objects) r s p q = p ∙ sym q

more_one : (Others : Outcome (List (List ℕ)) → Type 0) → RuleIsOne Others → (items : Outcome (List (List ℕ))) → RuleIsOne (HaveMore Others items)
more_one Others o (Ok items) r s p q = p.2 ∙ ap (on_value (λ more. Ok (items ++ more))) (o p.0 q.0 p.1 q.1) ∙ sym q.2
more_one Others o (Err kind) r s p q = p ∙ sym q

all_items_one : (texts : List (List ℕ)) → RuleIsOne (HaveItems texts)
all_items_one [] r s p q = p ∙ sym q
all_items_one (text ∷ texts) r s p q =
    let same = lists_once text p.0 q.0 p.1 q.1 in
    more_one (HaveItems texts) (all_items_one texts) p.0 r s p.2
    (subst (λ (items : Outcome (List (List ℕ))). HaveMore (HaveItems texts) items s) (sym same) q.2)

pub concatenates_one : (objects : Option (List Object)) (texts : List (List ℕ)) → RuleIsOne (Concatenates objects texts)
concatenates_one (Some objects) texts r s p q = p ∙ sym q
concatenates_one None texts r s p q = p.2 ∙ ap (on_value _) (all_items_one texts p.0 q.0 p.1 q.1) ∙ sym q.2

pub indexes_one : (text_of : Value → List ℕ) (words : List Value) → RuleIsOne (Indexes text_of words)
indexes_one text_of [] r s p q = p ∙ sym q
indexes_one text_of (list ∷ []) r s p q = p ∙ sym q
indexes_one text_of (list ∷ index ∷ []) r s p q =
    p.2 ∙ ap (on_value (λ found. indexed found (index_of (text_of index)))) (items_one list p.0 q.0 p.1 q.1) ∙ sym q.2
indexes_one text_of (list ∷ index ∷ third ∷ others) r s p q = p ∙ sym q

pub counts_one : (words : List Value) → RuleIsOne (Counts words)
counts_one [] r s p q = p ∙ sym q
counts_one (list ∷ []) r s p q = p.2 ∙ ap (on_value _) (items_one list p.0 q.0 p.1 q.1) ∙ sym q.2
counts_one (list ∷ second ∷ others) r s p q = p ∙ sym q
