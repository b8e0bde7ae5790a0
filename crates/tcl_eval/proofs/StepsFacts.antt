-- The steps of a tree, one after the other, give what the tree gives.
use Rattle.std.proofs.Common.{◌≡◌, ◌+◌, ◌++◌, ℕ, suc, true, false, List, [], ◌∷◌, Option, Some, None, Result, Ok, Err, refl, sym, ap, subst, ◌∙◌, arith, append_assoc}
use Rattle.std.proofs.lemmas.List.{append-nil}
use Rattle.source_types.specs.declared.commands.Word.{Word}
use Rattle.source_types.specs.declared.expressions.BinaryOperator.{BinaryOperator}
use Rattle.source_types.specs.declared.expressions.BinaryOperator.TheVariants.{Add, And, Divide, Equal, Greater, GreaterEqual, Less, LessEqual, Multiply, NotEqual, Or, Remainder, Subtract, TextEqual, TextNotEqual}
use Rattle.source_types.specs.declared.expressions.ExpressionStep.{ExpressionStep}
use Rattle.source_types.specs.declared.expressions.ExpressionStep.TheVariants as made
use Rattle.source_types.specs.declared.expressions.Scalar.{Scalar}
use Rattle.source_types.specs.declared.kinds.Kind.{Kind}
use Rattle.source_types.specs.declared.kinds.TclKind.{TclKind}
use Rattle.tcl_model.specs.ExpressionForm.{Tree, binary, number, parentheses, unary, word}
use Rattle.tcl_model.specs.ExpressionRun.{Evaluates, RunsRight, RunStep, as_scalar, raised}
use Rattle.tcl_model.specs.ExpressionSteps.{decision, steps_of}
use Rattle.tcl_model.specs.ExpressionValue.{changed, computed, decided, joined}
use Rattle.tcl_eval.specs.StepsRun.{GoesOnDecided, GoesOnWith, RunsSteps, is_logical}

abbrev Reader : Type 0 → Type 1
Reader State = ℕ → Word → RunStep State (List ℕ)

-- ---- operators by whether they may decide

-- an operator decides between its sides, or nothing stands there and it needs both
pub data Deciding (op : BinaryOperator) : Type 0 where
  decides : decision op ≡ made.Decide op ∷ [] → is_logical op ≡ true → Deciding op
  needs_both : decision op ≡ [] → is_logical op ≡ false → ((v : Scalar) → decided op v ≡ None) → Deciding op

deciding : (op : BinaryOperator) → Deciding op
deciding Or = decides refl refl
deciding And = decides refl refl
deciding Equal = needs_both refl refl (λ v. refl)
deciding NotEqual = needs_both refl refl (λ v. refl)
deciding TextEqual = needs_both refl refl (λ v. refl)
deciding TextNotEqual = needs_both refl refl (λ v. refl)
deciding Less = needs_both refl refl (λ v. refl)
deciding LessEqual = needs_both refl refl (λ v. refl)
deciding Greater = needs_both refl refl (λ v. refl)
deciding GreaterEqual = needs_both refl refl (λ v. refl)
deciding Add = needs_both refl refl (λ v. refl)
deciding Subtract = needs_both refl refl (λ v. refl)
deciding Multiply = needs_both refl refl (λ v. refl)
deciding Divide = needs_both refl refl (λ v. refl)
deciding Remainder = needs_both refl refl (λ v. refl)

of_sides : {A : Type 0} (a b c d e : List A) → (a ++ (b ++ (c ++ d))) ++ e ≡ a ++ (b ++ (c ++ (d ++ e)))
of_sides a b c d e =
    append_assoc a (b ++ (c ++ d)) e
    ∙ ap (λ x. a ++ x) (append_assoc b (c ++ d) e ∙ ap (λ x. b ++ x) (append_assoc c d e))

-- ---- a tree that is passed over

pub passed : {State : Type 0} (Reads : Reader State) (level : ℕ) (t : Tree) (k n : ℕ) (ss : List ExpressionStep) (values : List Scalar) (before : State) (given : Result Scalar Kind) (after : State)
    → RunsSteps Reads level (suc n) (steps_of k t ++ ss) values before given after → RunsSteps Reads level (suc n) ss values before given after
passed Reads level (number m) k n ss values before given after h = h
passed Reads level (word w) k n ss values before given after h = h
passed Reads level (parentheses t) k n ss values before given after h = passed Reads level t (suc k) n ss values before given after h
passed Reads level (unary u t) k n ss values before given after h =
    passed Reads level t k n (made.Unary u ∷ ss) values before given after
    (subst (λ (x : List ExpressionStep). RunsSteps Reads level (suc n) x values before given after) (append_assoc (steps_of k t) (made.Unary u ∷ []) ss) h)
passed Reads level (binary op l r) k n ss values before given after h =
    let rest = steps_of k r ++ (made.Binary op ∷ ss) in
    let after_left : RunsSteps Reads level (suc n) (decision op ++ (steps_of k r ++ (made.Binary op ∷ ss))) values before given after =
    passed Reads level l k n (decision op ++ (steps_of k r ++ (made.Binary op ∷ ss))) values before given after
    (subst (λ (x : List ExpressionStep). RunsSteps Reads level (suc n) x values before given after) (of_sides (steps_of k l) (decision op) (steps_of k r) (made.Binary op ∷ []) ss) h) in
    by_kind (λ m x. passed Reads level r k m (made.Binary op ∷ ss) values before given after x) (deciding op) after_left where
      by_kind : ((m : ℕ) → RunsSteps Reads level (suc m) (steps_of k r ++ (made.Binary op ∷ ss)) values before given after → RunsSteps Reads level (suc m) (made.Binary op ∷ ss) values before given after) → Deciding op → RunsSteps Reads level (suc n) (decision op ++ (steps_of k r ++ (made.Binary op ∷ ss))) values before given after → RunsSteps Reads level (suc n) ss values before given after
      by_kind right (decides e logical) m =
          let after_decision : RunsSteps Reads level (suc (suc n)) (steps_of k r ++ (made.Binary op ∷ ss)) values before given after =
          subst (λ (d : List ExpressionStep). RunsSteps Reads level (suc n) (d ++ (steps_of k r ++ (made.Binary op ∷ ss))) values before given after) e m in
          let after_right = right (suc n) after_decision in
          rw logical at after_right
      by_kind right (needs_both e logical none) m =
          let after_decision : RunsSteps Reads level (suc n) (steps_of k r ++ (made.Binary op ∷ ss)) values before given after =
          subst (λ (d : List ExpressionStep). RunsSteps Reads level (suc n) (d ++ (steps_of k r ++ (made.Binary op ∷ ss))) values before given after) e m in
          let after_right = right n after_decision in
          rw logical at after_right

-- ---- a tree that is run

-- the steps of a tree were run, and those after it
pub record Ran {State : Type 0} (Reads : Reader State) (level k : ℕ) (t : Tree) (ss : List ExpressionStep) (values : List Scalar) (before : State) (given : Result Scalar Kind) (after : State) : Type 0 where
  pub outcome : Result Scalar Kind
  pub between : State
  pub evaluates : Evaluates Reads (level + k) t before outcome between
  pub onward : GoesOnWith (λ v. RunsSteps Reads level 0 ss (v ∷ values)) outcome between given after

next_level : (level k : ℕ) → level + suc k ≡ suc (level + k)
next_level level k = omega arith

pub ran : {State : Type 0} (Reads : Reader State) (level : ℕ) (t : Tree) (k : ℕ) (ss : List ExpressionStep) (values : List Scalar) (before : State) (given : Result Scalar Kind) (after : State)
    → RunsSteps Reads level 0 (steps_of k t ++ ss) values before given after → Ran Reads level k t ss values before given after
ran Reads level (number n) k ss values before given after h = record { outcome = raised (computed n); between = before; evaluates = (refl, refl); onward = h }
ran Reads level (word w) k ss values before given after h = record { outcome = as_scalar h.0; between = h.1; evaluates = (h.0, h.2, refl); onward = h.3 }
ran Reads level (parentheses t) k ss values before given after h =
    let r = ran Reads level t (suc k) ss values before given after h in
    record {
      outcome = r.outcome;
      between = r.between;
      evaluates = subst (λ (n : ℕ). Evaluates Reads n t before r.outcome r.between) (next_level level k) r.evaluates;
      onward = r.onward;
    }
ran {State = S} Reads level (unary u t) k ss values before given after h =
    let r = ran Reads level t k (made.Unary u ∷ ss) values before given after
    (subst (λ (x : List ExpressionStep). RunsSteps Reads level 0 x values before given after) (append_assoc (steps_of k t) (made.Unary u ∷ []) ss) h) in
    by_outcome r.outcome r.between r.evaluates r.onward where
      by_outcome : (o : Result Scalar Kind) (mid : S) → Evaluates Reads (level + k) t before o mid → GoesOnWith (λ v. RunsSteps Reads level 0 (made.Unary u ∷ ss) (v ∷ values)) o mid given after → Ran Reads level k (unary u t) ss values before given after
      by_outcome (Ok v) mid e go = record { outcome = raised (changed u v); between = mid; evaluates = (Ok v, e, refl); onward = go }
      by_outcome (Err fault) mid e go = record { outcome = Err fault; between = mid; evaluates = (Err fault, e, refl); onward = go }
ran {State = S} Reads level (binary op l r) k ss values before given after h =
    let first = ran Reads level l k (decision op ++ (steps_of k r ++ (made.Binary op ∷ ss))) values before given after
    (subst (λ (x : List ExpressionStep). RunsSteps Reads level 0 x values before given after) (of_sides (steps_of k l) (decision op) (steps_of k r) (made.Binary op ∷ []) ss) h) in
    by_left (λ v mid m. ran Reads level r k (made.Binary op ∷ ss) (v ∷ values) mid given after m) first.outcome first.between first.evaluates first.onward where
      -- both sides were run
      by_right : (v w : Scalar) (mid last : S) → decided op v ≡ None → Evaluates Reads (level + k) l before (Ok v) mid → Evaluates Reads (level + k) r mid (Ok w) last → GoesOnWith (λ x. RunsSteps Reads level 0 ss (x ∷ values)) (raised (joined op v w)) last given after → Ran Reads level k (binary op l r) ss values before given after
      by_right v w mid last none e f go = record {
        outcome = raised (joined op v w);
        between = last;
        evaluates = (Ok v, mid, e, subst (λ o. RunsRight (Evaluates Reads (level + k) r) op v o mid (raised (joined op v w)) last) (sym none) (Ok w, f, refl));
        onward = go;
      }

      -- the right side has a fault
      by_fault : (v : Scalar) (fault : Kind) (mid last : S) → decided op v ≡ None → Evaluates Reads (level + k) l before (Ok v) mid → Evaluates Reads (level + k) r mid (Err fault) last → (given ≡ Err fault) × (after ≡ last) → Ran Reads level k (binary op l r) ss values before given after
      by_fault v fault mid last none e f go = record {
        outcome = Err fault;
        between = last;
        evaluates = (Ok v, mid, e, subst (λ o. RunsRight (Evaluates Reads (level + k) r) op v o mid (Err fault) last) (sym none) (Err fault, f, refl));
        onward = go;
      }

      -- the right side is run
      on_right : (v : Scalar) (mid : S) → decided op v ≡ None → Evaluates Reads (level + k) l before (Ok v) mid → Ran Reads level k r (made.Binary op ∷ ss) (v ∷ values) mid given after → Ran Reads level k (binary op l r) ss values before given after
      on_right v mid none e second = by_second second.outcome second.between second.evaluates second.onward where
        by_second : (o : Result Scalar Kind) (last : S) → Evaluates Reads (level + k) r mid o last → GoesOnWith (λ w. RunsSteps Reads level 0 (made.Binary op ∷ ss) (w ∷ (v ∷ values))) o last given after → Ran Reads level k (binary op l r) ss values before given after
        by_second (Ok w) last f go = by_right v w mid last none e f go
        by_second (Err fault) last f go = by_fault v fault mid last none e f go

      -- the left side decides
      on_decided : (v : Scalar) (mid : S) (outcome : Result Scalar TclKind) → is_logical op ≡ true → decided op v ≡ Some outcome → Evaluates Reads (level + k) l before (Ok v) mid → GoesOnWith (λ w. RunsSteps Reads level 1 (steps_of k r ++ (made.Binary op ∷ ss)) (w ∷ values)) (raised outcome) mid given after → Ran Reads level k (binary op l r) ss values before given after
      on_decided v mid outcome logical some e go = record {
        outcome = raised outcome;
        between = mid;
        evaluates = (Ok v, mid, e, subst (λ o. RunsRight (Evaluates Reads (level + k) r) op v o mid (raised outcome) mid) (sym some) (refl, refl));
        onward = later (raised outcome) go;
      } where
        later : (o : Result Scalar Kind) → GoesOnWith (λ w. RunsSteps Reads level 1 (steps_of k r ++ (made.Binary op ∷ ss)) (w ∷ values)) o mid given after → GoesOnWith (λ w. RunsSteps Reads level 0 ss (w ∷ values)) o mid given after
        later (Ok w) m =
            let passed_right = passed Reads level r k 0 (made.Binary op ∷ ss) (w ∷ values) mid given after m in
            rw logical at passed_right
        later (Err fault) m = m

      -- by what the left side decides
      by_decided : ((v : Scalar) (mid : S) → RunsSteps Reads level 0 (steps_of k r ++ (made.Binary op ∷ ss)) (v ∷ values) mid given after → Ran Reads level k r (made.Binary op ∷ ss) (v ∷ values) mid given after) → (v : Scalar) (mid : S) (o : Option (Result Scalar TclKind)) → is_logical op ≡ true → decided op v ≡ o → Evaluates Reads (level + k) l before (Ok v) mid → GoesOnDecided (λ n w. RunsSteps Reads level n (steps_of k r ++ (made.Binary op ∷ ss)) (w ∷ values)) v o mid given after → Ran Reads level k (binary op l r) ss values before given after
      by_decided right v mid None logical none e go = on_right v mid none e (right v mid go)
      by_decided right v mid (Some outcome) logical some e go = on_decided v mid outcome logical some e go

      by_kind : ((v : Scalar) (mid : S) → RunsSteps Reads level 0 (steps_of k r ++ (made.Binary op ∷ ss)) (v ∷ values) mid given after → Ran Reads level k r (made.Binary op ∷ ss) (v ∷ values) mid given after) → (v : Scalar) (mid : S) → Deciding op → Evaluates Reads (level + k) l before (Ok v) mid → RunsSteps Reads level 0 (decision op ++ (steps_of k r ++ (made.Binary op ∷ ss))) (v ∷ values) mid given after → Ran Reads level k (binary op l r) ss values before given after
      by_kind right v mid (decides e logical) f m =
          by_decided right v mid (decided op v) logical refl f
          (subst (λ (d : List ExpressionStep). RunsSteps Reads level 0 (d ++ (steps_of k r ++ (made.Binary op ∷ ss))) (v ∷ values) mid given after) e m)
      by_kind right v mid (needs_both e logical none) f m =
          on_right v mid (none v) f (right v mid
          (subst (λ (d : List ExpressionStep). RunsSteps Reads level 0 (d ++ (steps_of k r ++ (made.Binary op ∷ ss))) (v ∷ values) mid given after) e m))

      by_left : ((v : Scalar) (mid : S) → RunsSteps Reads level 0 (steps_of k r ++ (made.Binary op ∷ ss)) (v ∷ values) mid given after → Ran Reads level k r (made.Binary op ∷ ss) (v ∷ values) mid given after) → (o : Result Scalar Kind) (mid : S) → Evaluates Reads (level + k) l before o mid → GoesOnWith (λ v. RunsSteps Reads level 0 (decision op ++ (steps_of k r ++ (made.Binary op ∷ ss))) (v ∷ values)) o mid given after → Ran Reads level k (binary op l r) ss values before given after
      by_left right (Ok v) mid e go = by_kind right v mid (deciding op) e go
      by_left right (Err fault) mid e go = record { outcome = Err fault; between = mid; evaluates = (Err fault, mid, e, (refl, refl)); onward = go }

-- what the steps of a whole tree give, the tree gives
pub steps_are_trees : {State : Type 0} (Reads : Reader State) (level : ℕ) (t : Tree) (before : State) (given : Result Scalar Kind) (after : State)
    → RunsSteps Reads level 0 (steps_of 0 t) [] before given after → Evaluates Reads level t before given after
steps_are_trees {State = S} Reads level t before given after h =
    let r = ran Reads level t 0 [] [] before given after
    (subst (λ (x : List ExpressionStep). RunsSteps Reads level 0 x [] before given after) (sym (append-nil (steps_of 0 t))) h) in
    by_outcome r.outcome r.between r.evaluates r.onward where
      ends : (o : Result Scalar Kind) (mid : S) → Evaluates Reads (level + 0) t before o mid → given ≡ o → after ≡ mid → Evaluates Reads level t before given after
      ends o mid e g a =
          let same : level + 0 ≡ level = omega arith in
          subst (λ (x : Result Scalar Kind). Evaluates Reads level t before x after) (sym g)
          (subst (λ (x : S). Evaluates Reads level t before o x) (sym a) (subst (λ (n : ℕ). Evaluates Reads n t before o mid) same e))

      by_outcome : (o : Result Scalar Kind) (mid : S) → Evaluates Reads (level + 0) t before o mid → GoesOnWith (λ v. RunsSteps Reads level 0 [] (v ∷ [])) o mid given after → Evaluates Reads level t before given after
      by_outcome (Ok v) mid e go = ends (Ok v) mid e go.0 go.1
      by_outcome (Err fault) mid e go = ends (Err fault) mid e go.0 go.1
