-- Tokens that are read as a whole expression are those of a tree that is grouped.
use Rattle.std.proofs.Common.{◌≡◌, ◌≤◌, ◌-◌, ◌++◌, ℕ, suc, max, Bool, true, false, List, [], ◌∷◌, Option, Some, None, is_none, if◌then◌else◌, refl, sym, ap, subst, ◌∙◌, arith, append_assoc}
use Rattle.std.proofs.lemmas.List.{append-nil}
use Rattle.std.proofs.lemmas.Option.{same_Some}
use Rattle.std.specs.Prelude.{option_and_then}
use Rattle.source_types.specs.declared.expressions.BinaryOperator.{BinaryOperator}
use Rattle.source_types.specs.declared.expressions.BinaryOperator.TheVariants.{Add, And, Divide, Equal, Greater, GreaterEqual, Less, LessEqual, Multiply, NotEqual, Or, Remainder, Subtract, TextEqual, TextNotEqual}
use Rattle.source_types.specs.declared.expressions.Expression.{Expression}
use Rattle.source_types.specs.declared.expressions.ExpressionStep.{ExpressionStep}
use Rattle.source_types.specs.declared.expressions.ExpressionStep.TheVariants as made
use Rattle.source_types.specs.declared.expressions.ExpressionToken.{ExpressionToken}
use Rattle.source_types.specs.declared.expressions.ExpressionToken.TheVariants as token
use Rattle.source_types.specs.declared.expressions.UnaryOperator.{UnaryOperator}
use Rattle.source_types.specs.declared.expressions.UnaryOperator.TheVariants.{Minus, Not, Plus}
use Rattle.tcl_eval.specs.declared.expressions.waiting.Waiting.{Waiting}
use Rattle.tcl_eval.specs.declared.expressions.waiting.Waiting.TheVariants as waiting
use Rattle.tcl_model.specs.ExpressionForm.{IsGrouped, Tree, binding, number, parentheses, spelling, tightness, unary_binding, unary_token, word}
use Rattle.tcl_eval.specs.ExpressionReading.{Reading, closed, ended, nothing_read, parsed, reading, settled, sign_of, step, steps_on, whole, with_binary, with_close, with_open, with_operand, with_operator, with_unary}
use Rattle.tcl_eval.proofs.Frames.{AreFrames, Frame, Reduced, accepts_tight, left, of_three, opened, prefix, reduced, spelled, waits_of}
use Rattle.tcl_eval.proofs.ReadTrees.{Accepts, binding_low}

-- ---- what is read so far

-- the tokens that were read: those of the frames, and of the operand where one stands
abbrev pub front : List Frame → Option Tree → List ExpressionToken
front fs None = spelled fs
front fs (Some t) = spelled fs ++ spelling t

abbrev pub Stands : List Frame → Option Tree → Type 0
Stands fs None = AreFrames fs
Stands fs (Some t) = AreFrames fs × IsGrouped t × Accepts (waits_of fs) (tightness t) × (unary_binding ≤ tightness t)

pub record Read (tokens : List ExpressionToken) (r : Reading) (operand : Option Tree) : Type 0 where
  pub frames : List Frame
  pub stands : Stands frames operand
  pub waits : waits_of frames ≡ r.waits
  pub due : is_none operand ≡ r.due
  pub spells : front frames operand ≡ tokens

-- what is read with some token more
abbrev pub ReadMore : List ExpressionToken → Reading → Type 0
ReadMore tokens r = (operand : Option Tree) × Read tokens r operand

guarded : {A : Type 0} (b : Bool) (x y : A) → (if b then Some x else None) ≡ Some y → (b ≡ true) × (x ≡ y)
guarded true x y e = (refl, (cc))
guarded false x y e = absurd (cc)

unguarded : {A : Type 0} (b : Bool) (o : Option A) (y : A) → (if b then None else o) ≡ Some y → (b ≡ false) × (o ≡ Some y)
unguarded true o y e = absurd (cc)
unguarded false o y e = (refl, e)

true_false : {A : Type 0} (b : Bool) → b ≡ true → b ≡ false → A
true_false b e f = absurd (cc)

one_more : (fs : List Frame) (tokens ts : List ExpressionToken) → spelled fs ≡ tokens → spelled fs ++ ts ≡ tokens ++ ts
one_more fs tokens ts e = ap (λ x. x ++ ts) e

-- an operand
operand_read : (tokens : List ExpressionToken) (r next : Reading) (made_ : ExpressionStep) (t : Tree) (x : ExpressionToken) → IsGrouped t → unary_binding ≤ tightness t → tightness t ≡ unary_binding → spelling t ≡ x ∷ [] → (operand : Option Tree) → Read tokens r operand → with_operand r made_ ≡ Some next → ReadMore (tokens ++ x ∷ []) next
operand_read tokens r next made_ t x g h k one None read e =
    let p = guarded r.due (reading (r.steps ++ made_ ∷ []) r.waits r.levels r.deepest false) next e in (
      Some t,
      subst (λ (n : Reading). Read (tokens ++ x ∷ []) n (Some t)) p.1 (record {
        frames = read.frames;
        stands = (read.stands, g, subst (λ n. Accepts (waits_of read.frames) n) (sym k) (accepts_tight (waits_of read.frames)), h);
        waits = read.waits;
        due = refl;
        spells = ap (λ ts. spelled read.frames ++ ts) one ∙ one_more read.frames tokens (x ∷ []) read.spells;
      }),
    )
operand_read tokens r next made_ t x g h k one (Some u) read e =
    let p = guarded r.due (reading (r.steps ++ made_ ∷ []) r.waits r.levels r.deepest false) next e in
    true_false r.due p.0 (sym read.due)

-- an operator before an operand
unary_read : (tokens : List ExpressionToken) (r next : Reading) (u : UnaryOperator) (operand : Option Tree) → Read tokens r operand → with_unary r u ≡ Some next → ReadMore (tokens ++ unary_token u ∷ []) next
unary_read tokens r next u None read e =
    let p = guarded r.due (reading r.steps (waiting.Unary u ∷ r.waits) r.levels r.deepest true) next e in (
      None,
      subst (λ (n : Reading). Read (tokens ++ unary_token u ∷ []) n None) p.1 (record {
        frames = prefix u ∷ read.frames;
        stands = read.stands;
        waits = ap (λ ws. waiting.Unary u ∷ ws) read.waits;
        due = refl;
        spells = one_more read.frames tokens (unary_token u ∷ []) read.spells;
      }),
    )
unary_read tokens r next u (Some t) read e =
    let p = guarded r.due (reading r.steps (waiting.Unary u ∷ r.waits) r.levels r.deepest true) next e in
    true_false r.due p.0 (sym read.due)

open_read : (tokens : List ExpressionToken) (r next : Reading) (operand : Option Tree) → Read tokens r operand → with_open r ≡ Some next → ReadMore (tokens ++ token.Open ∷ []) next
open_read tokens r next None read e =
    let p = guarded r.due (reading r.steps (waiting.Open ∷ r.waits) (suc r.levels) (max r.deepest (suc r.levels)) true) next e in (
      None,
      subst (λ (n : Reading). Read (tokens ++ token.Open ∷ []) n None) p.1 (record {
        frames = opened ∷ read.frames;
        stands = read.stands;
        waits = ap (λ ws. waiting.Open ∷ ws) read.waits;
        due = refl;
        spells = one_more read.frames tokens (token.Open ∷ []) read.spells;
      }),
    )
open_read tokens r next (Some t) read e =
    let p = guarded r.due (reading r.steps (waiting.Open ∷ r.waits) (suc r.levels) (max r.deepest (suc r.levels)) true) next e in
    true_false r.due p.0 (sym read.due)

-- what stands after an operand, when all is done that binds so tightly
reduced_here : (b : ℕ) → b ≤ unary_binding → (tokens : List ExpressionToken) (r : Reading) (t : Tree) (read : Read tokens r (Some t)) → Reduced b read.frames t (settled b r.steps r.waits).waits
reduced_here b low tokens r t read =
    subst (λ (ws : List Waiting). Reduced b read.frames t (settled b r.steps ws).waits) read.waits
    (reduced b low r.steps read.frames t read.stands.0 read.stands.1 read.stands.2 (omega (arith, low, read.stands.3)))

-- an operator between two operands
binary_read : (tokens : List ExpressionToken) (r : Reading) (op : BinaryOperator) (t : Tree) → Read tokens r (Some t) → ReadMore (tokens ++ token.Operator op ∷ []) (with_binary r op)
binary_read tokens r op t read =
    let low : binding op ≤ unary_binding = omega (arith, binding_low op) in
    let red = reduced_here (binding op) low tokens r t read in (
      None,
      record {
        frames = left op red.tree ∷ red.frames;
        stands = (red.grouped, red.tight, red.accepts, red.are);
        waits = ap (λ ws. waiting.Binary op ∷ ws) red.waits;
        due = refl;
        spells = sym (append_assoc (spelled red.frames) (spelling red.tree) (token.Operator op ∷ []))
            ∙ ap (λ x. x ++ token.Operator op ∷ []) (red.spells ∙ read.spells);
      },
    )

sign_token : (op : BinaryOperator) (u : UnaryOperator) → sign_of op ≡ Some u → unary_token u ≡ token.Operator op
sign_token Add u e = subst (λ v. unary_token v ≡ token.Operator Add) (same_Some Plus u e) refl
sign_token Subtract u e = subst (λ v. unary_token v ≡ token.Operator Subtract) (same_Some Minus u e) refl
sign_token Or u e = absurd (cc)
sign_token And u e = absurd (cc)
sign_token Equal u e = absurd (cc)
sign_token NotEqual u e = absurd (cc)
sign_token TextEqual u e = absurd (cc)
sign_token TextNotEqual u e = absurd (cc)
sign_token Less u e = absurd (cc)
sign_token LessEqual u e = absurd (cc)
sign_token Greater u e = absurd (cc)
sign_token GreaterEqual u e = absurd (cc)
sign_token Multiply u e = absurd (cc)
sign_token Divide u e = absurd (cc)
sign_token Remainder u e = absurd (cc)

signed_read : (tokens : List ExpressionToken) (r next : Reading) (op : BinaryOperator) (o : Option UnaryOperator) → sign_of op ≡ o → (operand : Option Tree) → Read tokens r operand → option_and_then (with_unary r) o ≡ Some next → ReadMore (tokens ++ token.Operator op ∷ []) next
signed_read tokens r next op None s operand read e = absurd (cc)
signed_read tokens r next op (Some u) s operand read e =
    subst (λ x. ReadMore (tokens ++ x ∷ []) next) (sign_token op u s) (unary_read tokens r next u operand read e)

operator_read : (tokens : List ExpressionToken) (r next : Reading) (op : BinaryOperator) (operand : Option Tree) → Read tokens r operand → with_operator r op ≡ Some next → ReadMore (tokens ++ token.Operator op ∷ []) next
operator_read tokens r next op None read e =
    signed_read tokens r next op (sign_of op) refl None read (on_due r.due (sym read.due) e) where
      on_due : (b : Bool) → b ≡ true → (if b then option_and_then (with_unary r) (sign_of op) else Some (with_binary r op)) ≡ Some next → option_and_then (with_unary r) (sign_of op) ≡ Some next
      on_due true h f = f
      on_due false h f = absurd (cc)
operator_read tokens r next op (Some t) read e =
    subst (λ n. ReadMore (tokens ++ token.Operator op ∷ []) n) (same_Some (with_binary r op) next (not_due r.due (sym read.due) e)) (binary_read tokens r op t read) where
      not_due : (b : Bool) → b ≡ false → (if b then option_and_then (with_unary r) (sign_of op) else Some (with_binary r op)) ≡ Some next → Some (with_binary r op) ≡ Some next
      not_due false h f = f
      not_due true h f = absurd (cc)

-- `)`
close_frames : (tokens : List ExpressionToken) (r next : Reading) (t : Tree) (read : Read tokens r (Some t)) (ss : List ExpressionStep) (ws : List Waiting) → Reduced 0 read.frames t ws → closed r.levels r.deepest ss ws ≡ Some next → ReadMore (tokens ++ token.Close ∷ []) next
close_frames tokens r next t read ss [] red e = absurd (cc)
close_frames tokens r next t read ss (waiting.Unary u ∷ ws) red e = absurd (cc)
close_frames tokens r next t read ss (waiting.Binary op ∷ ws) red e = absurd (cc)
close_frames tokens r next t read ss (waiting.Open ∷ ws) red e =
    by_frames red.frames red.waits red.are red.spells where
      by_frames : (fs : List Frame) → waits_of fs ≡ waiting.Open ∷ ws → AreFrames fs → spelled fs ++ spelling red.tree ≡ spelled read.frames ++ spelling t → ReadMore (tokens ++ token.Close ∷ []) next
      by_frames [] w are s = absurd (cc)
      by_frames (left op u ∷ fs) w are s = absurd (cc)
      by_frames (prefix u ∷ fs) w are s = absurd (cc)
      by_frames (opened ∷ fs) w are s = (
        Some (parentheses red.tree),
        subst (λ (m : Reading). Read (tokens ++ token.Close ∷ []) m (Some (parentheses red.tree))) (same_Some (reading ss ws (r.levels - 1) r.deepest false) next e) (record {
          frames = fs;
          stands = (are, red.grouped, accepts_tight (waits_of fs), omega arith);
          waits = cc;
          due = refl;
          spells = of_three (spelled fs) (token.Open ∷ []) (spelling red.tree) (token.Close ∷ [])
              ∙ ap (λ x. x ++ token.Close ∷ []) (sym (append_assoc (spelled fs) (token.Open ∷ []) (spelling red.tree)) ∙ (s ∙ read.spells));
        }),
      )

close_read : (tokens : List ExpressionToken) (r next : Reading) (operand : Option Tree) → Read tokens r operand → with_close r ≡ Some next → ReadMore (tokens ++ token.Close ∷ []) next
close_read tokens r next None read e =
    let p = unguarded r.due (closed r.levels r.deepest (settled 0 r.steps r.waits).steps (settled 0 r.steps r.waits).waits) next e in
    true_false r.due (sym read.due) p.0
close_read tokens r next (Some t) read e =
    let p = unguarded r.due (closed r.levels r.deepest (settled 0 r.steps r.waits).steps (settled 0 r.steps r.waits).waits) next e in
    close_frames tokens r next t read (settled 0 r.steps r.waits).steps (settled 0 r.steps r.waits).waits
    (reduced_here 0 (omega arith) tokens r t read) p.1

-- any token
step_read : (x : ExpressionToken) (tokens : List ExpressionToken) (r next : Reading) (operand : Option Tree) → Read tokens r operand → step r x ≡ Some next → ReadMore (tokens ++ x ∷ []) next
step_read (token.Number n) tokens r next operand read e = operand_read tokens r next (made.Number n) (number n) (token.Number n) tt (omega arith) refl refl operand read e
step_read (token.Word w) tokens r next operand read e = operand_read tokens r next (made.Word w r.levels) (word w) (token.Word w) tt (omega arith) refl refl operand read e
step_read token.Open tokens r next operand read e = open_read tokens r next operand read e
step_read token.Close tokens r next operand read e = close_read tokens r next operand read e
step_read token.Not tokens r next operand read e = unary_read tokens r next Not operand read e
step_read (token.Operator op) tokens r next operand read e = operator_read tokens r next op operand read e

-- ---- whole expressions

-- a tree spells the tokens
pub record Spells (tokens : List ExpressionToken) : Type 0 where
  pub tree : Tree
  pub grouped : IsGrouped tree
  pub spells : spelling tree ≡ tokens

end_frames : (tokens : List ExpressionToken) (r : Reading) (t : Tree) (read : Read tokens r (Some t)) (ss : List ExpressionStep) (ws : List Waiting) → Reduced 0 read.frames t ws → (e : Expression) → whole r.deepest ss ws ≡ Some e → Spells tokens
end_frames tokens r t read ss (w ∷ ws) red e h = absurd (cc)
end_frames tokens r t read ss [] red e h = by_frames red.frames red.waits red.spells where
  by_frames : (fs : List Frame) → waits_of fs ≡ [] → spelled fs ++ spelling red.tree ≡ spelled read.frames ++ spelling t → Spells tokens
  by_frames [] w s = record { tree = red.tree; grouped = red.grouped; spells = s ∙ read.spells }
  by_frames (left op u ∷ fs) w s = absurd (cc)
  by_frames (prefix u ∷ fs) w s = absurd (cc)
  by_frames (opened ∷ fs) w s = absurd (cc)

ended_read : (tokens : List ExpressionToken) (r : Reading) (operand : Option Tree) → Read tokens r operand → (e : Expression) → ended r ≡ Some e → Spells tokens
ended_read tokens r None read e h =
    let p = unguarded r.due (whole r.deepest (settled 0 r.steps r.waits).steps (settled 0 r.steps r.waits).waits) e h in
    true_false r.due (sym read.due) p.0
ended_read tokens r (Some t) read e h =
    let p = unguarded r.due (whole r.deepest (settled 0 r.steps r.waits).steps (settled 0 r.steps r.waits).waits) e h in
    end_frames tokens r t read (settled 0 r.steps r.waits).steps (settled 0 r.steps r.waits).waits (reduced_here 0 (omega arith) tokens r t read) e p.1

steps_read : (ts tokens : List ExpressionToken) (r : Reading) (operand : Option Tree) → Read tokens r operand → (e : Expression) → option_and_then ended (steps_on ts r) ≡ Some e → Spells (tokens ++ ts)
steps_read [] tokens r operand read e h = subst Spells (sym (append-nil tokens)) (ended_read tokens r operand read e h)
steps_read (x ∷ ts) tokens r operand read e h = on_step (λ next o more f. steps_read ts (tokens ++ x ∷ []) next o more e f) (step r x) refl h where
  on_step : ((next : Reading) (o : Option Tree) → Read (tokens ++ x ∷ []) next o → option_and_then ended (steps_on ts next) ≡ Some e → Spells ((tokens ++ x ∷ []) ++ ts)) → (o : Option Reading) → step r x ≡ o → option_and_then ended (option_and_then (steps_on ts) o) ≡ Some e → Spells (tokens ++ x ∷ ts)
  on_step after None s f = absurd (cc)
  on_step after (Some next) s f =
      let more = step_read x tokens r next operand read s in
      subst Spells (append_assoc tokens (x ∷ []) ts) (after next more.0 more.1 f)

pub parsed_spells : (tokens : List ExpressionToken) (e : Expression) → parsed tokens ≡ Some e → Spells tokens
parsed_spells tokens e h =
    steps_read tokens [] nothing_read None (record { frames = []; stands = tt; waits = refl; due = refl; spells = refl }) e h
