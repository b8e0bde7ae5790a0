-- What was read of an expression before an operand, and how what is done of it becomes a tree.
use Rattle.std.proofs.Common.{◌≡◌, ◌<◌, ◌≤◌, ◌++◌, ℕ, Bool, true, false, List, [], ◌∷◌, nat_le, if◌then◌else◌, refl, sym, ap, ◌∙◌, arith, append_assoc}
use Rattle.std.proofs.lemmas.Bool.Decides.{nat_tests}
use Rattle.source_types.specs.declared.expressions.BinaryOperator.{BinaryOperator}
use Rattle.source_types.specs.declared.expressions.ExpressionStep.{ExpressionStep}
use Rattle.source_types.specs.declared.expressions.ExpressionStep.TheVariants as made
use Rattle.source_types.specs.declared.expressions.ExpressionToken.{ExpressionToken}
use Rattle.source_types.specs.declared.expressions.ExpressionToken.TheVariants as token
use Rattle.source_types.specs.declared.expressions.UnaryOperator.{UnaryOperator}
use Rattle.tcl_eval.specs.declared.expressions.waiting.Waiting.{Waiting}
use Rattle.tcl_eval.specs.declared.expressions.waiting.Waiting.TheVariants as waiting
use Rattle.tcl_model.specs.ExpressionForm.{IsGrouped, Tree, binary, binding, spelling, tightness, unary, unary_binding, unary_token}
use Rattle.tcl_eval.specs.ExpressionReading.{settled}
use Rattle.tcl_eval.proofs.ReadTrees.{Accepts, binding_low}

-- ---- what was read before an operand

-- an operator with its left side, an operator before the operand, or a parenthesis
pub data Frame : Type 0 where
  left : BinaryOperator → Tree → Frame
  prefix : UnaryOperator → Frame
  opened : Frame

abbrev pub waits_of : List Frame → List Waiting
waits_of [] = []
waits_of (left op t ∷ fs) = waiting.Binary op ∷ waits_of fs
waits_of (prefix u ∷ fs) = waiting.Unary u ∷ waits_of fs
waits_of (opened ∷ fs) = waiting.Open ∷ waits_of fs

-- the tokens of what was read, the last frame first
abbrev pub spelled : List Frame → List ExpressionToken
spelled [] = []
spelled (left op t ∷ fs) = spelled fs ++ (spelling t ++ token.Operator op ∷ [])
spelled (prefix u ∷ fs) = spelled fs ++ unary_token u ∷ []
spelled (opened ∷ fs) = spelled fs ++ token.Open ∷ []

abbrev pub AreFrames : List Frame → Type 0
AreFrames [] = Unit {0}
AreFrames (left op t ∷ fs) = IsGrouped t × (binding op ≤ tightness t) × Accepts (waits_of fs) (binding op) × AreFrames fs
AreFrames (prefix u ∷ fs) = AreFrames fs
AreFrames (opened ∷ fs) = AreFrames fs

pub accepts_tight : (ws : List Waiting) → Accepts ws unary_binding
accepts_tight [] = tt
accepts_tight (waiting.Open ∷ ws) = tt
accepts_tight (waiting.Unary u ∷ ws) = omega arith
accepts_tight (waiting.Binary op ∷ ws) = binding_low op

-- ---- what is done becomes a tree

-- what stands after these frames, when all is done that binds so tightly
pub record Reduced (b : ℕ) (fs : List Frame) (t : Tree) (ws : List Waiting) : Type 0 where
  pub frames : List Frame
  pub tree : Tree
  pub waits : waits_of frames ≡ ws
  pub are : AreFrames frames
  pub grouped : IsGrouped tree
  pub tight : b ≤ tightness tree
  pub accepts : Accepts (waits_of frames) b
  pub spells : spelled frames ++ spelling tree ≡ spelled fs ++ spelling t

respelled : {b : ℕ} {fs gs : List Frame} {t u : Tree} {ws : List Waiting} → Reduced b fs t ws → spelled fs ++ spelling t ≡ spelled gs ++ spelling u → Reduced b gs u ws
respelled r e = record { frames = r.frames; tree = r.tree; waits = r.waits; are = r.are; grouped = r.grouped; tight = r.tight; accepts = r.accepts; spells = r.spells ∙ e }

pub of_three : {A : Type 0} (a b c d : List A) → a ++ (b ++ (c ++ d)) ≡ (a ++ (b ++ c)) ++ d
of_three a b c d = ap (λ x. a ++ x) (sym (append_assoc b c d)) ∙ sym (append_assoc a (b ++ c) d)

pub reduced : (b : ℕ) → b ≤ unary_binding → (steps : List ExpressionStep) (fs : List Frame) (t : Tree) → AreFrames fs → IsGrouped t → Accepts (waits_of fs) (tightness t) → b ≤ tightness t → Reduced b fs t (settled b steps (waits_of fs)).waits
reduced b low steps [] t are g a tight = record { frames = []; tree = t; waits = refl; are = tt; grouped = g; tight = tight; accepts = tt; spells = refl }
reduced b low steps (opened ∷ fs) t are g a tight =
    record { frames = opened ∷ fs; tree = t; waits = refl; are = are; grouped = g; tight = tight; accepts = tt; spells = refl }
reduced b low steps (prefix u ∷ fs) t are g a tight =
    respelled (reduced b low (steps ++ made.Unary u ∷ []) fs (unary u t) are (g, a) (accepts_tight (waits_of fs)) low)
    (sym (append_assoc (spelled fs) (unary_token u ∷ []) (spelling t)))
reduced b low steps (left op l ∷ fs) t are g a tight =
    chosen (λ h. reduced b low (steps ++ made.Binary op ∷ []) fs (binary op l t) are.3 (are.0, g, are.1, a) are.2 h) (nat_le b (binding op)) refl where
      below : nat_le b (binding op) ≡ true → b ≤ binding op
      below h = grind (arith, nat_tests)

      above : nat_le b (binding op) ≡ false → binding op < b
      above h = grind (arith, nat_tests)

      chosen : (b ≤ binding op → Reduced b fs (binary op l t) (settled b (steps ++ made.Binary op ∷ []) (waits_of fs)).waits) → (d : Bool) → nat_le b (binding op) ≡ d
          → Reduced b (left op l ∷ fs) t (if d then settled b (steps ++ made.Binary op ∷ []) (waits_of fs) else record { steps = steps; waits = waiting.Binary op ∷ waits_of fs }).waits
      chosen inner true e = respelled (inner (below e)) (of_three (spelled fs) (spelling l) (token.Operator op ∷ []) (spelling t))
      chosen inner false e =
          record { frames = left op l ∷ fs; tree = t; waits = refl; are = are; grouped = g; tight = tight; accepts = above e; spells = refl }
