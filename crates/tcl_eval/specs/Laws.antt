-- What the laws of this crate say. A text has one form as an expression: one tree, one parsed form, or none; this is a
-- fact of the project's own rule of reading it, and so `BadExpr` is answered exactly where the form of expressions has
-- nothing else. A script that is run over a host with one answer to each call has one outcome.
use Rattle.std.specs.Prelude.{◌≡◌, ℕ, List, Result}
use Rattle.sdc_base.specs.declared.memory.At.{At}
use Rattle.source_types.specs.declared.expressions.Expression.{Expression}
use Rattle.source_types.specs.declared.kinds.Kind.{Kind}
use Rattle.source_types.specs.declared.kinds.TclKind.{TclKind}
use Rattle.timing_types.specs.declared.objects.Value.{Value}
use Rattle.tcl_model.specs.ExpressionForm.{IsExpression, Tree}
use Rattle.tcl_model.specs.ExpressionRun.{RunStep}
use Rattle.tcl_model.specs.ExpressionSteps.{ParsesTo}
use Rattle.tcl_model.specs.HostCalls.{Answered, Host}
use Rattle.tcl_model.specs.ScriptRun.{Runs}

-- two trees of a text are one
abbrev pub HasOneTree : List ℕ → Type 0
HasOneTree text = (t u : Tree) → IsExpression text t → IsExpression text u → t ≡ u

-- two outcomes of a text are one
abbrev pub HasOneParse : List ℕ → Type 0
HasOneParse text = (r s : Result Expression TclKind) → ParsesTo text r → ParsesTo text s → r ≡ s

-- a step has one outcome and leaves one state
abbrev pub IsOne : {S A : Type 0} → RunStep S A → Type 0
IsOne {S = S} {A = A} Does =
    (before : S) (a b : Result A Kind) (x y : S) → Does before a x → Does before b y → (a ≡ b) × (x ≡ y)

-- a host has one answer to each call, and is left in one state after it
abbrev pub HostIsOne : {S : Type 0} → Host S → Type 0
HostIsOne host = (line : ℕ) (name : List ℕ) (words : List Value) → IsOne (Answered (host.Answers line name words))

-- two outcomes of a script over a host are one, and so are the states that the host is left in
abbrev pub HasOneRun : {S : Type 0} → Host S → List ℕ → Type 0
HasOneRun {S = S} host script =
    (before : S) (a b : Result Unit (At Kind)) (x y : S) → Runs host script before a x → Runs host script before b y → (a ≡ b) × (x ≡ y)
