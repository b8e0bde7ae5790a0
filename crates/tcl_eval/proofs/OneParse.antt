-- A text has one form as an expression, or none.
use Rattle.std.proofs.Common.{◌≡◌, ℕ, List, Result, Ok, Err, sym, ap, ◌∙◌}
use Rattle.source_types.specs.declared.expressions.Expression.{Expression}
use Rattle.source_types.specs.declared.kinds.TclKind.{TclKind}
use Rattle.tcl_model.specs.ExpressionForm.{IsExpression, Tree, spelling}
use Rattle.tcl_model.specs.ExpressionSteps.{ParsesTo, kept}
use Rattle.tcl_model.specs.ExpressionTokens.{StandsToken, all_read}
use Rattle.text_model.proofs.RowFacts.{row_once}
use Rattle.tcl_eval.proofs.OneTree.{trees_once}
use Rattle.tcl_eval.proofs.TokenFacts.{token_once}

pub expressions_once : (text : List ℕ) (t u : Tree) → IsExpression text t → IsExpression text u → t ≡ u
expressions_once text t u p q =
    trees_once t u p.grouped q.grouped (row_once StandsToken token_once (spelling t) (spelling u) text all_read all_read p.spelled q.spelled).0

pub parses_once : (text : List ℕ) (r s : Result Expression TclKind) → ParsesTo text r → ParsesTo text s → r ≡ s
parses_once text (Ok e) (Ok f) p q = ap (λ x. Ok x) (p.2 ∙ (ap kept (expressions_once text p.0 q.0 p.1 q.1) ∙ sym q.2))
parses_once text (Ok e) (Err k) p q = absurd (q.1 p.0 p.1)
parses_once text (Err j) (Ok f) p q = absurd (p.1 q.0 q.1)
parses_once text (Err j) (Err k) p q = ap (λ x. Err x) (p.0 ∙ sym q.0)
