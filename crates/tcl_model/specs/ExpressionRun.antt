-- What an expression gives where it is run (Tcl): its value or its first fault, from the left, and the state that is
-- left. The right side of `&&` and `||` is run only where the left one does not decide. The form is checked before
-- anything is run, then the levels: at most 100 of brackets, bodies and parentheses, this project's own.
-- What a word stands for comes from a run: `Reads level word before read after` says that, inside so many parentheses
-- of the expression, the word has this text or this fault, and what its scripts do to the state.
use Rattle.std.specs.Prelude.{◌≡◌, ◌<◌, ◌≤◌, ◌⊎◌, ℕ, suc, List, Option, Some, None, Result, Ok, Err}
use Rattle.source_types.specs.declared.commands.Word.{Word}
use Rattle.source_types.specs.declared.expressions.BinaryOperator.{BinaryOperator}
use Rattle.source_types.specs.declared.expressions.Scalar.{Scalar}
use Rattle.source_types.specs.declared.expressions.Scalar.TheVariants as scalar
use Rattle.source_types.specs.declared.kinds.Kind.{Kind}
use Rattle.source_types.specs.declared.kinds.Kind.TheVariants.{Tcl}
use Rattle.source_types.specs.declared.kinds.TclKind.{TclKind}
use Rattle.source_types.specs.declared.kinds.TclKind.TheVariants.{BadExpr, TooDeep}
use Rattle.tcl_model.specs.ExpressionForm.{IsExpression, Tree, binary, levels_of, number, parentheses, unary, word}
use Rattle.tcl_model.specs.ExpressionValue.{changed, computed, decided, joined}

-- the state before, a value or a fault, and the state after
abbrev pub RunStep : Type 0 → Type 0 → Type 1
RunStep State A = State → Result A Kind → State → Type 0

-- an outcome of operators, and of a word, as an outcome of the run
abbrev pub raised : Result Scalar TclKind → Result Scalar Kind
raised (Ok v) = Ok v
raised (Err fault) = Err (Tcl fault)

abbrev pub as_scalar : Result (List ℕ) Kind → Result Scalar Kind
as_scalar (Ok text) = Ok (scalar.Text text)
as_scalar (Err fault) = Err fault

-- an operation on a value, where there is one
abbrev pub then_on : Result Scalar Kind → (Scalar → Result Scalar TclKind) → Result Scalar Kind
then_on (Ok v) operation = raised (operation v)
then_on (Err fault) operation = Err fault

-- how an operator goes on after its left side: what this decides is given, and the right side is not run; where it
-- decides nothing, the right side is run and joined to it
abbrev pub RunsRight : {State : Type 0} → RunStep State Scalar → BinaryOperator → Scalar → Option (Result Scalar TclKind) → RunStep State Scalar
RunsRight Right op left (Some outcome) between given after = (given ≡ raised outcome) × (after ≡ between)
RunsRight Right op left None between given after =
    (right : Result Scalar Kind) × Right between right after × (given ≡ then_on right (joined op left))

abbrev pub GoesOn : {State : Type 0} → RunStep State Scalar → BinaryOperator → Result Scalar Kind → RunStep State Scalar
GoesOn Right op (Ok left) between given after = RunsRight Right op left (decided op left) between given after
GoesOn Right op (Err fault) between given after = (given ≡ Err fault) × (after ≡ between)

-- what a tree gives inside so many parentheses
abbrev pub Evaluates : {State : Type 0} → (ℕ → Word → RunStep State (List ℕ)) → ℕ → Tree → RunStep State Scalar
Evaluates Reads level (number n) before given after = (given ≡ raised (computed n)) × (after ≡ before)
Evaluates Reads level (word w) before given after = (read : Result (List ℕ) Kind) × Reads level w before read after × (given ≡ as_scalar read)
Evaluates Reads level (parentheses t) before given after = Evaluates Reads (suc level) t before given after
Evaluates Reads level (unary op t) before given after =
    (operand : Result Scalar Kind) × Evaluates Reads level t before operand after × (given ≡ then_on operand (changed op))
Evaluates {State = S} Reads level (binary op left right) before given after =
    (first : Result Scalar Kind) × (between : S) × Evaluates Reads level left before first between
    × GoesOn (Evaluates Reads level right) op first between given after

-- a tree is run where its levels are not more than those that are left to be opened
abbrev pub RunsTree : {State : Type 0} → (ℕ → Word → RunStep State (List ℕ)) → ℕ → Tree → RunStep State Scalar
RunsTree Reads left tree before given after =
    ((levels_of tree ≤ left) × Evaluates Reads 0 tree before given after)
    ⊎ ((left < levels_of tree) × (given ≡ Err (Tcl TooDeep)) × (after ≡ before))

-- what a text gives as an expression, where so many levels are left to be opened
abbrev pub RunsExpression : {State : Type 0} → (ℕ → Word → RunStep State (List ℕ)) → ℕ → List ℕ → RunStep State Scalar
RunsExpression Reads left text before given after =
    ((tree : Tree) × IsExpression text tree × RunsTree Reads left tree before given after)
    ⊎ (((tree : Tree) → IsExpression text tree → ⊥) × (given ≡ Err (Tcl BadExpr)) × (after ≡ before))
