-- What a `Reading` of this crate stands for, and what is done of what waits. This project's own.
-- The code keeps the last of what waits at the end.
use Rattle.std.specs.Prelude.{◌≡◌, ◌<◌, ◌++◌, ℕ, true, false, List, [], ◌∷◌, length, reverse, Option, Some, None}
use Rattle.source_types.specs.declared.expressions.ExpressionStep.{ExpressionStep}
use Rattle.tcl_eval.specs.declared.expressions.reading.Reading.{Reading}
use Rattle.tcl_eval.specs.declared.expressions.waiting.Waiting.{Waiting}
use Rattle.tcl_eval.specs.ExpressionReading as spec
use Rattle.tcl_eval.specs.ExpressionReading.{done, is_done, settled}

abbrev pub seen : Reading → spec.Reading
seen r = record { steps = r.steps; waits = reverse r.waits.items; levels = r.levels; deepest = r.deepest; due = r.due }

-- the step that what waits becomes, where it is done
abbrev pub DoneAs : ℕ → Waiting → Option ExpressionStep → Type 0
DoneAs b w None = is_done b w ≡ false
DoneAs b w (Some step) = (is_done b w ≡ true) × (done w ≡ step ∷ [])

-- the last of what waits is taken, where it is done
abbrev pub TakesDone : ℕ → List Waiting → List Waiting → Option ExpressionStep → Type 0
TakesDone b old new None = (new ≡ old) × ((steps : List ExpressionStep) → settled b steps (reverse old) ≡ record { steps = steps; waits = reverse old })
TakesDone b old new (Some step) =
    (length new < length old) × ((steps : List ExpressionStep) → settled b steps (reverse old) ≡ settled b (steps ++ step ∷ []) (reverse new))
