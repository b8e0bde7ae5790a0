-- The expansion of a design: what is next in a module instance. This project's own words.
-- It reads: an instance of a cell or a module is next, or nothing is left; one that stands deeper than 100 levels stops
-- it.
use Rattle.std.specs.Prelude.{◌≡◌, ◌<◌, ◌+◌, ℕ, true, false, List, length, nat_le, nat_lt, slice_get, Option, Some, None, if◌then◌else◌}
use Rattle.source_types.specs.declared.libraries.Library.{Library}
use Rattle.source_types.specs.declared.netlists.Module.{Module}
use Rattle.flat_model.specs.FlatDesign.{flat}
use Rattle.flat_model.specs.FlatFaults.{is_too_large}
use Rattle.flat_design.specs.declared.elaborate.expansion.Opened.{Opened}
use Rattle.flat_design.specs.declared.elaborate.expansion.NextStep.{NextStep}
use Rattle.flat_design.specs.declared.elaborate.expansion.NextStep.TheVariants as next_step
use Rattle.flat_design.specs.declared.elaborate.elaboration.Elaboration.{Elaboration}
use Rattle.flat_design.specs.declared.elaborate.elaboration.Outer.{Outer}
use Rattle.flat_design.specs.declared.elaborate.walk.Step.{Step}
use Rattle.flat_design.specs.declared.elaborate.walk.Step.TheVariants as step
use Rattle.flat_design.specs.Elaboration.{IsElaboration}
use Rattle.flat_design.specs.Walk.{steps_of}

abbrev pub begun : ℕ → ℕ → ℕ → Opened
begun scope body level = record { scope = scope; body = body; next = 0; level = level }

abbrev pub outer_of : Opened → Outer
outer_of frame = record { scope = frame.scope; instance = frame.next }

abbrev pub frame_after : Opened → Opened
frame_after frame = record { scope = frame.scope; body = frame.body; next = frame.next + 1; level = frame.level }

abbrev pub next_step_of : ℕ → Step → NextStep
next_step_of level (step.Fault kind) = next_step.End
next_step_of level (step.Cell kind) = if nat_lt level 100 then next_step.Cell kind else next_step.Deep
next_step_of level (step.Enter entered fits) = if nat_lt level 100 then next_step.Enter entered else next_step.Deep

abbrev pub next_step_or_end : ℕ → Option Step → NextStep
next_step_or_end level None = next_step.End
next_step_or_end level (Some one) = next_step_of level one

abbrev pub next_step_at : List (List Step) → Opened → NextStep
next_step_at all frame =
    if nat_le (length all) frame.level then next_step.End else next_step_or_end frame.level (slice_get (steps_of all frame.body) frame.next)

-- the design is too large, or this is what stands in it
abbrev pub HasElaboration : List Module → Library → Module → Option Elaboration → Type 0
HasElaboration modules library top None = is_too_large (flat modules library top) ≡ true
HasElaboration modules library top (Some elaboration) = (is_too_large (flat modules library top) ≡ false) × IsElaboration modules library top elaboration

-- an instance that is next has a place that another one may stand after
abbrev pub HasRoom : NextStep → ℕ → Type 0
HasRoom next_step.End next = Unit {0}
HasRoom next_step.Deep next = Unit {0}
HasRoom (next_step.Cell kind) next = next < 18446744073709551615
HasRoom (next_step.Enter entered) next = next < 18446744073709551615
