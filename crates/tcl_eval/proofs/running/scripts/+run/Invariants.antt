use Rattle.std.proofs.Common.{◌+◌, ◌*◌, ◌≤◌, drop, length, reverse}
use Rattle.tcl_model.specs.BuiltIns.{no_text}
use Rattle.tcl_model.specs.NamedCommands.{ReadsWord}
use Rattle.tcl_model.specs.ScriptRun.{RunsCommand}
use Rattle.tcl_eval.specs.ScriptReads.{beginning}
use Rattle.tcl_eval.specs.Worlds.{level_of, world}
use Rattle.tcl_eval.proofs.CommandRuns.{RunsOn}
use Rattle.tcl_eval.proofs.NamedRuns.{EachOn, FirstOn}
use Rattle.tcl_eval.proofs.StepRuns.{AllStepsOn}
use Rattle.tcl_eval.proofs.WordRuns.{PartsOn, WordsOn}
use Rattle.tcl_eval.proofs.running.scripts.+run.Given as goal

-- ---- the levels that are left go down from a body to its commands, and each function calls those below it

abbrev pub decreases-run_command : goal.decreases-run_command
decreases-run_command g l = 16 * l.level.left + 12

abbrev pub decreases-run_named : goal.decreases-run_named
decreases-run_named g l = 16 * l.level.left + 10

abbrev pub decreases-repeat : goal.decreases-repeat
decreases-repeat g l = 16 * l.level.left + 8

abbrev pub decreases-choose : goal.decreases-choose
decreases-choose g l = 16 * l.level.left + 8

abbrev pub decreases-run_first : goal.decreases-run_first
decreases-run_first g l = 16 * l.level.left + 7

abbrev pub decreases-evaluate : goal.decreases-evaluate
decreases-evaluate g l = 16 * l.level.left + 6

abbrev pub decreases-run_step : goal.decreases-run_step
decreases-run_step g l = 16 * l.level.left + 5

abbrev pub decreases-run_word : goal.decreases-run_word
decreases-run_word g l = 16 * l.level.left + 4

abbrev pub decreases-run_part : goal.decreases-run_part
decreases-run_part g l = 16 * l.level.left + 2

abbrev pub decreases-run_body : goal.decreases-run_body
decreases-run_body g l = 16 * l.level.left

-- ---- whatever is told or given after a place, is told or given from the beginning on

abbrev pub invariant-run_body-loop-last : goal.invariant-run_body-loop-last
invariant-run_body-loop-last g l =
    RunsOn (RunsCommand (level_of g.H.Commands.host l.inner)) (beginning l.script) no_text
    (world l.initial.run (g.H.Commands.state l.initial.host)) l.reader l.last (world l.run (g.H.Commands.state l.host))

abbrev pub decreases-run_body-loop-last : goal.decreases-run_body-loop-last
decreases-run_body-loop-last g l = length l.reader.text

abbrev pub invariant-run_command-loop-word : goal.invariant-run_command-loop-word
invariant-run_command-loop-word g l =
    WordsOn (level_of g.H.Commands.host l.level) l.command.words (world l.initial.run (g.H.Commands.state l.initial.host)) l.values.items
    (drop l.word-index l.word-items) (world l.run (g.H.Commands.state l.host))

abbrev pub invariant-run_word-loop-part : goal.invariant-run_word-loop-part
invariant-run_word-loop-part g l =
    PartsOn (level_of g.H.Commands.host l.level) l.inside l.parts (world l.initial.run (g.H.Commands.state l.initial.host)) l.joined
    (drop l.part-index l.parts) (world l.run (g.H.Commands.state l.host))

abbrev pub invariant-repeat-loop-item : goal.invariant-repeat-loop-item
invariant-repeat-loop-item g l =
    EachOn (level_of g.H.Commands.host l.level) l.name l.body l.item-items (world l.initial.run (g.H.Commands.state l.initial.host))
    (drop l.item-index l.item-items) (world l.run (g.H.Commands.state l.host))

abbrev pub invariant-run_first-loop-branch : goal.invariant-run_first-loop-branch
invariant-run_first-loop-branch g l =
    FirstOn (level_of g.H.Commands.host l.level) l.branches l.otherwise (world l.initial.run (g.H.Commands.state l.initial.host))
    (drop l.branch-index l.branches) (world l.run (g.H.Commands.state l.host))

abbrev pub invariant-evaluate-loop-step : goal.invariant-evaluate-loop-step
invariant-evaluate-loop-step g l =
    AllStepsOn (ReadsWord (level_of g.H.Commands.host l.level)) l.step-items (world l.initial.run (g.H.Commands.state l.initial.host))
    l.passed (reverse l.values.items) (drop l.step-index l.step-items) (world l.run (g.H.Commands.state l.host))
    × (l.passed ≤ l.step-index)
