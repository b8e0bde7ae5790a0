-- The exit number of the tool for each answer of a run: what a shell sees. This project's own rule.
-- 0 is reserved for work that is done and found nothing; the numbers never change their meaning.
use Rattle.std.specs.Prelude.{ℕ}
use Rattle.sdc_model.specs.declared.answers.Status.{Status}
use Rattle.sdc_model.specs.declared.answers.Status.TheVariants.{Done, Findings, Usage, Source, Loop, Conflict, Budget, ReadFault, WriteFault, NoMemory, TooLarge}

-- the number that the tool exits with
abbrev pub exit_of : Status → ℕ
exit_of Done = 0
exit_of Findings = 1
exit_of Usage = 2
exit_of (Source _) = 3
exit_of (Loop _) = 4
exit_of (Conflict _ _ _) = 5
exit_of (Budget _) = 6
exit_of (ReadFault _) = 7
exit_of WriteFault = 8
exit_of NoMemory = 9
exit_of (TooLarge _) = 10
