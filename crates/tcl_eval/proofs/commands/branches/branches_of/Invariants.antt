use Rattle.std.proofs.Common.{◌≡◌, drop}
use Rattle.tcl_model.specs.Branches as spec
use Rattle.tcl_eval.specs.BranchesRead.{said_after}
use Rattle.tcl_eval.proofs.commands.branches.branches_of.Given as goal

-- what the words that are left say after those that were read is what all say
abbrev pub invariant-loop-word : goal.invariant-loop-word
invariant-loop-word l = said_after l.branches l.expects (drop l.word-index l.words) ≡ spec.branches_of l.words
