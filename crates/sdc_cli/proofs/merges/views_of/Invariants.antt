use Rattle.std.proofs.Common.{◌≡◌, ◌++◌, drop}
use Rattle.merge_model.specs.PlainViews.{views_of}
use Rattle.sdc_cli.proofs.merges.views_of.Given as goal

-- the views so far and those of the modes that are left are those of all modes
abbrev pub invariant-loop-mode : goal.invariant-loop-mode
invariant-loop-mode l = l.views ++ views_of (drop l.mode-index l.modes) ≡ views_of l.modes
