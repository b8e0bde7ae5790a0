-- The merged mode of several modes of clocks and clock groups. This project's own rule.
-- It reads: the merged clocks are those of clock identity, over the modes with their own waveforms; the exclusive ones
-- are exactly those that no mode has both of and lets be timed; there is no other part, and nothing is listed or left.
use Rattle.std.specs.Prelude.{◌≡◌, List, [], length}
use Rattle.timing_types.specs.declared.merges.Merged.{Merged}
use Rattle.timing_types.specs.declared.modes.Mode.{Mode}
use Rattle.merge_model.specs.ClockIdentity.{IsClockMap}
use Rattle.merge_model.specs.Exclusive.{AreExclusivePairs}
use Rattle.merge_model.specs.PlainViews.{views_of}
use Rattle.constraint_model.specs.ModeLines.{IsOfClocks}

pub record IsMergeOf (modes : List Mode) (merged : Merged) : Type 0 where
  pub identity : IsClockMap (views_of modes) merged.clocks
  pub clocks : merged.mode.clocks ≡ merged.clocks.clocks
  pub exclusive : AreExclusivePairs (views_of modes) merged.clocks.maps (length merged.mode.clocks) merged.mode.exclusive
  pub alone : IsOfClocks merged.mode
  pub listed : merged.listed ≡ []
  pub left : merged.left ≡ []
