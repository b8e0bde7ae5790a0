-- Modes have one merged mode: its clocks and its exclusive pairs are determined, and it has no other part.
use Rattle.std.proofs.Common.{◌≡◌, ◌∙◌, ℕ, List, [], length, sym, ap, subst}
use Rattle.timing_types.specs.declared.clocks.Clock.{Clock}
use Rattle.timing_types.specs.declared.clocks.Pair.{Pair}
use Rattle.timing_types.specs.declared.modes.Mode.{Mode}
use Rattle.timing_types.specs.declared.views.ClockMap.{ClockMap}
use Rattle.merge_model.specs.Exclusive.{AreExclusivePairs}
use Rattle.merge_model.specs.PlainViews.{views_of}
use Rattle.constraint_model.specs.ModeLines.{IsOfClocks}
use Rattle.mode_model.specs.PrintedFile.{ModesArePrintable}
use Rattle.clock_map.proofs.OneMap.{map_once}
use Rattle.clock_map.proofs.RisingPairs.{pairs_once}
use Rattle.sdc_cli.proofs.MergedClocks.{views_are_primary}
use Rattle.sdc_cli.specs.Laws.{HaveOneMerge}

-- a mode of clocks and exclusive pairs alone
abbrev clock_mode : List Clock → List Pair → Mode
clock_mode clocks pairs =
    record { clocks = clocks; exclusive = pairs; cases = []; disabled = []; delays = []; exceptions = []; kept = []; notes = [] }

mode_once : (a b : Mode) → IsOfClocks a → IsOfClocks b → a.clocks ≡ b.clocks → a.exclusive ≡ b.exclusive → a ≡ b
mode_once a b alone alone' clocks pairs =
    alone ∙ ap (λ cs. clock_mode cs a.exclusive) clocks ∙ ap (clock_mode b.clocks) pairs ∙ sym alone'

pub merge_once : (modes : List Mode) → ModesArePrintable modes → HaveOneMerge modes
merge_once modes printable a b one other =
    let map : a.clocks ≡ b.clocks = map_once (views_of modes) (views_are_primary modes printable) a.clocks b.clocks one.identity other.identity in
    let clocks : a.mode.clocks ≡ b.mode.clocks = one.clocks ∙ ap (λ (m : ClockMap). m.clocks) map ∙ sym other.clocks in
    let others : AreExclusivePairs (views_of modes) a.clocks.maps (length a.mode.clocks) b.mode.exclusive =
    subst (λ (n : ℕ). AreExclusivePairs (views_of modes) a.clocks.maps n b.mode.exclusive) (sym (ap length clocks))
    (subst (λ (m : ClockMap). AreExclusivePairs (views_of modes) m.maps (length b.mode.clocks) b.mode.exclusive) (sym map) other.exclusive) in
    let pairs = pairs_once (views_of modes) a.clocks.maps (length a.mode.clocks) a.mode.exclusive b.mode.exclusive one.exclusive others in
    let mode = mode_once a.mode b.mode one.alone other.alone clocks pairs in
    let listed = one.listed ∙ sym other.listed in
    let left = one.left ∙ sym other.left in
    λ i. record { mode = mode i; clocks = map i; listed = listed i; left = left i }
