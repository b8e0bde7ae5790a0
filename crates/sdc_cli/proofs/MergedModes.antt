-- What printable modes have, one after the other, and what their merged mode has.
use Rattle.std.proofs.Common.{◌≡◌, ◌++◌, ◌+◌, ℕ, List, [], ◌∷◌, length, arith}
use Rattle.std.specs.List.{AllZip}
use Rattle.timing_types.specs.declared.modes.Mode.{Mode}
use Rattle.timing_types.specs.declared.views.ClockMap.{ClockMap}
use Rattle.merge_model.specs.ClockIdentity.{IsClockMap}
use Rattle.sdc_model.specs.EdgesText.{ModesHaveTimes}
use Rattle.merge_model.specs.PlainViews.{clocks_in, views_of}
use Rattle.mode_model.specs.PrintedFile.{ArePrintableClocks, ModesArePrintable}
use Rattle.sdc_cli.specs.MergeRows.{IsNumbered}
use Rattle.sdc_cli.proofs.SaidClocks.{printable_has_times}

pub printable-push : (modes : List Mode) (mode : Mode) → ModesArePrintable modes → ArePrintableClocks [] mode.clocks → ModesArePrintable (modes ++ mode ∷ [])
printable-push [] mode have clocks = (clocks, tt)
printable-push (m ∷ modes) mode have clocks = (have.0, printable-push modes mode have.1 clocks)

pub clocks_in-push : (modes : List Mode) (mode : Mode) → clocks_in (modes ++ mode ∷ []) ≡ clocks_in modes + length mode.clocks
clocks_in-push [] mode = omega arith
clocks_in-push (m ∷ modes) mode = omega (arith, clocks_in-push modes mode)

pub printable_have_times : (modes : List Mode) → ModesArePrintable modes → ModesHaveTimes modes
printable_have_times [] have = tt
printable_have_times (m ∷ modes) have = (printable_has_times m.clocks [] have.0, printable_have_times modes have.1)

all_numbered : (modes : List Mode) (maps : List (List ℕ)) → AllZip (λ view numbers. length numbers ≡ length view.mode.clocks) (views_of modes) maps → AllZip IsNumbered modes maps
all_numbered [] [] all = tt
all_numbered [] (numbers ∷ maps) all = absurd all
all_numbered (mode ∷ modes) [] all = absurd all
all_numbered (mode ∷ modes) (numbers ∷ maps) all = (all.0, all_numbered modes maps all.1)

-- each clock of each mode has the number of its merged clock
pub maps_are_numbered : (modes : List Mode) (answer : ClockMap) → IsClockMap (views_of modes) answer → AllZip IsNumbered modes answer.maps
maps_are_numbered modes answer is = all_numbered modes answer.maps is.shape
