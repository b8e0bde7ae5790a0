-- The length of a merged text: that of the file of the merged clocks alone, and those of the lines of their groups.
use Rattle.std.proofs.Common.{◌≡◌, ◌∙◌, ℕ, ◌+◌, List, [], length, refl, sym, ap, inr, subst}
use Rattle.sdc_base.specs.Time.{IsUnit}
use Rattle.timing_types.specs.declared.clocks.Pair.{Pair}
use Rattle.timing_types.specs.declared.merges.Merged.{Merged}
use Rattle.timing_types.specs.declared.modes.Mode.{Mode}
use Rattle.timing_types.specs.declared.views.ClockMap.{ClockMap}
use Rattle.merge_model.specs.ClockIdentity.{IsClockMap}
use Rattle.merge_model.specs.Exclusive.{AreExclusivePairs}
use Rattle.merge_model.specs.MergedMode.{IsMergeOf}
use Rattle.merge_model.specs.PlainViews.{views_of}
use Rattle.constraint_model.specs.ExclusivePairs.{ArePairs}
use Rattle.mode_model.specs.PrintedFile.{ArePrintableClocks, IsPrintable, ModesArePrintable, printed_file}
use Rattle.constraint_model.specs.ModeLines.{IsOfClocks}
use Rattle.sdc_print.specs.Runs.{groups_text}
use Rattle.sdc_print.proofs.GroupLengths.{groups_added}
use Rattle.flat_design.specs.EmptyDesign.{empty_design}
use Rattle.sdc_cli.specs.MergeOutput.{merged_text, IsMergedLength}
use Rattle.sdc_cli.proofs.MergedClocks.{merged_is_printable}

pub nanoseconds : IsUnit empty_design.unit
nanoseconds = inr (inr (inr refl))

-- the merged clocks alone can be printed
pub alone_is_printable : (modes : List Mode) (map : ClockMap) (alone : Mode) → ModesArePrintable modes → IsClockMap (views_of modes) map
    → alone.clocks ≡ map.clocks → alone.exclusive ≡ [] → IsOfClocks alone → IsPrintable empty_design alone
alone_is_printable modes map alone printable is clocks none of_clocks = record {
  unit = nanoseconds;
  clocks = subst (ArePrintableClocks []) (sym clocks) (merged_is_printable modes map printable is);
  pairs = subst (ArePairs (length alone.clocks)) (sym none) tt;
  alone = of_clocks;
}

-- the merge of modes by its clocks and its exclusive pairs
abbrev merge_by : ClockMap → List Pair → Merged
merge_by map pairs = record {
  mode = record {
    clocks = map.clocks;
    exclusive = pairs;
    cases = [];
    disabled = [];
    delays = [];
    exceptions = [];
    kept = [];
    notes = [];
  };
  clocks = map;
  listed = [];
  left = [];
}

pub counted : (modes : List Mode) (map : ClockMap) (pairs : List Pair) (alone : Mode) (front bytes : ℕ)
    → IsClockMap (views_of modes) map → AreExclusivePairs (views_of modes) map.maps (length map.clocks) pairs
    → alone.clocks ≡ map.clocks → alone.exclusive ≡ []
    → front ≡ length (printed_file empty_design alone) → bytes ≡ front + length (groups_text alone.clocks pairs)
    → IsMergedLength modes bytes
counted modes map pairs alone front bytes is exclusive clocks none front_is bytes_is =
    let merged : Merged = merge_by map pairs in
    let merge : IsMergeOf modes merged = record { identity = is; clocks = refl; exclusive = exclusive; alone = refl; listed = refl; left = refl } in
    let total : length (merged_text merged) ≡ length (printed_file empty_design alone) + length (groups_text map.clocks pairs) =
    groups_added empty_design alone merged.mode clocks none in
    let bytes_are : bytes ≡ front + length (groups_text map.clocks pairs) = bytes_is ∙ ap (λ cs. front + length (groups_text cs pairs)) clocks in
    (merged, merge, total ∙ ap (λ n. n + length (groups_text map.clocks pairs)) (sym front_is) ∙ sym bytes_are)
