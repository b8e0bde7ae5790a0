-- No number in a report's tree is a float.
use Rattle.std.proofs.Common.{◌≡◌, ℤ, pos, negsuc, List, [], ◌∷◌, map, Option, Some, None, false, refl}
use Rattle.serde_json.specs.Data.{Data, string}
use Rattle.serde_json.specs.Find.{of_integer, is_float}
use Rattle.serde_json.specs.View.{items_of}
use Rattle.serde_json.specs.Written.{has_float, items_have_float}
use Rattle.sdc_cli.specs.declared.reports.Report.{Report}
use Rattle.sdc_cli.specs.declared.reports.Report.TheVariants.{Merge}
use Rattle.sdc_cli.specs.declared.reports.ClockRow.{ClockRow}
use Rattle.sdc_cli.specs.declared.reports.ListedRow.{ListedRow}
use Rattle.sdc_cli.specs.ReportTree.{tree_of, time_tree, mode_clock_tree, clock_row_tree, listed_row_tree, left_row_tree}

pub no_float-items : {T : Type 0} (tree : T → Data) → ((thing : T) → has_float (tree thing) ≡ false) → (things : List T) → items_have_float (items_of (map tree things)) ≡ false
no_float-items tree each [] = refl
no_float-items tree each (thing ∷ things) = rw (each thing) (no_float-items tree each things)

pub no_float-integer : (time : ℤ) → is_float (of_integer time) ≡ false
no_float-integer (pos n) = refl
no_float-integer (negsuc n) = refl

pub no_float-time : (time : Option ℤ) → has_float (time_tree time) ≡ false
no_float-time None = refl
no_float-time (Some time) = no_float-integer time

pub no_float-clock_row : (row : ClockRow) → has_float (clock_row_tree row) ≡ false
no_float-clock_row row = rw (no_float-items mode_clock_tree (λ _. refl) row.modes) refl

pub no_float-listed_row : (row : ListedRow) → has_float (listed_row_tree row) ≡ false
no_float-listed_row row =
    rw (no_float-integer row.merged, no_float-items string (λ _. refl) row.path, no_float-time row.required) refl

pub no_float-tree : (report : Report) → has_float (tree_of report) ≡ false
no_float-tree (Merge report) =
    rw (no_float-items clock_row_tree no_float-clock_row report.clocks, no_float-items listed_row_tree no_float-listed_row report.listed, no_float-items left_row_tree (λ _. refl) report.not_carried) refl
