-- A report as a JSON value (RFC 8259) and as bytes. This project's own: an object has its keys in the order of their
-- bytes, a clock of a mode is the array of its file and its name, a time is a bare number of femtoseconds and none is
-- null. Reads as the report's structs, from the small rows up to the whole.
use Rattle.std.specs.Prelude.{ℕ, ℤ, List, ◌++◌, map, codes, Option, Some, None}
use Rattle.serde_json.specs.Data.{Data, unsigned, null, number, string, array, object, item, no_items, member, no_members}
use Rattle.serde_json.specs.Find.{of_integer}
use Rattle.serde_json.specs.View.{items_of}
use Rattle.serde_json.specs.Written.{compact_text}
use Rattle.sdc_cli.specs.declared.reports.Report.{Report}
use Rattle.sdc_cli.specs.declared.reports.Report.TheVariants.{Merge}
use Rattle.sdc_cli.specs.declared.reports.MergeReport.{MergeReport}
use Rattle.sdc_cli.specs.declared.reports.ClockRow.{ClockRow}
use Rattle.sdc_cli.specs.declared.reports.ModeClock.{ModeClock}
use Rattle.sdc_cli.specs.declared.reports.ListedRow.{ListedRow}
use Rattle.sdc_cli.specs.declared.reports.LeftRow.{LeftRow}

-- things as an array, each by its own tree
abbrev pub array_of : {T : Type 0} → (T → Data) → List T → Data
array_of tree things = array (items_of (map tree things))

-- a time, or null for none
abbrev pub time_tree : Option ℤ → Data
time_tree None = null
time_tree (Some time) = number (of_integer time)

abbrev pub mode_clock_tree : ModeClock → Data
mode_clock_tree clock = array (item (string clock.file) (item (string clock.name) no_items))

abbrev pub clock_row_tree : ClockRow → Data
clock_row_tree row =
    object (member (codes "modes") (array_of mode_clock_tree row.modes)
    (member (codes "name") (string row.name)
    no_members))

abbrev pub listed_row_tree : ListedRow → Data
listed_row_tree row =
    object (member (codes "capture") (string row.capture)
    (member (codes "end") (string row.end)
    (member (codes "launch") (string row.launch)
    (member (codes "merged") (number (of_integer row.merged))
    (member (codes "path") (array_of string row.path)
    (member (codes "required") (time_tree row.required)
    (member (codes "side") (string row.side)
    no_members)))))))

abbrev pub left_row_tree : LeftRow → Data
left_row_tree row =
    object (member (codes "command") (string row.command)
    (member (codes "file") (string row.file)
    (member (codes "line") (number (unsigned row.line))
    no_members)))

abbrev pub merge_tree : MergeReport → Data
merge_tree report =
    object (member (codes "clocks") (array_of clock_row_tree report.clocks)
    (member (codes "listed") (array_of listed_row_tree report.listed)
    (member (codes "not_carried") (array_of left_row_tree report.not_carried)
    no_members)))

abbrev pub tree_of : Report → Data
tree_of (Merge report) = merge_tree report

-- the value without a space, and a newline after it
abbrev pub report_bytes : Report → List ℕ
report_bytes report = compact_text (tree_of report) ++ codes "\n"
