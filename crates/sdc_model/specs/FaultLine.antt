-- The line that names what stopped a run, and how it stands in the channel of faults. This project's own rule.
-- A fault of a file is named by the file, the line and the name of its kind; work that is done has no line.
-- It reads: the words of a command line in their places, the names of the kinds, the line of an answer, and what a run
-- leaves.
use Rattle.std.specs.Prelude.{◌≡◌, ◌<◌, ◌⊎◌, ◌++◌, ℕ, List, [], ◌∷◌, length, Option, Some, None, codes, slice_get}
use Rattle.std.specs.Fmt.{decimal}
use Rattle.std.specs.Option.{unwrap_or}
use Rattle.sdc_base.specs.Channels.{Written}
use Rattle.sdc_model.specs.declared.answers.Status.{Status}
use Rattle.sdc_model.specs.declared.answers.Status.TheVariants as status
use Rattle.sdc_model.specs.declared.command_lines.CommandLine.{CommandLine}
use Rattle.sdc_model.specs.declared.command_lines.CommandLine.TheVariants.{Edges, Merge}
use Rattle.source_types.specs.declared.fault_kinds.DesignKind.{DesignKind}
use Rattle.source_types.specs.declared.fault_kinds.DesignKind.TheVariants as design
use Rattle.pin_types.specs.declared.mode_faults.ModeKind.{ModeKind}
use Rattle.pin_types.specs.declared.mode_faults.ModeKind.TheVariants as mode
use Rattle.source_types.specs.declared.fault_kinds.VerilogKind.{VerilogKind}
use Rattle.source_types.specs.declared.fault_kinds.VerilogKind.TheVariants as verilog
use Rattle.source_types.specs.declared.kinds.Fault.{Fault}
use Rattle.source_types.specs.declared.kinds.Kind.{Kind}
use Rattle.source_types.specs.declared.kinds.Kind.TheVariants as kind
use Rattle.source_types.specs.declared.kinds.LibKind.{LibKind}
use Rattle.source_types.specs.declared.kinds.LibKind.TheVariants as lib
use Rattle.source_types.specs.declared.kinds.SdcKind.{SdcKind}
use Rattle.source_types.specs.declared.kinds.SdcKind.TheVariants as sdc
use Rattle.source_types.specs.declared.kinds.TclKind.{TclKind}
use Rattle.source_types.specs.declared.kinds.TclKind.TheVariants as tcl

-- ---- words in their places

-- the command and its arguments; `--`, and the option `--tags` with its number, have no place
abbrev pub placed_words : CommandLine → List (List ℕ)
placed_words (Edges files) = codes "edges" ∷ files
placed_words (Merge out modes) = codes "merge" ∷ codes "-" ∷ codes "-" ∷ codes "-" ∷ out ∷ modes

-- the word at a place, counted from 0; the empty one where there is none
abbrev pub word_at : CommandLine → ℕ → List ℕ
word_at line place = unwrap_or (slice_get (placed_words line) place) []

abbrev pub word_of : Option CommandLine → ℕ → List ℕ
word_of None place = []
word_of (Some line) place = word_at line place

-- ---- names of kinds

abbrev pub tcl_name : TclKind → List ℕ
tcl_name tcl.Unclosed = codes "Unclosed"
tcl_name tcl.ExtraAfterBrace = codes "ExtraAfterBrace"
tcl_name tcl.BadWord = codes "BadWord"
tcl_name tcl.UnknownVariable = codes "UnknownVariable"
tcl_name tcl.BadExpr = codes "BadExpr"
tcl_name tcl.WrongArgs = codes "WrongArgs"
tcl_name (tcl.Number error) = codes "Number"
tcl_name tcl.TooDeep = codes "TooDeep"
tcl_name tcl.TooManyCommands = codes "TooManyCommands"

abbrev pub sdc_name : SdcKind → List ℕ
sdc_name sdc.UnknownCommand = codes "UnknownCommand"
sdc_name sdc.BadOption = codes "BadOption"
sdc_name sdc.BadValue = codes "BadValue"
sdc_name sdc.OutOfProfile = codes "OutOfProfile"
sdc_name sdc.ClockRedefined = codes "ClockRedefined"
sdc_name sdc.ClockOverwritten = codes "ClockOverwritten"
sdc_name sdc.DelayRange = codes "DelayRange"
sdc_name sdc.TooMany = codes "TooMany"

abbrev pub lib_name : LibKind → List ℕ
lib_name lib.NotText = codes "NotText"
lib_name lib.LibForm = codes "LibForm"
lib_name lib.UnknownPin = codes "UnknownPin"
lib_name lib.FunctionForm = codes "FunctionForm"
lib_name lib.FunctionWide = codes "FunctionWide"
lib_name lib.DoubleCell = codes "DoubleCell"

abbrev pub verilog_name : VerilogKind → List ℕ
verilog_name verilog.NotText = codes "NotText"
verilog_name verilog.VerilogForm = codes "VerilogForm"
verilog_name verilog.InoutPort = codes "InoutPort"
verilog_name verilog.DoubleName = codes "DoubleName"
verilog_name verilog.WidthMismatch = codes "WidthMismatch"
verilog_name verilog.UnknownNet = codes "UnknownNet"

abbrev pub design_name : DesignKind → List ℕ
design_name design.UnknownModule = codes "UnknownModule"
design_name design.ModuleCycle = codes "ModuleCycle"
design_name design.UnsupportedCell = codes "UnsupportedCell"
design_name design.WidthMismatch = codes "WidthMismatch"
design_name design.DoubleName = codes "DoubleName"
design_name design.BadName = codes "BadName"
design_name design.TwoDrivers = codes "TwoDrivers"
design_name design.AssignCycle = codes "AssignCycle"
design_name design.TooMany = codes "TooMany"

abbrev pub mode_name : ModeKind → List ℕ
mode_name (mode.CaseConflict pin set derived) = codes "CaseConflict"
mode_name (mode.MasterUnclear count) = codes "MasterUnclear"
mode_name mode.MasterCycle = codes "MasterCycle"
mode_name (mode.NotExact rest) = codes "NotExact"
mode_name mode.PeriodRange = codes "PeriodRange"

-- the name of a kind in its group, or its own where it is in none
abbrev pub kind_name : Kind → List ℕ
kind_name (kind.Tcl of_tcl) = tcl_name of_tcl
kind_name (kind.Sdc of_sdc) = sdc_name of_sdc
kind_name (kind.Lib of_lib) = lib_name of_lib
kind_name (kind.Verilog of_verilog) = verilog_name of_verilog
kind_name (kind.Design of_design) = design_name of_design
kind_name (kind.Mode of_mode) = mode_name of_mode
kind_name kind.NotText = codes "NotText"
kind_name kind.TooLong = codes "TooLong"
kind_name kind.NoEndpoint = codes "NoEndpoint"

-- ---- the line

-- `FILE:LINE: KIND`
abbrev pub source_line : List ℕ → Fault → List ℕ
source_line file fault =
    file ++ (codes ":" ++ (decimal fault.line ++ (codes ": " ++ (kind_name fault.kind ++ codes "\n"))))

-- `cannot read FILE`
abbrev pub unread_line : List ℕ → List ℕ
unread_line file = codes "cannot read " ++ (file ++ codes "\n")

-- `merged file would have N bytes`
abbrev pub too_large_line : ℕ → List ℕ
too_large_line bytes = codes "merged file would have " ++ (decimal bytes ++ codes " bytes\n")

-- `budget of N classes exceeded`
abbrev pub budget_line : ℕ → List ℕ
budget_line classes = codes "budget of " ++ (decimal classes ++ codes " classes exceeded\n")

-- The line of an answer over a command line, or over words that are none; none where the work is done. Those of Loop and
-- Conflict name pins of a design. No command line that stands has one, none answers them (`CauseFits`), and nothing is
-- written for them.
abbrev pub fault_line : Option CommandLine → Status → List ℕ
fault_line line status.Done = []
fault_line line status.Findings = []
fault_line line status.Usage = codes "wrong command line\n"
fault_line line (status.Source fault) = source_line (word_of line fault.file) fault
fault_line line (status.Loop cycle) = []
fault_line line (status.Conflict pin source passing) = []
fault_line line (status.Budget classes) = budget_line classes
fault_line line (status.ReadFault place) = unread_line (word_of line place)
fault_line line status.WriteFault = codes "cannot write\n"
fault_line line status.NoMemory = codes "out of memory\n"
fault_line line (status.TooLarge bytes) = too_large_line bytes

-- ---- what a run leaves in the channel

-- a front of a line, which may be all or nothing of it, stands after the old bytes
abbrev pub HasFront : List ℕ → List ℕ → List ℕ → Type 0
HasFront text before after = (front : List ℕ) × (rest : List ℕ) × (text ≡ front ++ rest) × (after ≡ before ++ front)

-- a front of a line, which may be nothing of it and is not all of it
abbrev pub HasProperFront : List ℕ → List ℕ → List ℕ → Type 0
HasProperFront text before after = (front : List ℕ) × (rest : List ℕ) × (text ≡ front ++ rest) × (0 < length rest) × (after ≡ before ++ front)

-- The whole line of the answer stands after what was there, or a front of it where `Failed` says that a write failed.
-- After WriteFault a front of its line stands there whatever `Failed` says, and after Done and Findings nothing. After want of
-- memory it is a front of its own line; or of the line of an answer that stood, and not all of it:
-- memory may have run out while it was made or written.
abbrev pub LeavesFaults : Option CommandLine → (Status → Type 0) → Type 0 → Status → List ℕ → List ℕ → Type 0
LeavesFaults line Stood Failed status.Done before after = after ≡ before
LeavesFaults line Stood Failed status.Findings before after = after ≡ before
LeavesFaults line Stood Failed status.WriteFault before after = HasFront (fault_line line status.WriteFault) before after
LeavesFaults line Stood Failed status.NoMemory before after =
    HasFront (fault_line line status.NoMemory) before after
    ⊎ ((answer : Status) × Stood answer × HasProperFront (fault_line line answer) before after)
LeavesFaults line Stood Failed answer before after =
    (after ≡ before ++ fault_line line answer) ⊎ (Failed × HasFront (fault_line line answer) before after)

-- the same channels, with the faults of another time
abbrev pub with_faults : List ℕ → Written → Written
with_faults faults written = record written { faults = faults }
