-- That the grammar of commands has one outcome for a text. This project's own rule of reading it.
-- So a fault is answered exactly where the grammar has nothing else.
use Rattle.std.specs.Prelude.{◌≡◌, ℕ, List, Option, Result}
use Rattle.sdc_base.specs.declared.memory.At.{At}
use Rattle.source_types.specs.declared.commands.Command.{Command}
use Rattle.source_types.specs.declared.commands.Next.{Next}
use Rattle.source_types.specs.declared.kinds.TclKind.{TclKind}
use Rattle.tcl_model.specs.Commands.{FirstFrom, Splits}

-- two outcomes at a place and a line of a text are one
abbrev pub HasOneFirst : List ℕ → ℕ → ℕ → Type 0
HasOneFirst text from line =
    (r s : Result (Option Next) (At TclKind)) → FirstFrom text from line r → FirstFrom text from line s → r ≡ s

-- two outcomes of a whole text are one
abbrev pub HasOneSplit : List ℕ → Type 0
HasOneSplit text = (r s : Result (List Command) (At TclKind)) → Splits text r → Splits text s → r ≡ s
