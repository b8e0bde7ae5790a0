-- What is read of lists, one text after the other, over the rules of lists. This project's own.
use Rattle.std.specs.Prelude.{◌≡◌, ◌++◌, ℕ, List, Result, Ok, Err}
use Rattle.source_types.specs.declared.kinds.TclKind.{TclKind}
use Rattle.tcl_model.specs.ListItems.{Lists}

-- the items of a text are added to others, or its list has a fault
abbrev pub AddsItems : List ℕ → List (List ℕ) → Result Unit TclKind → List (List ℕ) → Type 0
AddsItems text old (Ok done) new = (items : List (List ℕ)) × Lists text (Ok items) × (new ≡ old ++ items)
AddsItems text old (Err kind) new = Lists text (Err kind)
