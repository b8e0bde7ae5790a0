-- That the grammar of lists relates one outcome to a text, which the reading of the text gives. This project's own
-- rule. So a text always has items or a first fault and never both, and a fault is answered exactly where the grammar
-- has nothing else.
use Rattle.std.specs.Prelude.{◌≡◌, ◌↔◌, ℕ, List, Result}
use Rattle.source_types.specs.declared.kinds.TclKind.{TclKind}
use Rattle.tcl_model.specs.ListItems.{Lists}
use Rattle.tcl_model.specs.ListReading.{list_of}

-- what the grammar relates to a text is what it is read as
abbrev pub IsReadAlone : List ℕ → Type 0
IsReadAlone text = (outcome : Result (List (List ℕ)) TclKind) → Lists text outcome ↔ (list_of text ≡ outcome)
