-- The items of a text as a list.
use Rattle.std.proofs.Common.{◌≡◌, ℕ, List, Some, None, Ok, Err, sym, ap}
use Rattle.std.specs.Result.{result_ok}
use Rattle.source_types.specs.declared.kinds.TclKind.{TclKind}
use Rattle.tcl_model.specs.ListItems.{Lists}
use Rattle.tcl_model.specs.ListReading.{items_of}
use Rattle.tcl_words.proofs.ListRead.{list_of_is}

-- the items that were read
pub items_are : (text : List ℕ) (items : List (List ℕ)) → Lists text (Ok items) → Some items ≡ items_of text
items_are text items l = sym (ap result_ok (list_of_is text (Ok items) l))

pub no_items : (text : List ℕ) (kind : TclKind) → Lists text (Err kind) → None ≡ items_of text
no_items text kind l = sym (ap result_ok (list_of_is text (Err kind) l))
