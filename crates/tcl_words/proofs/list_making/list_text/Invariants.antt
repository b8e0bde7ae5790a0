use Rattle.std.proofs.Common.{◌≡◌, ◌++◌, drop}
use Rattle.tcl_model.specs.ListText.{list_text, more_items}
use Rattle.tcl_words.proofs.list_making.list_text.Given as goal

-- what is made so far with the items that are left is the text of all
abbrev pub invariant-loop-item : goal.invariant-loop-item
invariant-loop-item l = l.made ++ more_items (drop l.item-index l.others) ≡ list_text l.items
