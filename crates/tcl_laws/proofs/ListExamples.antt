-- Texts that are read as lists, worked out by hand: `a {b c} d` has three items, `a {b` has a brace without its end,
-- and after the brace of `{a};` stands text.
use Rattle.std.proofs.Common.{◌≡◌, [], ◌∷◌, Ok, Err, Some, None, codes, refl}
use Rattle.source_types.specs.declared.kinds.TclKind.TheVariants.{ExtraAfterBrace, Unclosed}
use Rattle.text_model.specs.Bytes.{after, front}
use Rattle.text_model.specs.Continued.{after_newline}
use Rattle.text_model.specs.Enclosed.{after_open}
use Rattle.tcl_model.specs.ListItems.{after_parting, item_piece_at}
use Rattle.tcl_model.specs.ListReading.{items_of, list_of}

three_items : list_of (codes "a {b c} d") ≡ Ok (codes "a" ∷ codes "b c" ∷ codes "d" ∷ [])
unfolding list_of after_parting item_piece_at after_open front after
three_items = refl

spelled_items : list_of (codes " \"a\tb\"\n{c {d}}\\\n\\{;$[e] {} ") ≡ Ok (codes "a\tb" ∷ codes "c {d}" ∷ codes "{;$[e]" ∷ [] ∷ [])
unfolding list_of after_parting item_piece_at after_open front after after_newline
spelled_items = refl

no_items : items_of (codes " \t\r\n") ≡ Some []
unfolding list_of after_parting
no_items = refl

open_brace : list_of (codes "a {b") ≡ Err Unclosed
unfolding list_of after_parting item_piece_at after_open front after
open_brace = refl

open_quote : items_of (codes "\"a") ≡ None
unfolding list_of after_parting item_piece_at front after
open_quote = refl

text_after : list_of (codes "{a};") ≡ Err ExtraAfterBrace
unfolding list_of after_parting item_piece_at after_open front after
text_after = refl
