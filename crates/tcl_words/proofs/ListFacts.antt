-- Items of a list, one after the other.
use Rattle.std.proofs.Common.{◌≡◌, ◌≤◌, ◌++◌, ℕ, List, [], ◌∷◌, Option, Some, None, Ok, Err, drop, length, refl, sym, ap, subst, ◌∙◌, arith, append_assoc}
use Rattle.std.proofs.lemmas.List.{append-nil}
use Rattle.std.specs.Str.{IsCharBoundary}
use Rattle.sdc_base.specs.Gives.{Meets}
use Rattle.sdc_base.specs.declared.memory.Stop.{Stop}
use Rattle.sdc_base.specs.declared.memory.Stop.TheVariants.{NoMemory, Refused}
use Rattle.source_types.specs.declared.kinds.TclKind.{TclKind}
use Rattle.tcl_model.specs.ListItems.{AreItems, IsItem, ItemFront, Lists, StandsItem, after_parting}
use Rattle.text_model.specs.Row.{found, stops}
use Rattle.tcl_words.specs.declared.lists.Item.{Item}
use Rattle.tcl_words.specs.ItemReads.{ItemAt, ItemFrom}
use Rattle.tcl_words.specs.Spans.{LeadsTo}
use Rattle.tcl_words.proofs.RunFacts.{drop_all}

-- items were read up to a place; with those that stand from there on they are all
pub record ItemsSoFar (text : List ℕ) (at : ℕ) (items : List (List ℕ)) : Type 0 where
  pub row : (more : List (List ℕ)) (end : Option TclKind) → AreItems more (drop at text) end → AreItems (items ++ more) text end
  pub within : at ≤ length text
  pub boundary : IsCharBoundary text at

pub items_none : (text : List ℕ) (items : List (List ℕ)) → items ≡ [] → IsCharBoundary text 0 → ItemsSoFar text 0 items
items_none text items e boundary = record {
  row = λ more end r. subst (λ (xs : List (List ℕ)). AreItems (xs ++ more) text end) (sym e) r;
  within = omega arith;
  boundary = boundary;
}

stands_after : (text : List ℕ) (at begin : ℕ) (front_ : ItemFront) → LeadsTo text at begin (after_parting (drop at text)) → IsItem (drop begin text) front_ → StandsItem (drop at text) front_
stands_after text at begin front_ leads i = subst (λ (t : List ℕ). IsItem t front_) (sym leads.is) i

pub items_more : (text : List ℕ) (at begin : ℕ) (items next : List (List ℕ)) (item : Item) → ItemsSoFar text at items → LeadsTo text at begin (after_parting (drop at text)) → ItemAt text begin item → next ≡ items ++ item.text ∷ [] → ItemsSoFar text item.end next
items_more text at begin items next item so_far leads i e = record {
  row = λ more end r.
      subst (λ (xs : List (List ℕ)). AreItems xs text end) (sym (append_assoc items (item.text ∷ []) more) ∙ ap (λ (xs : List (List ℕ)). xs ++ more) (sym e))
      (so_far.row (item.text ∷ more) end (drop item.end text, stands_after text at begin (found item.text (drop item.end text)) leads i.stands, r));
  within = i.within;
  boundary = i.boundary;
}

pub items_all : (text : List ℕ) (at begin : ℕ) (items : List (List ℕ)) → ItemsSoFar text at items → LeadsTo text at begin (after_parting (drop at text)) → begin ≡ length text → Lists text (Ok items)
items_all text at begin items so_far leads e =
    subst (λ (xs : List (List ℕ)). AreItems xs text None) (append-nil items)
    (so_far.row [] None (stands_after text at begin (stops None) leads (subst (λ (t : List ℕ). IsItem t (stops None)) (sym (drop_all text begin e)) refl)))

pub items_error : (text : List ℕ) (at begin : ℕ) (items : List (List ℕ)) (kind : TclKind) → ItemsSoFar text at items → LeadsTo text at begin (after_parting (drop at text)) → ItemFrom text begin (Err kind) → Lists text (Err kind)
items_error text at begin items kind so_far leads i =
    (items, subst (λ (xs : List (List ℕ)). AreItems xs text (Some kind)) (append-nil items) (so_far.row [] (Some kind) (stands_after text at begin (stops (Some kind)) leads i)))

pub items_stop : (text : List ℕ) (at begin : ℕ) (items : List (List ℕ)) (stop : Stop TclKind) → ItemsSoFar text at items → LeadsTo text at begin (after_parting (drop at text)) → Meets {T = Item} (Err stop) (ItemFrom text begin) → Meets {T = List (List ℕ)} (Err stop) (Lists text)
items_stop text at begin items (Refused kind) so_far leads m = items_error text at begin items kind so_far leads m
items_stop text at begin items NoMemory so_far leads m = tt
