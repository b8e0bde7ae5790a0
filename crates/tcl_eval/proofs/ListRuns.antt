-- Items of texts, and objects of values, one after the other: whatever those after give, all give.
use Rattle.std.proofs.Common.{◌≡◌, ◌++◌, ℕ, List, [], ◌∷◌, length, Option, Some, None, Ok, Err, refl, sym, ap, subst, ◌∙◌, append_assoc, append-nil}
use Rattle.std.specs.Option.{option_map}
use Rattle.sdc_base.specs.Gives.{Meets}
use Rattle.sdc_base.specs.declared.memory.Stop.{Stop}
use Rattle.sdc_base.specs.declared.memory.Stop.TheVariants as stop
use Rattle.source_types.specs.declared.kinds.TclKind.{TclKind}
use Rattle.timing_types.specs.declared.objects.Object.{Object}
use Rattle.timing_types.specs.declared.objects.Value.{Value}
use Rattle.timing_types.specs.declared.objects.Value.TheVariants as value
use Rattle.tcl_model.specs.BuiltIns.{HasItems, HaveItems, Outcome, joined_objects, objects_of, on_value, text_values}
use Rattle.tcl_model.specs.ListItems.{Lists}
use Rattle.tcl_eval.specs.ListReads.{AddsItems}

-- ---- the items of texts

pub items_added : (text : List ℕ) (old new items : List (List ℕ)) (done : Unit) → Lists text (Ok items) → new ≡ old ++ items → AddsItems text old (Ok done) new
items_added text old new items done lists e = (items, lists, e)

pub items_refused : (text : List ℕ) (old new : List (List ℕ)) (s : Stop TclKind) → Meets {T = List (List ℕ)} (Err s) (Lists text) → Meets {T = Unit} (Err s) (λ given. AddsItems text old given new)
items_refused text old new (stop.Refused kind) h = h
items_refused text old new stop.NoMemory h = tt

pub text_has_items : (text : List ℕ) (texts : List (List ℕ)) (values : List Value) → Lists text (Ok texts) → values ≡ text_values texts → HasItems (value.Text text) (Ok values)
text_has_items text texts values lists e = (Ok texts, lists, ap (λ vs. Ok vs) e)

pub text_has_none : (text : List ℕ) (s : Stop TclKind) → Meets {T = List (List ℕ)} (Err s) (Lists text) → Meets {T = List Value} (Err s) (HasItems (value.Text text))
text_has_none text (stop.Refused kind) h = (Err kind, h, refl)
text_has_none text stop.NoMemory h = tt

-- items before those that are given
abbrev pub front : List (List ℕ) → Outcome (List (List ℕ)) → Outcome (List (List ℕ))
front items given = on_value (λ more. Ok (items ++ more)) given

abbrev pub ItemsOn : List (List ℕ) → List (List ℕ) → List (List ℕ) → Type 0
ItemsOn all items rest = (given : Outcome (List (List ℕ))) → HaveItems rest given → HaveItems all (front items given)

front_none : (given : Outcome (List (List ℕ))) → front [] given ≡ given
front_none (Ok items) = refl
front_none (Err kind) = refl

front_more : (items more : List (List ℕ)) (given : Outcome (List (List ℕ))) → front items (front more given) ≡ front (items ++ more) given
front_more items more (Ok others) = ap (λ all. Ok all) (sym (append_assoc items more others))
front_more items more (Err kind) = refl

pub no_text_read : (all : List (List ℕ)) → ItemsOn all [] all
no_text_read all = λ given h. subst (λ r. HaveItems all r) (sym (front_none given)) h

pub text_read : (all items more : List (List ℕ)) (rest : List (List ℕ)) (text : List ℕ) (texts : List (List ℕ)) (done : Unit)
    → ItemsOn all items rest → rest ≡ text ∷ texts → AddsItems text items (Ok done) more → ItemsOn all more texts
text_read all items more rest text texts done on e added = λ given h.
    let found : HaveItems all (front items (front added.0 given)) =
    on (front added.0 given) (subst (λ ts. HaveItems ts (front added.0 given)) (sym e) (Ok added.0, added.1, (given, h, refl))) in
    subst (λ i. HaveItems all (front i given)) (sym added.2) (subst (λ r. HaveItems all r) (front_more items added.0 given) found)

pub text_refused : (all items more : List (List ℕ)) (rest : List (List ℕ)) (text : List ℕ) (texts : List (List ℕ)) (s : Stop TclKind)
    → ItemsOn all items rest → rest ≡ text ∷ texts → Meets {T = Unit} (Err s) (λ given. AddsItems text items given more) → Meets {T = List (List ℕ)} (Err s) (HaveItems all)
text_refused all items more rest text texts (stop.Refused kind) on e h =
    on (Err kind) (subst (λ ts. HaveItems ts (Err kind)) (sym e) (Err kind, h, refl))
text_refused all items more rest text texts stop.NoMemory on e h = tt

pub texts_read : (all items rest : List (List ℕ)) → ItemsOn all items rest → rest ≡ [] → HaveItems all (Ok items)
texts_read all items rest on e =
    subst (λ i. HaveItems all (Ok i)) (append-nil items) (on (Ok []) (subst (λ ts. HaveItems ts (Ok [])) (sym e) refl))

-- ---- the objects of values

-- objects before those of values
abbrev pub joined_after : List Object → List Value → Option (List Object)
joined_after all values = option_map (λ others. all ++ others) (objects_of values)

pub joined_all : (values : List Value) → (length values ≡ 0 → ⊥) → joined_after [] values ≡ joined_objects values
joined_all [] some = absurd (some refl)
joined_all (first ∷ values) some = nothing_before (objects_of (first ∷ values)) where
  nothing_before : (o : Option (List Object)) → option_map (λ others. [] ++ others) o ≡ o
  nothing_before None = refl
  nothing_before (Some objects) = refl

pub joined_none : (values : List Value) → length values ≡ 0 → joined_objects values ≡ None
joined_none [] e = refl
joined_none (first ∷ values) e = absurd (no_length e) where
  no_length : length (first ∷ values) ≡ 0 → ⊥
  no_length e = cc

pub objects_joined : (all objects more : List Object) (rest values : List Value) → rest ≡ value.Objects objects ∷ values → more ≡ all ++ objects → joined_after all rest ≡ joined_after more values
objects_joined all objects more rest values e pushed =
    ap (joined_after all) e ∙ (both (objects_of values) ∙ ap (λ m. joined_after m values) (sym pushed)) where
      both : (o : Option (List Object)) → option_map (λ others. all ++ others) (option_map (λ others. objects ++ others) o) ≡ option_map (λ others. (all ++ objects) ++ others) o
      both None = refl
      both (Some others) = ap (λ list. Some list) (sym (append_assoc all objects others))

pub text_between : (all : List Object) (text : List ℕ) (rest values : List Value) → rest ≡ value.Text text ∷ values → joined_after all rest ≡ None
text_between all text rest values e = ap (joined_after all) e

pub all_joined : (all : List Object) (rest : List Value) → rest ≡ [] → joined_after all rest ≡ Some all
all_joined all rest e = ap (joined_after all) e ∙ ap (λ list. Some list) (append-nil all)
