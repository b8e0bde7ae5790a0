-- Names in a set, as names are added.
use Rattle.std.proofs.Common.{◌≡◌, ◌∙◌, ◌||◌, ◌∷◌, ℕ, Bool, true, false, cond, List, String, refl, ap}
use Rattle.std.proofs.lemmas.Map.Text.{hash_set_updates_text}
use Rattle.std.specs.Str.{bytes_eq}
use Rattle.std.specs.String.{string_bytes, string_eq}
use Rattle.indexmap.specs.IndexSet.{IndexSet, UpdatesBy}
use Rattle.text_model.specs.Words.{is_among, same_text}
use Rattle.verilog_net.specs.Contexts.{HasNames}

either : (found among : Bool) → found ≡ among → (t : Bool) → cond t true found ≡ (t || among)
either found among is true = refl
either found among is false = is

-- one more name
pub name_added : {A S : Type 0} (old new : IndexSet (String A) S) (key name : List ℕ) (listed : List (List ℕ)) → key ≡ name
    → UpdatesBy string_eq (λ k. bytes_eq key (string_bytes k)) old new true → HasNames old listed → HasNames new (name ∷ listed)
name_added old new key name listed same updates has other =
    hash_set_updates_text key old new true updates other
    ∙ (either _ (is_among listed other) (has other) (bytes_eq key other)
    ∙ ap (λ k. same_text k other || is_among listed other) same)
