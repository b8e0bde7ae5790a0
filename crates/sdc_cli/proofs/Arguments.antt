-- The arguments of `merge`, word by word.
use Rattle.std.proofs.Common.{◌≡◌, ℕ, List, [], ◌∷◌, ◌++◌, false, Option, Some, None, refl, ap, sym, append_assoc, ◌∙◌}
use Rattle.std.proofs.lemmas.Bool.{cond-false}
use Rattle.std.specs.Option.{option_and_then}
use Rattle.sdc_model.specs.CommandLine.{is_option, after_option, merge_arguments}

-- texts in front of others, where there are others
abbrev pub in_front_of : List (List ℕ) → Option (List (List ℕ)) → Option (List (List ℕ))
in_front_of found others = option_and_then (λ o. Some (found ++ o)) others

in_front_of-more : (found : List (List ℕ)) (word : List ℕ) (others : Option (List (List ℕ)))
    → in_front_of found (option_and_then (λ o. Some (word ∷ o)) others) ≡ in_front_of (found ++ word ∷ []) others
in_front_of-more found word None = refl
in_front_of-more found word (Some others) = ap (λ (all : List (List ℕ)). Some all) (sym (append_assoc found (word ∷ []) others))

-- one more argument
pub merge_arguments-more : (found : List (List ℕ)) (word : List ℕ) (words : List (List ℕ)) → is_option word ≡ false
    → in_front_of found (merge_arguments (word ∷ words)) ≡ in_front_of (found ++ word ∷ []) (merge_arguments words)
merge_arguments-more found word words e =
    ap (in_front_of found) (cond-false (is_option word) (after_option word words) (option_and_then (λ o. Some (word ∷ o)) (merge_arguments words)) e)
    ∙ in_front_of-more found word (merge_arguments words)
