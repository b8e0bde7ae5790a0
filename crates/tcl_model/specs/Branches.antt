-- The words of `if` (Tcl): a condition, `then` where it is written, a body; after it `elseif` and the same again, any
-- number of times; and at last one more body, or none. `else` may stand before that body, and not alone. The words are
-- taken apart before a condition is evaluated; words that are too few or too many are none of an `if`.
use Rattle.std.specs.Prelude.{ℕ, Bool, List, [], ◌∷◌, Option, Some, None, codes, if◌then◌else◌}
use Rattle.std.specs.Option.{option_map}
use Rattle.source_types.specs.declared.built_ins.Branches.{Branches}
use Rattle.text_model.specs.Words.{same_text}

-- what comes next: a condition; `then` or the body of a condition; its body; what follows a body; the last body
pub data Expects : Type 0 where
  condition_next : Expects
  then_next : List ℕ → Expects
  body_next : List ℕ → Expects
  branch_after : Expects
  last_body : Expects

-- a branch before others
abbrev pub with_branch : List ℕ → List ℕ → Branches → Branches
with_branch condition body others =
    record others { branches = record { condition = condition; body = body } ∷ others.branches }

-- a body that is the last word
abbrev pub ends_with : List ℕ → List (List ℕ) → Option Branches
ends_with body [] = Some (record { branches = []; otherwise = Some body })
ends_with body (word ∷ words) = None

unfoldable pub is_then : List ℕ → Bool
is_then word = same_text word (codes "then")

unfoldable pub is_elseif : List ℕ → Bool
is_elseif word = same_text word (codes "elseif")

unfoldable pub is_else : List ℕ → Bool
is_else word = same_text word (codes "else")

-- the branches that words say
abbrev pub branches_from : Expects → List (List ℕ) → Option Branches
branches_from condition_next [] = None
branches_from condition_next (word ∷ words) = branches_from (then_next word) words
branches_from (then_next condition) [] = None
branches_from (then_next condition) (word ∷ words) =
    if is_then word then branches_from (body_next condition) words
    else option_map (with_branch condition word) (branches_from branch_after words)
branches_from (body_next condition) [] = None
branches_from (body_next condition) (word ∷ words) =
    option_map (with_branch condition word) (branches_from branch_after words)
branches_from branch_after [] = Some (record { branches = []; otherwise = None })
branches_from branch_after (word ∷ words) =
    if is_elseif word then branches_from condition_next words
    else (if is_else word then branches_from last_body words
    else ends_with word words)
branches_from last_body [] = None
branches_from last_body (word ∷ words) = ends_with word words

-- the branches of the words after `if`
abbrev pub branches_of : List (List ℕ) → Option Branches
branches_of words = branches_from condition_next words
