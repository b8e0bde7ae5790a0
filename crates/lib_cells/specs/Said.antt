-- Words for parts of what a statement of a library's text says (Liberty), beside the definitions. This project's own.
use Rattle.std.specs.Prelude.{◌==◌, ℕ, Bool, List, filter, map}
use Rattle.std.specs.List.{list_any}
use Rattle.library_model.specs.LibertyGrammar.{sign_of}
use Rattle.library_model.specs.LibertyTokens.{Token}

-- a `{` is among tokens
abbrev pub has_brace : List Token → Bool
has_brace tokens = list_any (λ t. sign_of t == 123) tokens

-- the texts of the tokens that are no signs
abbrev pub plain_texts : List Token → List (List ℕ)
plain_texts tokens = map (λ (t : Token). t.text) (filter (λ t. sign_of t == 0) tokens)
