-- What the machine finds at the end of the tokens, in the order of the stack as it is kept: the next symbol last.
use Rattle.std.proofs.Common.{◌≡◌, ◌≤◌, ◌∙◌, ◌&&◌, ℕ, Bool, true, false, List, [], ◌∷◌, Option, Some, None, length, drop, reverse, refl, sym, ap, subst, if◌then◌else◌}
use Rattle.std.proofs.lemmas.List.{drop_all, reverse-append}
use Rattle.std.proofs.lemmas.List.Folds.{list_all-append}
use Rattle.std.specs.List.{list_all}
use Rattle.token_grammar.proofs.SyntaxErrors.{error_is}
use Rattle.token_grammar.specs.declared.grammar.SyntaxError.{SyntaxError}
use Rattle.token_grammar.specs.declared.grammar.SyntaxError.TheVariants.{End}
use Rattle.token_grammar.specs.Deciding.{Decides}
use Rattle.token_grammar.specs.Machine.{error_from, error_of}
use Rattle.token_grammar.specs.Texts.{ErrorIs, Table}

last_too : (a b : Bool) → (b && (a && true)) ≡ (a && b)
last_too true true = refl
last_too true false = refl
last_too false true = refl
last_too false false = refl

all_reversed : {A : Type 0} (test : A → Bool) (xs : List A) → list_all test (reverse xs) ≡ list_all test xs
all_reversed test [] = refl
all_reversed test (x ∷ xs) =
    ap (list_all test) (reverse-append (x ∷ []) xs) ∙ (list_all-append test (reverse xs) (x ∷ []) ∙ (ap (λ b. b && (test x && true)) (all_reversed test xs) ∙ last_too (test x) (list_all test xs)))

-- at the end of the tokens
pub found_at_end : {S K : Type 0} (table : Table S K) (start : S) (stack : List S) (place : ℕ) (kinds : List K) (all : Bool) → length kinds ≤ place → error_from table (reverse stack) place (drop place kinds) ≡ error_of table start kinds → all ≡ list_all table.nullable stack → (if all then None else Some End) ≡ error_of table start kinds
found_at_end table start stack place kinds all past so_far is =
    let same : list_all table.nullable (reverse stack) ≡ all = all_reversed table.nullable stack ∙ sym is in
    let end : drop place kinds ≡ [] = drop_all place kinds past in
    ap (λ b. if b then None else Some End) (sym same) ∙ (ap (error_from table (reverse stack) place) (sym end) ∙ so_far)

-- what the machine finds is the first syntax error of the text
pub found_error : {S K : Type 0} (table : Table S K) (follow : S → K → Bool) → Decides table follow → (start : S) (kinds : List K) (found : Option SyntaxError) → found ≡ error_of table start kinds → ErrorIs table start kinds found
found_error table follow decides start kinds found is = subst (ErrorIs table start kinds) (sym is) (error_is table follow decides start kinds)
