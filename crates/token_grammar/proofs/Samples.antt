-- A text for each symbol, which the machine takes, shows that each symbol derives something.
use Rattle.std.proofs.Common.{◌≡◌, ◌+◌, ℕ, List, [], ◌∷◌, Some, None, if◌then◌else◌}
use Rattle.std.specs.List.{list_all}
use Rattle.sdc_base.proofs.CaseFacts.{by_bool}
use Rattle.token_grammar.proofs.Advancing.{left_derives}
use Rattle.token_grammar.proofs.SyntaxErrors.{nothing_derives}
use Rattle.token_grammar.proofs.Derivations.{by_option}
use Rattle.token_grammar.specs.declared.grammar.SyntaxError.TheVariants.{Token, End}
use Rattle.token_grammar.specs.Machine.{advanced, error_from, error_of}
use Rattle.token_grammar.specs.Texts.{Derives, Table}

some-none : {A : Type 0} (x : A) → Some x ≡ None → ⊥
some-none x h = cc

taken_derives : {S K : Type 0} (table : Table S K) (symbols : List S) (from : ℕ) (kinds : List K) → error_from table symbols from kinds ≡ None → Derives table symbols kinds
taken_derives table symbols from [] =
    by_bool (λ b. (if b then None else Some End) ≡ None → Derives table symbols []) (list_all table.nullable symbols)
    (λ all is. nothing_derives table symbols all)
    (λ some is. absurd (some-none End is))
taken_derives table symbols from (kind ∷ kinds) =
    by_option (λ o. (elim o [ None ↦ Some (Token from) | Some left ↦ error_from table left (from + 1) kinds ]) ≡ None → Derives table symbols (kind ∷ kinds))
    (advanced table symbols kind)
    (λ left step is. left_derives table symbols left kind kinds step (taken_derives table left (from + 1) kinds is))
    (λ step is. absurd (some-none (Token from) is))

-- a sample of each symbol
pub productive : {S K : Type 0} (table : Table S K) (sample : S → List K) → ((symbol : S) → error_of table symbol (sample symbol) ≡ None) → (symbol : S) → (kinds : List K) × Derives table (symbol ∷ []) kinds
productive table sample taken symbol = (sample symbol, taken_derives table (symbol ∷ []) 0 (sample symbol) (taken symbol))
