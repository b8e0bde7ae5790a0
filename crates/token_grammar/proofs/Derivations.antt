-- Derivations put together, and the token that one begins with.
use Rattle.std.proofs.Common.{◌≡◌, ◌++◌, ◌&&◌, true, false, List, [], ◌∷◌, Option, Some, None, refl, append_assoc}
use Rattle.std.proofs.lemmas.Bool.{and_from, or_right}
use Rattle.std.specs.Option.{is_some}
use Rattle.token_grammar.specs.Deciding.{may_begin}
use Rattle.token_grammar.specs.Texts.{Derives, Table, begins, done, skips}

-- an option is something or nothing, with the equation at hand
pub by_option : {A : Type 0} (P : Option A → Type 0) (o : Option A) → ((x : A) → o ≡ Some x → P (Some x)) → (o ≡ None → P None) → P o
by_option P (Some x) some none = some x refl
by_option P None some none = none refl

-- symbols after symbols derive tokens after tokens
pub joined : {S K : Type 0} (table : Table S K) {first second : List S} {xs ys : List K} → Derives table first xs → Derives table second ys → Derives table (first ++ second) (xs ++ ys)
joined table done e = e
joined table (begins is d) e = let h = joined table d e in begins is (rw append_assoc at h)
joined table (skips may d) e = skips may (joined table d e)

-- where each symbol derives something, symbols in a row do
pub row_derives : {S K : Type 0} (table : Table S K) → ((symbol : S) → (kinds : List K) × Derives table (symbol ∷ []) kinds) → (symbols : List S) → (kinds : List K) × Derives table symbols kinds
row_derives table each [] = ([], done)
row_derives table each (symbol ∷ symbols) =
    let one = each symbol in
    let rest = row_derives table each symbols in
    (one.0 ++ rest.0, joined table one.1 rest.1)

-- the first token of what symbols derive may begin them
pub begun_by : {S K : Type 0} (table : Table S K) {symbols : List S} {kind : K} {kinds : List K} → Derives table symbols (kind ∷ kinds) → may_begin table symbols kind false ≡ true
begun_by table (begins is d) = rw is refl
begun_by table {kind = k} (skips {symbol = s} {symbols = ss} may d) =
    or_right (is_some (table.next s k)) (table.nullable s && may_begin table ss k false) (and_from (table.nullable s) (may_begin table ss k false) may (begun_by table d))
